-- In a well-formed execution an identifier names one entry: a read sees one write, and a write stores one value.
use Rattle.std.proofs.Common.{◌≡◌, ◌<◌, ℕ, ℤ, Some, None, Option, slice_get, refl, sym, ◌∙◌, ap, subst, inl, inr, ◌⊎◌, Contains}
use Rattle.std.proofs.lemmas.Option.{same_Some}
use Rattle.std.proofs.lemmas.Bool.{cases_order}
use Rattle.program.specs.Program.{Prog}
use Rattle.program.proofs.Lists.{contains_map, place_of}
use Rattle.action_orders.specs.declared.action.Action.{Action}
use Rattle.action_orders.specs.declared.action.Entry.{Entry}
use Rattle.action_orders.specs.declared.action.Note.TheVariants as note
use Rattle.action_orders.specs.Execution.{Exec}
use Rattle.action_orders.specs.Actions.{Act, Default, Of, Var, Sees, Stores, IsNamed, actions, entries}
use Rattle.action_orders.specs.WellFormed.{IsWellFormed}
use Rattle.straight.proofs.LastSeen.{same_seen}

-- two places with one identifier are one
pub place_once : (p : Prog) (e : Exec) (i j : ℕ) (m n : Entry) → IsWellFormed p e → slice_get (entries e) i ≡ Some m → slice_get (entries e) j ≡ Some n →
    m.action.id ≡ n.action.id → i ≡ j
place_once p e i j m n formed is_m is_n same = go (cases_order i j)
  where
    go : (i ≡ j) ⊎ ((i < j) ⊎ (j < i)) → i ≡ j
    go (inl is) = is
    go (inr (inl before)) = absurd ((formed.form n.action.id).once i j m n before is_m is_n same refl)
    go (inr (inr after)) = absurd ((formed.form n.action.id).once j i n m after is_n is_m refl same)

-- two entries with one identifier are one
pub entry_once : (p : Prog) (e : Exec) (m n : Entry) → IsWellFormed p e → Contains (entries e) m → Contains (entries e) n → m.action.id ≡ n.action.id → m ≡ n
entry_once p e m n formed in_m in_n same = go (place_of (entries e) m in_m) (place_of (entries e) n in_n)
  where
    go : (i : ℕ) × (slice_get (entries e) i ≡ Some m) → (j : ℕ) × (slice_get (entries e) j ≡ Some n) → m ≡ n
    go (i, is_m) (j, is_n) = same_Some m n (sym is_m ∙ ap (λ (k : ℕ). slice_get (entries e) k) (place_once p e i j m n formed is_m is_n same) ∙ is_n)

-- the same of actions
pub action_once : (p : Prog) (e : Exec) (a b : Action) → IsWellFormed p e → Contains (actions (entries e)) a → Contains (actions (entries e)) b → a.id ≡ b.id → a ≡ b
action_once p e a b formed in_a in_b same = go (contains_map (λ (n : Entry). n.action) (entries e) a in_a) (contains_map (λ (n : Entry). n.action) (entries e) b in_b)
  where
    go : (m : Entry) × Contains (entries e) m × (m.action ≡ a) → (n : Entry) × Contains (entries e) n × (n.action ≡ b) → a ≡ b
    go (m, in_m, is_a) (n, in_n, is_b) =
        let ids : m.action.id ≡ n.action.id = ap (λ (x : Action). x.id) is_a ∙ same ∙ sym (ap (λ (x : Action). x.id) is_b) in
        sym is_a ∙ ap (λ (x : Entry). x.action) (entry_once p e m n formed in_m in_n ids) ∙ is_b

same_stored : (a b : ℤ) → note.Stores a ≡ note.Stores b → a ≡ b
same_stored a b is = cc

-- a write stores one value
pub stores_once : (p : Prog) (e : Exec) (w : Act) (a b : ℤ) → IsWellFormed p e → Stores e w a → Stores e w b → a ≡ b
stores_once p e (Default v) a b formed is_a is_b = is_a ∙ sym is_b
stores_once p e (Of w) a b formed in_a in_b = same_stored a b
    (ap (λ (n : Entry). n.note) (entry_once p e (record { action = w; note = note.Stores a }) (record { action = w; note = note.Stores b }) formed in_a in_b refl))

named_once : (p : Prog) (e : Exec) (v : Var) (seen : Option ℕ) (w x : Act) → IsWellFormed p e → IsNamed e v seen w → IsNamed e v seen x → w ≡ x
named_once p e v None w x formed is_w is_x = is_w ∙ sym is_x
named_once p e v (Some id) w x formed (a, in_a, id_a, is_w) (b, in_b, id_b, is_x) = is_w ∙ ap Of (action_once p e a b formed in_a in_b (id_a ∙ sym id_b)) ∙ sym is_x

-- a read sees one write
pub sees_once : (p : Prog) (e : Exec) (v : Var) (r w x : Act) → IsWellFormed p e → Sees e v r w → Sees e v r x → w ≡ x
sees_once p e v (Default u) w x formed sees_w sees_x = absurd sees_w
sees_once p e v (Of r) w x formed (seen, inside, operand_is, named) (seen', inside', operand_is', named') =
    let same : seen ≡ seen' = same_seen seen seen'
    (ap (λ (n : Entry). n.note) (entry_once p e (record { action = r; note = note.Sees seen }) (record { action = r; note = note.Sees seen' }) formed inside inside' refl)) in
    named_once p e v seen' w x formed (subst (λ (o : Option ℕ). IsNamed e v o w) same named) named'
