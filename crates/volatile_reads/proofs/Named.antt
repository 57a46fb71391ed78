-- Names of actions, and the writes that reads see.
use Rattle.std.proofs.Common.{◌≡◌, ℕ, Option, Some, None, slice_get, Contains, refl, sym, ◌∙◌, ap, ap₂, subst}
use Rattle.program.proofs.Lists.{place_of}
use Rattle.program.specs.Program.{Prog}
use Rattle.program.specs.declared.kind.Kind.TheVariants.{VolatileRead}
use Rattle.action_orders.specs.declared.action.Action.{Action}
use Rattle.action_orders.specs.declared.action.ActionRef.TheVariants.{Id}
use Rattle.action_orders.specs.declared.action.Entry.{Entry}
use Rattle.action_orders.specs.declared.action.Note.{Note}
use Rattle.action_orders.specs.declared.action.Note.TheVariants as note
use Rattle.action_orders.specs.Execution.{Exec}
use Rattle.action_orders.specs.Actions.{Act, Of, Default, Var, IsAction, Is, IsWrite, IsNamed, Sees, name_of, variable, entries}
use Rattle.action_orders.specs.Actions as acts
use Rattle.orders.specs.Flat.{IsOrdered}
use Rattle.orders.proofs.Places.{one, action_at, at_of}
use Rattle.orders.proofs.Sync.{id_place, same_action}
use Rattle.orders.proofs.Said.{var}

pub one_default : (v w : Var) → name_of (Default v) ≡ name_of (Default w) → v ≡ w
one_default v w e = let c : v.class ≡ w.class = cc in let n : v.name ≡ w.name = cc in ap₂ var c n

pub one_variable : (v w : Var) → variable v ≡ variable w → v ≡ w
one_variable v w e = let c : v.class ≡ w.class = cc in let n : v.name ≡ w.name = cc in ap₂ var c n

pub no_id : (v : Var) (id : ℕ) → name_of (Default v) ≡ Id id → ⊥
no_id v id e = cc

pub one_id : (k l : ℕ) → Id k ≡ Id l → k ≡ l
one_id k l e = cc

-- of two actions with one name
pub act_once : (p : Prog) (e : Exec) (x y : Act) → IsOrdered p e → IsAction p e x → IsAction p e y → name_of x ≡ name_of y → x ≡ y
act_once p e (Default u) (Default v) ord act_x act_y same = ap Default (one_default u v same)
act_once p e (Default u) (Of b) ord act_x act_y same = absurd (no_id u b.id same)
act_once p e (Of a) (Default v) ord act_x act_y same = absurd (no_id v a.id (sym same))
act_once p e (Of a) (Of b) ord act_x act_y same =
    let (i, at_i) = at_of p e a act_x in
    let (j, at_j) = at_of p e b act_y in
    ap Of (same_action p e i j a b ord at_i at_j (one_id a.id b.id same))

-- ---- Writes

no_default : (a : Action) (v : Var) → Of a ≡ Default v → ⊥
no_default a v e = cc

pub default_write : (v w : Var) → IsWrite v (Default w) → w ≡ v
default_write v w (acts.default is) = one_default w v (ap name_of is)
default_write v w (acts.plain never) = absurd never
default_write v w (acts.volatile never) = absurd never

pub read_no_write : (u v : Var) (a : Action) → Is VolatileRead (variable u) (Of a) → IsWrite v (Of a) → ⊥
read_no_write u v a read (acts.default is) = no_default a v is
read_no_write u v a read (acts.plain is) = let k = read.0 in let l = is.0 in cc
read_no_write u v a read (acts.volatile is) = let k = read.0 in let l = is.0 in cc

-- the write that a note names is one
pub named_once : (p : Prog) (e : Exec) (v : Var) (seen : Option ℕ) (w x : Act) → IsOrdered p e → IsNamed e v seen w → IsNamed e v seen x → w ≡ x
named_once p e v None w x ord is_w is_x = is_w ∙ sym is_x
named_once p e v (Some id) w x ord (a, in_a, id_a, is_w) (b, in_b, id_b, is_x) =
    let (i, at_i) = at_of p e a in_a in
    let (j, at_j) = at_of p e b in_b in
    is_w ∙ ap Of (same_action p e i j a b ord at_i at_j (id_a ∙ sym id_b)) ∙ sym is_x

-- and it is named in one way
pub one_name : (e : Exec) (v : Var) (seen noted : Option ℕ) (w : Act) → IsNamed e v seen w → IsNamed e v noted w → seen ≡ noted
one_name e v None None w is_w is_x = refl
one_name e v None (Some id) w is_w (b, in_b, id_b, is_x) = absurd (no_default b v (sym is_x ∙ is_w))
one_name e v (Some id) None w (a, in_a, id_a, is_w) is_x = absurd (no_default a v (sym is_w ∙ is_x))
one_name e v (Some id) (Some id') w (a, in_a, id_a, is_w) (b, in_b, id_b, is_x) = ap Some (sym id_a ∙ one_id a.id b.id (ap name_of (sym is_w ∙ is_x)) ∙ id_b)

-- ---- What a read sees

-- the note of an entry is that of its action
pub one_note : (p : Prog) (e : Exec) (i : ℕ) (n : Entry) (m : Note) → IsOrdered p e → slice_get (entries e) i ≡ Some n → Contains (entries e) (record { action = n.action; note = m }) → n.note ≡ m
one_note p e i n m ord at there =
    let (j, at_j) = place_of (entries e) (record { action = n.action; note = m }) there in
    let same : i ≡ j = id_place p e i j n.action n.action ord (action_at e i n at) (action_at e j (record { action = n.action; note = m }) at_j) refl in
    ap (λ (x : Entry). x.note) (one (sym at ∙ ap (slice_get (entries e)) same ∙ at_j))

-- what was read of the note names the write that the read sees
pub seen_named : (p : Prog) (e : Exec) (i : ℕ) (n : Entry) (v : Var) (w : Act) (seen : Option ℕ) → IsOrdered p e → slice_get (entries e) i ≡ Some n → ((x : Option ℕ) → n.note ≡ note.Sees x → seen ≡ x) →
    Sees e v (Of n.action) w → IsNamed e v seen w
seen_named p e i n v w seen ord at reads (x, there, operand, named) = subst (λ (y : Option ℕ). IsNamed e v y w) (sym (reads x (one_note p e i n (note.Sees x) ord at there))) named
