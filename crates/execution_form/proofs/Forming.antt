-- The form of an execution, from its places and back.
use Rattle.std.proofs.Common.{◌≡◌, ℕ, List, [], ◌∷◌, Option, Some, None, Contains, All, slice_get, length, map, refl, sym, ◌∙◌, ap, subst, inl, inr}
use Rattle.std.proofs.lemmas.Bool.{cases_order}
use Rattle.std.proofs.lemmas.Option.{slice_get_within}
use Rattle.std.proofs.lemmas.List.Elements.{Contains-append_cases}
use Rattle.std.specs.List.{flat_map}
use Rattle.program.proofs.Lists.{contains_at, place_of, all_of, contains_mapped, contains_nil, all_head, all_tail, slice_get_mapped, slice_get_of}
use Rattle.program.specs.Program.{Prog}
use Rattle.action_orders.specs.declared.action.Action.{Action}
use Rattle.action_orders.specs.declared.action.Entry.{Entry}
use Rattle.action_orders.specs.declared.action.Note.{Note}
use Rattle.action_orders.specs.declared.action.Note.TheVariants.{Sees}
use Rattle.action_orders.specs.declared.execution.ThreadPart.{ThreadPart}
use Rattle.action_orders.specs.Execution.{Exec, IsExecution, IsEntryOf, HasNote}
use Rattle.action_orders.specs.Actions.{Act, Of, Default, Var, Is, IsRead, IsWrite, IsNamed, IsAction, actions, entries, variable, variables, volatiles}
use Rattle.action_orders.specs.Actions as acts
use Rattle.action_orders.specs.WellFormed.{HasId, FormAt, IsThere}
use Rattle.least_break.specs.Least.{IsBelow, IsLesser, IsScanned, IsLeastBreak}
use Rattle.execution_form.specs.Facts.{HasVolatile, IsSo}
use Rattle.execution_form.specs.Needs.{volatile_of, plain_of, sync_id, IsSyncId}
use Rattle.execution_form.specs.Form.{IsRightEntry, IsRightAt, IsRightAtPlace}
use Rattle.execution_form.proofs.Needing.{named, volatile_is, plain_is, is_volatile, is_plain, seen_is, is_seen, read_sees, sync_is, is_sync}

-- ---- Entries and their actions

pub record IsEntryWith (e : Exec) (id : ℕ) (a : Action) : Type 0 where
  pub place : ℕ
  pub entry : Entry
  pub at : slice_get (entries e) place ≡ Some entry
  pub action : entry.action ≡ a
  pub named : entry.action.id ≡ id

pub entry_with : (e : Exec) (id : ℕ) (a : Action) → HasId e id a → IsEntryWith e id a
entry_with e id a has =
    let (i, at_a) = place_of (actions (entries e)) a has.action in
    let (n, at, is) = slice_get_mapped (λ (n : Entry). n.action) (entries e) i a at_a in
    record { place = i; entry = n; at = at; action = is; named = ap (λ (x : Action). x.id) is ∙ has.named }

pub has_id : (e : Exec) (i : ℕ) (n : Entry) → slice_get (entries e) i ≡ Some n → HasId e n.action.id n.action
has_id e i n at = record { action = contains_mapped (λ (m : Entry). m.action) (entries e) n (contains_at (entries e) i n at); named = refl }

all_parts : (ts : List ThreadPart) (n : Entry) → All (λ t. All (IsEntryOf t.thread) t.entries) ts → Contains (flat_map (λ t. t.entries) ts) n → (t : ThreadPart) × IsEntryOf t.thread n
all_parts [] n shape there = absurd (contains_nil n there)
all_parts (t ∷ ts) n shape there = elim (Contains-append_cases t.entries (flat_map (λ u. u.entries) ts) n there) [
  | inl here ↦ (t, all_of (IsEntryOf t.thread) t.entries n (all_head (λ u. All (IsEntryOf u.thread) u.entries) t ts shape) here)
  | inr later ↦ all_parts ts n (all_tail (λ u. All (IsEntryOf u.thread) u.entries) t ts shape) later
]

noted : (e : Exec) (i : ℕ) (n : Entry) → IsExecution e → slice_get (entries e) i ≡ Some n → HasNote n.action.kind n.note
noted e i n shape at = let (t, own) = all_parts e.threads n shape.entries (contains_at (entries e) i n at) in own.note

-- ---- From the places to the identifier

pub record AreRight (p : Prog) (e : Exec) (id : ℕ) : Type 0 where
  pub entries : (i : ℕ) (n : Entry) → slice_get (entries e) i ≡ Some n → n.action.id ≡ id → IsRightAt p e i
  pub order : (r : ℕ) → slice_get e.so r ≡ Some id → IsRightAtPlace e r

sees_default : (p : Prog) (e : Exec) (n : Entry) (v : Var) → Contains (entries e) n → n.action.operand ≡ variable v → n.note ≡ Sees None → acts.Sees e v (Of n.action) (Default v)
sees_default p e n v there operand note = (None, subst (λ (x : Note). Contains (entries e) (record { action = n.action; note = x })) note there, operand, refl)

sees_write : (p : Prog) (e : Exec) (n : Entry) (v : Var) (id : ℕ) (b : Action) → Contains (entries e) n → n.action.operand ≡ variable v → n.note ≡ Sees (Some id) → HasId e id b → acts.Sees e v (Of n.action) (Of b)
sees_write p e n v id b there operand note has = (Some id, subst (λ (x : Note). Contains (entries e) (record { action = n.action; note = x })) note there, operand, (b, has.action, has.named, refl))

read_operand : (n : Entry) (v : Var) → IsRead v (Of n.action) → n.action.operand ≡ variable v
read_operand n v (acts.plain (k, o)) = o
read_operand n v (acts.volatile (k, o)) = o

writes : (p : Prog) (e : Exec) (n : Entry) (v : Var) (seen : Option ℕ) → Contains (entries e) n → IsRead v (Of n.action) → n.note ≡ Sees seen → IsSo p e (named v seen) →
    (w : Act) × acts.Sees e v (Of n.action) w × IsAction p e w × IsWrite v w
writes p e n v None there read note so = (Default v, sees_default p e n v there (read_operand n v read) note, so, acts.default refl)
writes p e n v (Some id) there read note (b, has, write) = (Of b, sees_write p e n v id b there (read_operand n v read) note has, has.action, write)

pub form_of : (p : Prog) (e : Exec) (id : ℕ) → IsExecution e → AreRight p e id → FormAt p e id
form_of p e id shape right = record {
  once = λ i j m n order at_i at_j id_i id_j. (right.entries j n at_j id_j).new i m n order at_i at_j (id_i ∙ sym id_j);
  operand = λ a has. (let x = entry_with e id a has in subst (λ (b : Action). IsThere p b.operand) x.action (at x).operand);
  write = λ a v has read. (let x = entry_with e id a has in subst (λ (b : Action). (w : Act) × acts.Sees e v (Of b) w × IsAction p e w × IsWrite v w) x.action (written x v (subst (λ (b : Action). IsRead v (Of b)) (sym x.action) read)));
  volatile = λ a v has is. (let x = entry_with e id a has in (at x).volatile (HasVolatile v.class v.name) (ap (λ (b : Action). volatile_of b) x.action ∙ is_volatile a v is));
  plain = λ a v has is. (let x = entry_with e id a has in (at x).plain (HasVolatile v.class v.name) (ap (λ (b : Action). plain_of b) x.action ∙ is_plain a v is));
  listed = λ a has sync. (let x = entry_with e id a has in (at x).listed id (ap (λ (b : Action). sync_id b) x.action ∙ is_sync a sync ∙ ap Some has.named));
  known = λ there. (let (r, at) = place_of e.so id there in (right.order r at).known id at);
  listed_once = λ i j order at_i at_j. (right.order j at_j).new i id order at_i at_j;
}
  where
    at : {a : Action} (x : IsEntryWith e id a) → IsRightEntry p e x.entry
    at x = (right.entries x.place x.entry x.at x.named).right x.entry x.at

    written : {a : Action} (x : IsEntryWith e id a) (v : Var) → IsRead v (Of x.entry.action) → (w : Act) × acts.Sees e v (Of x.entry.action) w × IsAction p e w × IsWrite v w
    written x v read =
        let (seen, note) = read_sees x.entry v (noted e x.place x.entry shape x.at) read in
        writes p e x.entry v seen (contains_at (entries e) x.place x.entry x.at) read note ((at x).write (named v seen) (is_seen x.entry v seen read note))

-- ---- And back

-- of entries with the identifier there is one
same_entry : (p : Prog) (e : Exec) (id i j : ℕ) (m n : Entry) → FormAt p e id → slice_get (entries e) i ≡ Some m → slice_get (entries e) j ≡ Some n → m.action.id ≡ id → n.action.id ≡ id → m ≡ n
same_entry p e id i j m n form at_i at_j id_i id_j = elim (cases_order i j) [
  | inl eq ↦ one (sym at_i ∙ ap (slice_get (entries e)) eq ∙ at_j)
  | inr (inl below) ↦ absurd (form.once i j m n below at_i at_j id_i id_j)
  | inr (inr above) ↦ absurd (form.once j i n m above at_j at_i id_j id_i)
]
  where
    one : {X : Type 0} {x y : X} → Some x ≡ Some y → x ≡ y
    one e = cc

sees_is : (p : Prog) (e : Exec) (i : ℕ) (n : Entry) (v : Var) (seen : Option ℕ) → FormAt p e n.action.id → slice_get (entries e) i ≡ Some n → n.note ≡ Sees seen → IsRead v (Of n.action) → IsSo p e (named v seen)
sees_is p e i n v seen form at note read =
    let (w, (other, there, operand, is), action, write) = form.write n.action v (has_id e i n at) read in
    let (j, at_j) = place_of (entries e) (record { action = n.action; note = Sees other }) there in
    let same : n.note ≡ Sees other = ap (λ (m : Entry). m.note) (same_entry p e n.action.id i j n (record { action = n.action; note = Sees other }) form at at_j refl refl) in
    subst (λ (o : Option ℕ). IsSo p e (named v o)) (sees_one (sym same ∙ note)) (so other w is action write)
  where
    sees_one : {x y : Option ℕ} → Sees x ≡ Sees y → x ≡ y
    sees_one e = cc

    so : (o : Option ℕ) (w : Act) → IsNamed e v o w → IsAction p e w → IsWrite v w → IsSo p e (named v o)
    so None w is action write = subst (IsAction p e) is action
    so (Some id) w (b, inside, name, is) action write = (b, record { action = inside; named = name }, subst (IsWrite v) is write)

pub right_entry : (p : Prog) (e : Exec) (i : ℕ) (n : Entry) → FormAt p e n.action.id → slice_get (entries e) i ≡ Some n → IsRightEntry p e n
right_entry p e i n form at = record {
  operand = form.operand n.action has;
  write = λ s is. (let r = seen_is n s is in subst (IsSo p e) (sym r.sees.states) (sees_is p e i n r.sees.var r.sees.seen form at r.sees.note r.read));
  volatile = λ s is. (let x = volatile_is n.action.kind n.action.operand s is in subst (IsSo p e) (sym x.states) (form.volatile n.action x.var has (elim x.kind [ inl k ↦ inl (k, x.operand) | inr k ↦ inr (k, x.operand) ])));
  plain = λ s is so. (let x = plain_is n.action.kind n.action.operand s is in form.plain n.action x.var has (elim x.kind [ inl k ↦ inl (k, x.operand) | inr k ↦ inr (k, x.operand) ]) (subst (IsSo p e) x.states so));
  listed = λ id is. (let (sync, same) = sync_is n.action id is in subst (Contains e.so) same (form.listed n.action has sync));
}
  where
    has : HasId e n.action.id n.action
    has = has_id e i n at

pub right_at : (p : Prog) (e : Exec) (i id : ℕ) → slice_get (map (λ n. n.action.id) (entries e)) i ≡ Some id → FormAt p e id → IsRightAt p e i
right_at p e i id at form = record {
  right = λ n is. right_entry p e i n (subst (FormAt p e) (sym (same n is)) form) is;
  new = λ j m n order at_j at_i alike. form.once j i m n order at_j at_i (alike ∙ same n at_i) (same n at_i);
}
  where
    same : (n : Entry) → slice_get (entries e) i ≡ Some n → n.action.id ≡ id
    same n is = one (sym (slice_get_of (λ (m : Entry). m.action.id) (entries e) i n is) ∙ at)
      where
        one : {x y : ℕ} → Some x ≡ Some y → x ≡ y
        one e = cc

pub right_place : (p : Prog) (e : Exec) (r id : ℕ) → slice_get e.so r ≡ Some id → FormAt p e id → IsRightAtPlace e r
right_place p e r id at form = record {
  known = λ x is. subst (IsSyncId e) (one (sym at ∙ is)) (form.known (contains_at e.so r id at));
  new = λ q x order at_q at_r. form.listed_once q r order (at_q ∙ ap Some (one (sym at_r ∙ at))) at;
}
  where
    one : {x y : ℕ} → Some x ≡ Some y → x ≡ y
    one e = cc

-- ---- The least identifier

pub least_form : (p : Prog) (e : Exec) (order threads result : Option ℕ) → IsExecution e → IsScanned (IsRightAtPlace e) e.so (length e.so) order →
    IsScanned (IsRightAt p e) (map (λ n. n.action.id) (entries e)) (length (entries e)) threads → IsLesser order threads result → IsLeastBreak (FormAt p e) result
least_form p e order threads result shape in_order in_threads lesser = go result refl
  where
    ids : List ℕ
    ids = map (λ n. n.action.id) (entries e)

    meets : (id : ℕ) → IsBelow result id → FormAt p e id
    meets id below = form_of p e id shape (record {
      entries = λ i n at is. in_threads.passed i id (slice_get_within (entries e) i n at) (slice_get_of (λ (m : Entry). m.action.id) (entries e) i n at ∙ ap Some is) (lesser.second id below);
      order = λ r at. in_order.passed r id (slice_get_within e.so r id at) at (lesser.first id below);
    })

    fails : (id : ℕ) → result ≡ Some id → FormAt p e id → ⊥
    fails id is form = elim (lesser.found id is) [
      | inl one ↦ (let (r, at, never) = in_order.failed id one in never (right_place p e r id at form))
      | inr other ↦ (let (i, at, never) = in_threads.failed id other in never (right_at p e i id at form))
    ]

    go : (x : Option ℕ) → result ≡ x → IsLeastBreak (FormAt p e) x
    go None is = λ id. meets id (subst (λ (y : Option ℕ). IsBelow y id) (sym is) tt)
    go (Some id) is = record { breaks = fails id is; before = λ n below. meets n (subst (λ (y : Option ℕ). IsBelow y n) (sym is) below) }
