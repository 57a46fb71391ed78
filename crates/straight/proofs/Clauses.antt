-- The clauses of well-formedness for the execution of a straight program.
use Rattle.std.proofs.Common.{◌≡◌, ◌<◌, ◌≤◌, ℕ, zero, suc, List, [], ◌∷◌, ◌++◌, map, filter, Some, None, Option, Bool, true, false, cond, slice_get, refl, sym, ◌∙◌, ap, subst, arith, inl, inr, ◌⊎◌, Contains}
use Rattle.std.proofs.lemmas.Bool.{false≢true}
use Rattle.std.proofs.lemmas.List.Elements.{Contains-append_right}
use Rattle.std.proofs.lemmas.Option.{none-some, same_Some}
use Rattle.program.specs.Program.{Prog}
use Rattle.program.specs.Straight.{IsStraight}
use Rattle.program.specs.declared.kind.Kind.TheVariants as kind
use Rattle.program.specs.declared.method.Method.{Method}
use Rattle.program.specs.declared.program.Variable.{Variable}
use Rattle.program.proofs.Lists.{contains_nil, contains_here, contains_later, contains_cases, contains_one, contains_map, contains_mapped, contains_at, all_of}
use Rattle.action_orders.specs.declared.action.Action.{Action}
use Rattle.action_orders.specs.declared.action.ActionRef.TheVariants as refs
use Rattle.action_orders.specs.declared.action.Entry.{Entry}
use Rattle.action_orders.specs.declared.action.Note.TheVariants as note
use Rattle.action_orders.specs.Actions.{Act, Default, Of, Var, IsAction, Is, IsBy, IsRead, IsWrite, Sees, actions, entries, thread_actions, variable, variables, volatiles, var_of, name_of}
use Rattle.action_orders.specs.Actions as acts
use Rattle.action_orders.specs.Orders.{sync_list}
use Rattle.action_orders.specs.WellFormed.{IsSync, IsThere, HasId, FormAt}
use Rattle.straight.specs.Meaning.{initial, entries_from, first_entry, last_entry, last_id, main_entries, execution_of}
use Rattle.straight.proofs.Known.{IsWriteTo}
use Rattle.straight.proofs.LastSeen.{IsMiddle, SeesLast}
use Rattle.straight.proofs.LastSeen as middle
use Rattle.straight.proofs.Whole.{rising_all, IsEntryOfMain, is_first, is_middle, is_last, entry_of_main, entries_main, in_entries, in_actions, entry_of_action}
use Rattle.straight.proofs.WellFormed.{kind_of_action, no_volatile_read, no_volatile_write, IsReadOfMain, read_of_main}
use Rattle.straight.proofs.Rising.{rising_places}

-- ---- Volatile variables: there are none

filter_member : (xs : List Variable) (w : Variable) → Contains (filter (λ v. v.volatile) xs) w → Contains xs w × (w.volatile ≡ true)
filter_member [] w h = absurd (contains_nil w h)
filter_member (x ∷ xs) w h = go x.volatile refl (λ t. filter_member xs w t) h
  where
    go : (b : Bool) → x.volatile ≡ b → (Contains (filter (λ v. v.volatile) xs) w → Contains xs w × (w.volatile ≡ true)) → Contains (filter (λ v. v.volatile) (x ∷ xs)) w → Contains (x ∷ xs) w × (w.volatile ≡ true)
    go true e rest inside = kept (contains_cases x w (filter (λ v. v.volatile) xs) (subst (λ (b : Bool). Contains (cond b (x ∷ filter (λ v. v.volatile) xs) (filter (λ v. v.volatile) xs)) w) e inside))
      where
        kept : (x ≡ w) ⊎ Contains (filter (λ v. v.volatile) xs) w → Contains (x ∷ xs) w × (w.volatile ≡ true)
        kept (inl is) = (subst (Contains (x ∷ xs)) is (contains_here x xs), ap (λ (v : Variable). v.volatile) (sym is) ∙ e)
        kept (inr t) = (contains_later x w xs (rest t).0, (rest t).1)
    go false e rest inside =
        let t : Contains (filter (λ v. v.volatile) xs) w = subst (λ (b : Bool). Contains (cond b (x ∷ filter (λ v. v.volatile) xs) (filter (λ v. v.volatile) xs)) w) e inside in
        (contains_later x w xs (rest t).0, (rest t).1)

pub no_volatiles : (p : Prog) (h : IsStraight p) (v : Var) → Contains (volatiles p) v → ⊥
no_volatiles p h v inside = go (contains_map var_of (filter (λ w. w.volatile) p.variables) v inside)
  where
    go : (w : Variable) × Contains (filter (λ w. w.volatile) p.variables) w × (var_of w ≡ v) → ⊥
    go (w, there, is) = let member : Contains p.variables w × (w.volatile ≡ true) = filter_member p.variables w there in
        false≢true (sym (all_of (λ (x : Variable). x.volatile ≡ false) p.variables w h.plain member.0) ∙ member.1)

empty_list : {X : Type 0} (xs : List X) → ((x : X) → Contains xs x → ⊥) → xs ≡ []
empty_list [] h = refl
empty_list (x ∷ xs) h = absurd (h x (contains_here x xs))

pub sync_main : (p : Prog) (m : Method) (h : IsStraight p) → sync_list p (execution_of p m) ≡ refs.Id 0 ∷ refs.Id (last_id m) ∷ []
sync_main p m h = ap (λ (vs : List Var). map (λ v. name_of (Default v)) vs ++ refs.Id 0 ∷ refs.Id (last_id m) ∷ []) (empty_list (volatiles p) (no_volatiles p h))

-- ---- Synchronization actions: the first and the last

pub data IsEnd (m : Method) (a : Action) : Type 0 where
  begins : first_entry.action ≡ a → IsEnd m a
  ends : (last_entry (last_id m)).action ≡ a → IsEnd m a

pub sync_end : (p : Prog) (m : Method) (h : IsStraight p) → h.main ≡ m → (a : Action) → IsAction p (execution_of p m) (Of a) → IsSync a.kind → IsEnd m a
sync_end p m h main_is a act sync = go (entry_of_action p m a act)
  where
    entry : (n : Entry) → n.action ≡ a → IsEntryOfMain p m n → IsEnd m a
    entry n is (is_first e) = begins (ap (λ (y : Entry). y.action) e ∙ is)
    entry n is (is_last e) = ends (ap (λ (y : Entry). y.action) e ∙ is)
    entry n is (is_middle placed later) = absurd (inner placed.middle)
      where
        kind_is : n.action.kind ≡ a.kind
        kind_is = ap (λ (x : Action). x.kind) is

        inner : IsMiddle p n → ⊥
        inner (middle.reads v w seen there e) = subst IsSync (sym kind_is ∙ ap (λ (y : Entry). y.action.kind) e) sync
        inner (middle.writes v w value there e) = subst IsSync (sym kind_is ∙ ap (λ (y : Entry). y.action.kind) e) sync
        inner (middle.prints e) = subst IsSync (sym kind_is ∙ ap (λ (y : Entry). y.action.kind) e) sync

    go : (n : Entry) × Contains (main_entries p m) n × (n.action ≡ a) → IsEnd m a
    go (n, there, is) = entry n is (entry_of_main p m h main_is n there)

has_action : (p : Prog) (m : Method) (id : ℕ) (a : Action) → HasId (execution_of p m) id a → IsAction p (execution_of p m) (Of a)
has_action p m id a h = h.action

pub first_inside : (p : Prog) (m : Method) → Contains (main_entries p m) first_entry
first_inside p m = contains_here first_entry _

pub last_inside : (p : Prog) (m : Method) → Contains (main_entries p m) (last_entry (last_id m))
last_inside p m = Contains-append_right (first_entry ∷ entries_from p 1 (initial p) m.listing m.operands) (last_entry (last_id m) ∷ []) (last_entry (last_id m)) (contains_here (last_entry (last_id m)) [])

-- ---- Clause 1

there_main : (p : Prog) (m : Method) (n : Entry) → IsEntryOfMain p m n → IsThere p n.action.operand
there_main p m n (is_first e) = subst (λ (x : Entry). IsThere p x.action.operand) e tt
there_main p m n (is_last e) = subst (λ (x : Entry). IsThere p x.action.operand) e tt
there_main p m n (is_middle placed later) = go placed.middle
  where
    named : (number : ℕ) (w : Variable) → slice_get p.variables number ≡ Some w → Contains (variables p) (record { class = w.class; name = w.name })
    named number w is = contains_mapped var_of p.variables w (contains_at p.variables number w is)

    go : IsMiddle p n → IsThere p n.action.operand
    go (middle.reads v w seen is e) = subst (λ (x : Entry). IsThere p x.action.operand) (sym e) (named v w is)
    go (middle.writes v w value is e) = subst (λ (x : Entry). IsThere p x.action.operand) (sym e) (named v w is)
    go (middle.prints e) = subst (λ (x : Entry). IsThere p x.action.operand) (sym e) tt

-- the write that a read sees
pub seen_write : (p : Prog) (m : Method) (v : Var) (r : Action) (n : Entry) (seen : Option ℕ) → IsReadOfMain p m v r n seen → r.operand ≡ variable v →
    (w : Act) × Sees (execution_of p m) v (Of r) w × IsAction p (execution_of p m) w × IsWrite v w
seen_write p m v r n None f operand_is =
    (Default v, (None, in_entries p m (record { action = r; note = note.Sees None }) (subst (Contains (main_entries p m)) entry_is f.inside), operand_is, refl), f.known, acts.default refl)
  where
    entry_is : n ≡ record { action = r; note = note.Sees None }
    entry_is = let a : n.action ≡ r = f.action in let b : n.note ≡ note.Sees None = f.notes in rw (← a, ← b) refl
seen_write p m v r n (Some id) f operand_is = go f.sees
  where
    entry_is : n ≡ record { action = r; note = note.Sees (Some id) }
    entry_is = let a : n.action ≡ r = f.action in let b : n.note ≡ note.Sees (Some id) = f.notes in rw (← a, ← b) refl

    go : (x : Entry) × Contains (main_entries p m) x × IsWriteTo (variable v) x × (x.action.id ≡ id) × (id < r.id) ×
        ((y : Entry) → Contains (main_entries p m) y → IsWriteTo (variable v) y → y.action.id < r.id → y.action.id ≤ id) →
        (w : Act) × Sees (execution_of p m) v (Of r) w × IsAction p (execution_of p m) w × IsWrite v w
    go (x, inside, writes, named, before, last) = (
      Of x.action,
      (Some id, in_entries p m (record { action = r; note = note.Sees (Some id) }) (subst (Contains (main_entries p m)) entry_is f.inside), operand_is, (x.action, in_actions p m x inside, named, refl)),
      in_actions p m x inside,
      acts.plain (writes.kind, writes.operand),
    )

operand_of_read : (v : Var) (r : Action) → IsRead v (Of r) → r.operand ≡ variable v
operand_of_read v r (acts.plain h) = h.1
operand_of_read v r (acts.volatile h) = h.1

listed_end : (m : Method) (id : ℕ) (a : Action) → a.id ≡ id → IsEnd m a → Contains (0 ∷ last_id m ∷ []) id
listed_end m id a named (begins e) = subst (Contains (0 ∷ last_id m ∷ [])) (ap (λ (x : Action). x.id) e ∙ named) (contains_here 0 (last_id m ∷ []))
listed_end m id a named (ends e) = subst (Contains (0 ∷ last_id m ∷ [])) (ap (λ (x : Action). x.id) e ∙ named) (contains_later 0 (last_id m) (last_id m ∷ []) (contains_here (last_id m) []))

twice : (last id i j : ℕ) → 0 < last → i < j → slice_get (0 ∷ last ∷ []) i ≡ Some id → slice_get (0 ∷ last ∷ []) j ≡ Some id → ⊥
twice last id i zero some before a b = omega (arith, before)
twice last id zero (suc zero) some before a b = let x : 0 ≡ id = same_Some 0 id a in let y : last ≡ id = same_Some last id b in omega (arith, some, x, y)
twice last id (suc i) (suc zero) some before a b = omega (arith, before)
twice last id i (suc (suc j)) some before a b = none-some id b

pub form_main : (p : Prog) (m : Method) (h : IsStraight p) → h.main ≡ m → (id : ℕ) → FormAt p (execution_of p m) id
form_main p m h main_is id = record {
  once = λ i j x y before is_x is_y x_id y_id.
      let lower : x.action.id < y.action.id = rising_places 0 (main_entries p m) i j x y (rising_all p m) before (place i x is_x) (place j y is_y) in omega (arith, lower, x_id, y_id);
  operand = λ a has. there a (entry_of_action p m a has.action);
  write = λ a v has read. wrote a v read (read_of_main p m h main_is v a has.action read);
  volatile = λ a v has is. absurd (none_volatile a v has.action is);
  plain = λ a v has is inside. no_volatiles p h v inside;
  listed = λ a has sync. listed_end m id a has.named (sync_end p m h main_is a has.action sync);
  known = λ inside. known (contains_cases 0 id (last_id m ∷ []) inside);
  listed_once = λ i j before is_i is_j. twice (last_id m) id i j (omega arith) before is_i is_j;
}
  where
    place : (i : ℕ) (x : Entry) → slice_get (entries (execution_of p m)) i ≡ Some x → slice_get (main_entries p m) i ≡ Some x
    place i x is = subst (λ (xs : List Entry). slice_get xs i ≡ Some x) (entries_main p m) is

    there : (a : Action) → (n : Entry) × Contains (main_entries p m) n × (n.action ≡ a) → IsThere p a.operand
    there a (n, inside, is) = subst (λ (x : Action). IsThere p x.operand) is (there_main p m n (entry_of_main p m h main_is n inside))

    wrote : (a : Action) (v : Var) → IsRead v (Of a) → (n : Entry) × (seen : Option ℕ) × IsReadOfMain p m v a n seen →
        (w : Act) × Sees (execution_of p m) v (Of a) w × IsAction p (execution_of p m) w × IsWrite v w
    wrote a v read (n, seen, f) = seen_write p m v a n seen f (operand_of_read v a read)

    none_volatile : (a : Action) (v : Var) → IsAction p (execution_of p m) (Of a) → Is kind.VolatileRead (variable v) (Of a) ⊎ Is kind.VolatileWrite (variable v) (Of a) → ⊥
    none_volatile a v act (inl is) = no_volatile_read a.kind (kind_of_action p m h main_is a act) is.0
    none_volatile a v act (inr is) = no_volatile_write a.kind (kind_of_action p m h main_is a act) is.0

    known : (0 ≡ id) ⊎ Contains (last_id m ∷ []) id → (a : Action) × HasId (execution_of p m) id a × IsSync a.kind
    known (inl e) = (first_entry.action, record { action = in_actions p m first_entry (first_inside p m); named = e }, tt)
    known (inr later) = ((last_entry (last_id m)).action, record { action = in_actions p m (last_entry (last_id m)) (last_inside p m); named = contains_one (last_id m) id later }, tt)
