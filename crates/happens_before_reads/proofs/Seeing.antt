-- What reads see, against happens-before.
use Rattle.std.proofs.Common.{◌≡◌, ◌<◌, ◌↔◌, ℕ, List, Option, Some, None, Bool, true, false, not, IsTrue, Contains, slice_get, slice_index_or, length, refl, sym, ◌∙◌, ap, ap₂, subst, Bor}
use Rattle.program.proofs.Lists.{all_of}
use Rattle.action_orders.specs.declared.action.Action.{Action}
use Rattle.action_orders.specs.declared.action.ActionRef.{ActionRef}
use Rattle.action_orders.specs.declared.action.ActionRef.TheVariants.{Id}
use Rattle.action_orders.specs.declared.action.Entry.{Entry}
use Rattle.action_orders.specs.declared.action.Note.{Note}
use Rattle.action_orders.specs.declared.action.Note.TheVariants as note
use Rattle.action_orders.specs.Actions.{Act, Of, Default, Var, IsAction, IsRead, IsWrite, IsNamed, Sees, entries, name_of, variable, variables}
use Rattle.action_orders.specs.HappensBefore.{HappensBefore}
use Rattle.action_orders.specs.WellFormed.{IsThere, SeesByHappensBefore}
use Rattle.orders.specs.declared.answers.Orders.{Orders}
use Rattle.orders.specs.Made.{IsMade}
use Rattle.orders.specs.Flat.{Relates}
use Rattle.orders.specs.Tables.{action_of}
use Rattle.orders.proofs.Places.{one, is_action, at_of}
use Rattle.orders.proofs.Sync.{has_id}
use Rattle.orders.proofs.Said.{exec, prog, at_flat, before_default, not_true}
use Rattle.orders.proofs.Tabled.{inside_flat}
use Rattle.volatile_reads.proofs.Named.{act_once, named_once, one_note}
use Rattle.volatile_reads.proofs.Placed.{read_entry}
use Rattle.writes_between.specs.Before.{IsPassed}
use Rattle.happens_before_reads.specs.Accesses.{ReadsNone}
use Rattle.happens_before_reads.specs.Sights.{IsConsistentAtPlace, IsRecent, seen_name}
use Rattle.happens_before_reads.specs.Writes.{AreWrites}
use Rattle.happens_before_reads.proofs.Naming.{read_operand, one_read, numbered}

-- ---- The write that a read sees

-- the entry with this note at the place
abbrev pub IsNotedAt : Orders → ℕ → Note → Type 0
IsNotedAt o i m = slice_get (entries (exec o)) i ≡ Some (record { action = action_of o.flat i; note = m })

pub name_seen : (o : Orders) (i : ℕ) (m : Note) (v : Var) (w : Act) → IsMade o → IsNotedAt o i m → Sees (exec o) v (Of (action_of o.flat i)) w → seen_name m (action_of o.flat i).operand ≡ Some (name_of w)
name_seen o i m v w made at (seen, there, operand, named) =
    ap₂ seen_name (one_note (prog o) (exec o) i (record { action = action_of o.flat i; note = m }) (note.Sees seen) made.ordered at there) operand ∙ go seen named
  where
    go : (s : Option ℕ) → IsNamed (exec o) v s w → seen_name (note.Sees s) (variable v) ≡ Some (name_of w)
    go None is = ap (λ (x : Act). Some (name_of x)) (sym is)
    go (Some id) (a, in_a, id_a, is) = ap (λ (n : ℕ). Some (Id n)) (sym id_a) ∙ ap (λ (x : Act). Some (name_of x)) (sym is)

one_sees : (n m : Option ℕ) → note.Sees n ≡ note.Sees m → n ≡ m
one_sees n m e = cc

-- a read sees one write
pub one_seen : (o : Orders) (i : ℕ) (m : Note) (v : Var) (w x : Act) → IsMade o → IsNotedAt o i m → Sees (exec o) v (Of (action_of o.flat i)) w → Sees (exec o) v (Of (action_of o.flat i)) x → w ≡ x
one_seen o i m v w x made at (seen, there, operand, named) (seen', there', operand', named') =
    let n : Entry = record { action = action_of o.flat i; note = m } in
    let first = one_note (prog o) (exec o) i n (note.Sees seen) made.ordered at there in
    let second = one_note (prog o) (exec o) i n (note.Sees seen') made.ordered at there' in
    let same = one_sees seen seen' (sym first ∙ second) in
    named_once (prog o) (exec o) v seen w x made.ordered named (subst (λ (s : Option ℕ). IsNamed (exec o) v s x) (sym same) named')

-- the write that the read at the place sees, with its name
pub record IsSeen (o : Orders) (i : ℕ) (v : Var) (ref : ActionRef) : Type 0 where
  pub write : Act
  pub action : IsAction (prog o) (exec o) write
  pub sees : Sees (exec o) v (Of (action_of o.flat i)) write
  pub is_named : name_of write ≡ ref

same_name : (ref : ActionRef) (w : Act) (name : Option ActionRef) → name ≡ Some ref → name ≡ Some (name_of w) → name_of w ≡ ref
same_name ref w name is seen = cc

pub no_name : (w : Act) (name : Option ActionRef) → name ≡ None → name ≡ Some (name_of w) → ⊥
no_name w name none seen = cc

pub is_seen : (o : Orders) (i : ℕ) (m : Note) (v : Var) (ref : ActionRef) → IsMade o → i < length o.flat.entries.items → IsNotedAt o i m → IsRead v (Of (action_of o.flat i)) → seen_name m (action_of o.flat i).operand ≡ Some ref → IsSeen o i v ref
is_seen o i m v ref made within at read name =
    let a = action_of o.flat i in
    let (w, sees, action, write) = (made.ordered.form a.id).write a v (has_id (exec o) i a (prog o) (at_flat o i made within)) read in
    record { write = w; action = action; sees = sees; is_named = same_name ref w (seen_name m a.operand) name (name_seen o i m v w made at sees) }

-- ---- Against happens-before

-- a write between the seen one and the read stands in the list
passing : (o : Orders) (i : ℕ) (v : Var) (w other : Act) (places : List ℕ) → IsMade o → AreWrites o v (length o.flat.entries.items) places → IsAction (prog o) (exec o) other → IsWrite v other →
    HappensBefore (prog o) (exec o) w other → HappensBefore (prog o) (exec o) other (Of (action_of o.flat i)) → IsPassed o places w i
passing o i v w (Default u) places made listed action write first second = absurd (before_default (prog o) (exec o) w (Default u) u made.ordered.shape refl first)
passing o i v w (Of b) places made listed action write first second =
    let (k, at) = at_of (prog o) (exec o) b action in
    let within = inside_flat o.flat k b made.tables at in
    let same : b ≡ action_of o.flat k = one (sym at ∙ at_flat o k made within) in (
      k,
      (listed.exactly k within).1 (subst (λ (x : Action). IsWrite v (Of x)) same write),
      subst (λ (x : Action). HappensBefore (prog o) (exec o) w (Of x)) same first,
      subst (λ (x : Action). HappensBefore (prog o) (exec o) (Of x) (Of (action_of o.flat i))) same second,
    )

pub recent_sees : (o : Orders) (i : ℕ) (v : Var) (w : Act) (places : List ℕ) → IsMade o → AreWrites o v (length o.flat.entries.items) places → IsRecent o places w i → SeesByHappensBefore (prog o) (exec o) v (Of (action_of o.flat i)) w
recent_sees o i v w places made listed recent = record {
  not_later = recent.not_later;
  none_between = λ other action write first second. recent.not_passed (passing o i v w other places made listed action write first second);
}

sees_recent : (o : Orders) (i : ℕ) (v : Var) (w : Act) (places : List ℕ) → IsMade o → AreWrites o v (length o.flat.entries.items) places → SeesByHappensBefore (prog o) (exec o) v (Of (action_of o.flat i)) w → IsRecent o places w i
sees_recent o i v w places made listed sees = record {
  not_later = sees.not_later;
  not_passed = λ (k, there, first, second).
      let within : k < length o.flat.entries.items = all_of (λ n. n < length o.flat.entries.items) places k listed.below there in
      sees.none_between (Of (action_of o.flat k)) (is_action (prog o) (exec o) k (action_of o.flat k) (at_flat o k made within)) ((listed.exactly k within).0 there) first second;
}

pub consistent_exactly : (o : Orders) (i : ℕ) (m : Note) (v : Var) (ref : ActionRef) (places : List ℕ) (b : Bool) → IsMade o → i < length o.flat.entries.items → IsNotedAt o i m → IsRead v (Of (action_of o.flat i)) →
    seen_name m (action_of o.flat i).operand ≡ Some ref → AreWrites o v (length o.flat.entries.items) places →
    ((x : Act) → IsAction (prog o) (exec o) x → name_of x ≡ ref → IsTrue b ↔ IsRecent o places x i) → IsTrue b ↔ IsConsistentAtPlace o i
consistent_exactly o i m v ref places b made within at read name listed decides = (to, from)
  where
    seen : IsSeen o i v ref
    seen = is_seen o i m v ref made within at read name

    to : IsTrue b → IsConsistentAtPlace o i
    to passes u w read_u sees =
        let same_v : v ≡ u = one_read v u (action_of o.flat i) read read_u in
        let seen_u = subst (λ (x : Var). Sees (exec o) x (Of (action_of o.flat i)) seen.write) same_v seen.sees in
        let same_w : seen.write ≡ w = one_seen o i m u seen.write w made at seen_u sees in
        let own = recent_sees o i v seen.write places made listed ((decides seen.write seen.action seen.is_named).0 passes) in
        subst (SeesByHappensBefore (prog o) (exec o) u (Of (action_of o.flat i))) same_w (subst (λ (x : Var). SeesByHappensBefore (prog o) (exec o) x (Of (action_of o.flat i)) seen.write) same_v own)

    from : IsConsistentAtPlace o i → IsTrue b
    from consistent = (decides seen.write seen.action seen.is_named).1 (sees_recent o i v seen.write places made listed (consistent v seen.write read seen.sees))

-- ---- Where nothing is asked

pub sees_nothing : (o : Orders) (i : ℕ) (m : Note) → IsMade o → IsNotedAt o i m → seen_name m (action_of o.flat i).operand ≡ None → IsConsistentAtPlace o i
sees_nothing o i m made at none v w read sees = absurd (no_name w (seen_name m (action_of o.flat i).operand) none (name_seen o i m v w made at sees))

pub reads_nothing : (o : Orders) (i : ℕ) → IsMade o → i < length o.flat.entries.items → ReadsNone o (action_of o.flat i) → IsConsistentAtPlace o i
reads_nothing o i made within none v w read sees =
    let a = action_of o.flat i in
    let there : Contains (variables (prog o)) v = subst (IsThere (prog o)) (read_operand v a read) ((made.ordered.form a.id).operand a (has_id (exec o) i a (prog o) (at_flat o i made within))) in
    let (c, named) = numbered o v made there in
    absurd (none v c named read)

-- ---- The entry that was read

pub noted_at : (o : Orders) (i : ℕ) (x : Bor Entry) → IsMade o → i < length o.flat.entries.items → x ≡ slice_index_or o.flat.entries.items i x → IsNotedAt o i x.now.note × (x.now.action ≡ action_of o.flat i)
noted_at o i x made within is =
    let (at, same) = read_entry o i (action_of o.flat i) x made (at_flat o i made within) is in
    (at ∙ ap (λ (a : Action). Some (let n : Entry = record { action = a; note = x.now.note } in n)) same, same)

-- ---- Tests

-- the test of happens-before by names, from the action at a place
pub later_named : (o : Orders) (i id : ℕ) (x : Act) (ref : ActionRef) (b : Bool) → IsMade o → i < length o.flat.entries.items → id ≡ (action_of o.flat i).id → IsAction (prog o) (exec o) x → name_of x ≡ ref →
    (IsTrue b ↔ Relates (prog o) (exec o) (HappensBefore (prog o) (exec o)) (Id id) ref) → IsTrue b ↔ HappensBefore (prog o) (exec o) (Of (action_of o.flat i)) x
later_named o i id x ref b made within same action named iff = (λ passes. to (iff.0 passes), λ path. iff.1 (from path))
  where
    there : IsAction (prog o) (exec o) (Of (action_of o.flat i))
    there = is_action (prog o) (exec o) i (action_of o.flat i) (at_flat o i made within)

    to : Relates (prog o) (exec o) (HappensBefore (prog o) (exec o)) (Id id) ref → HappensBefore (prog o) (exec o) (Of (action_of o.flat i)) x
    to h =
        let first = act_once (prog o) (exec o) h.first (Of (action_of o.flat i)) made.ordered h.is_first there (h.named_first ∙ ap Id same) in
        let second = act_once (prog o) (exec o) h.second x made.ordered h.is_second action (h.named_second ∙ sym named) in
        subst (λ (y : Act). HappensBefore (prog o) (exec o) y x) first (subst (HappensBefore (prog o) (exec o) h.first) second h.related)

    from : HappensBefore (prog o) (exec o) (Of (action_of o.flat i)) x → Relates (prog o) (exec o) (HappensBefore (prog o) (exec o)) (Id id) ref
    from path = record { first = Of (action_of o.flat i); second = x; is_first = there; is_second = action; named_first = ap Id (sym same); named_second = named; related = path }

pub is_not : (b : Bool) → IsTrue (not b) ↔ (IsTrue b → ⊥)
is_not true = (λ never is. not_true false refl never, λ none. absurd (none refl))
is_not false = (λ is never. not_true false refl never, λ none. refl)

pub later_no : (o : Orders) (i : ℕ) (places : List ℕ) (x : Act) (later : Bool) → (IsTrue later ↔ HappensBefore (prog o) (exec o) (Of (action_of o.flat i)) x) → IsTrue later → IsTrue false ↔ IsRecent o places x i
later_no o i places x later iff is = (λ never. absurd (not_true false refl never), λ recent. absurd (recent.not_later (iff.0 is)))

pub recent_exactly : (o : Orders) (i : ℕ) (places : List ℕ) (x : Act) (later passed b : Bool) → (IsTrue later ↔ HappensBefore (prog o) (exec o) (Of (action_of o.flat i)) x) → later ≡ false →
    (IsTrue passed ↔ IsPassed o places x i) → (IsTrue b ↔ (IsTrue passed → ⊥)) → IsTrue b ↔ IsRecent o places x i
recent_exactly o i places x later passed b decides_later not_later decides_passed iff = (
  λ is. record { not_later = λ path. not_true later not_later (decides_later.1 path); not_passed = λ between. iff.0 is (decides_passed.1 between) },
  λ recent. iff.1 (λ is. recent.not_passed (decides_passed.0 is)),
)
