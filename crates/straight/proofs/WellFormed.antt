-- The execution of a straight program is well-formed.
use Rattle.std.proofs.Common.{◌≡◌, ◌≤◌, ℕ, [], ◌∷◌, Option, true, refl, sym, ◌∙◌, ap, subst, arith, Contains, All}
use Rattle.std.proofs.lemmas.Bool.{false≢true}
use Rattle.program.specs.Program.{Prog}
use Rattle.program.specs.Straight.{IsStraight}
use Rattle.program.specs.declared.kind.Kind.{Kind}
use Rattle.program.specs.declared.kind.Kind.TheVariants as kind
use Rattle.program.specs.declared.method.Method.{Method}
use Rattle.program.proofs.Lists.{contains_one, contains_mapped, contains_at, all_from}
use Rattle.action_orders.specs.declared.action.Action.{Action}
use Rattle.action_orders.specs.declared.action.ActionOperand.TheVariants as on
use Rattle.action_orders.specs.declared.action.Entry.{Entry}
use Rattle.action_orders.specs.declared.action.Note.TheVariants as note
use Rattle.action_orders.specs.declared.execution.ThreadPart.{ThreadPart}
use Rattle.action_orders.specs.Execution.{IsExecution, IsEntryOf}
use Rattle.action_orders.specs.Actions.{Act, Default, Of, Var, IsAction, Is, IsBy, IsRead, IsWrite, Sees, actions, entries, thread_actions, variable, variables, volatiles, var_of, name_of}
use Rattle.action_orders.specs.Actions as acts
use Rattle.action_orders.specs.WellFormed.{is_lock}
use Rattle.straight.specs.Meaning.{first_entry, last_entry, last_id, main_entries, execution_of}
use Rattle.straight.proofs.LastSeen.{IsPlaced, IsMiddle, SeesLast}
use Rattle.straight.proofs.LastSeen as middle
use Rattle.straight.proofs.Whole.{part_of, tail_of, along_initial, rising_all, IsEntryOfMain, is_first, is_middle, is_last, entry_of_main, HasKind, kind_of_main, alone_main, entries_main, in_entries, of_entries, in_actions, entry_of_action, lower_stands, stands_lower}
use Rattle.straight.proofs.Whole as whole

-- ---- The shape

fits_entry : (p : Prog) (m : Method) (n : Entry) → IsEntryOfMain p m n → IsEntryOf 0 n
fits_entry p m n (is_first e) = subst (IsEntryOf 0) e (record { own = refl; operand = tt; note = tt })
fits_entry p m n (is_last e) = subst (IsEntryOf 0) e (record { own = refl; operand = tt; note = tt })
fits_entry p m n (is_middle placed later) = go placed.middle
  where
    go : IsMiddle p n → IsEntryOf 0 n
    go (middle.reads v w seen is e) = subst (IsEntryOf 0) (sym e) (record { own = refl; operand = tt; note = tt })
    go (middle.writes v w value is e) = subst (IsEntryOf 0) (sym e) (record { own = refl; operand = tt; note = tt })
    go (middle.prints e) = subst (IsEntryOf 0) (sym e) (record { own = refl; operand = tt; note = tt })

pub shape_main : (p : Prog) (m : Method) (h : IsStraight p) → h.main ≡ m → IsExecution (execution_of p m)
shape_main p m h main_is = record {
  increasing = λ i j d before within. absurd (omega (arith, before, within));
  entries = all_from (λ t. All (IsEntryOf t.thread) t.entries) (part_of p m ∷ []) (λ t inside.
      subst (λ (t' : ThreadPart). All (IsEntryOf t'.thread) t'.entries) (contains_one (part_of p m) t inside)
      (all_from (IsEntryOf 0) (main_entries p m) (λ n there. fits_entry p m n (entry_of_main p m h main_is n there))));
}

-- ---- Kinds that do not occur

-- an action of the execution has one of the five kinds
pub kind_of_action : (p : Prog) (m : Method) (h : IsStraight p) → h.main ≡ m → (a : Action) → IsAction p (execution_of p m) (Of a) → HasKind a.kind
kind_of_action p m h main_is a inside = go (entry_of_action p m a inside)
  where
    go : (n : Entry) × Contains (main_entries p m) n × (n.action ≡ a) → HasKind a.kind
    go (n, there, is) = subst (λ (x : Action). HasKind x.kind) is (kind_of_main p m n (entry_of_main p m h main_is n there))

pub no_volatile_read : (k : Kind) → HasKind k → k ≡ kind.VolatileRead → ⊥
no_volatile_read k (whole.first a) b = cc
no_volatile_read k (whole.last a) b = cc
no_volatile_read k (whole.reads a) b = cc
no_volatile_read k (whole.writes a) b = cc
no_volatile_read k (whole.prints a) b = cc

pub no_volatile_write : (k : Kind) → HasKind k → k ≡ kind.VolatileWrite → ⊥
no_volatile_write k (whole.first a) b = cc
no_volatile_write k (whole.last a) b = cc
no_volatile_write k (whole.reads a) b = cc
no_volatile_write k (whole.writes a) b = cc
no_volatile_write k (whole.prints a) b = cc

pub no_start : (k : Kind) → HasKind k → k ≡ kind.Start → ⊥
no_start k (whole.first a) b = cc
no_start k (whole.last a) b = cc
no_start k (whole.reads a) b = cc
no_start k (whole.writes a) b = cc
no_start k (whole.prints a) b = cc

pub no_detect : (k : Kind) → HasKind k → k ≡ kind.Detect → ⊥
no_detect k (whole.first a) b = cc
no_detect k (whole.last a) b = cc
no_detect k (whole.reads a) b = cc
no_detect k (whole.writes a) b = cc
no_detect k (whole.prints a) b = cc

pub no_lock : (k : Kind) → HasKind k → is_lock k ≡ true → ⊥
no_lock k (whole.first a) b = false≢true (ap is_lock (sym a) ∙ b)
no_lock k (whole.last a) b = false≢true (ap is_lock (sym a) ∙ b)
no_lock k (whole.reads a) b = false≢true (ap is_lock (sym a) ∙ b)
no_lock k (whole.writes a) b = false≢true (ap is_lock (sym a) ∙ b)
no_lock k (whole.prints a) b = false≢true (ap is_lock (sym a) ∙ b)

-- ---- Reads

-- a read of the execution, with the write that it sees
pub record IsReadOfMain (p : Prog) (m : Method) (v : Var) (r : Action) (n : Entry) (seen : Option ℕ) : Type 0 where
  pub inside : Contains (main_entries p m) n
  pub action : n.action ≡ r
  pub notes : n.note ≡ note.Sees seen
  pub known : Contains (variables p) v
  pub later : 1 ≤ r.id
  pub sees : SeesLast (main_entries p m) r.id (variable v) seen

same_operand : (a b : Var) → variable a ≡ variable b → a ≡ b
same_operand a b e = let class_is : a.class ≡ b.class = cc in let name_is : a.name ≡ b.name = cc in rw (class_is, name_is) refl

read_of_first : (v : Var) (n : Entry) → first_entry ≡ n → IsRead v (Of n.action) → ⊥
read_of_first v n e (acts.plain h) = let is : n.action.kind ≡ kind.First = ap (λ (y : Entry). y.action.kind) (sym e) in cc
read_of_first v n e (acts.volatile h) = let is : n.action.kind ≡ kind.First = ap (λ (y : Entry). y.action.kind) (sym e) in cc

read_of_last : (v : Var) (n : Entry) (id : ℕ) → last_entry id ≡ n → IsRead v (Of n.action) → ⊥
read_of_last v n id e (acts.plain h) = let is : n.action.kind ≡ kind.Last = ap (λ (y : Entry). y.action.kind) (sym e) in cc
read_of_last v n id e (acts.volatile h) = let is : n.action.kind ≡ kind.Last = ap (λ (y : Entry). y.action.kind) (sym e) in cc

not_plain_read : (v : Var) (n : Entry) (k : Kind) → n.action.kind ≡ k → (k ≡ kind.Read → ⊥) → (k ≡ kind.VolatileRead → ⊥) → IsRead v (Of n.action) → ⊥
not_plain_read v n k is a b (acts.plain h) = a (sym is ∙ h.0)
not_plain_read v n k is a b (acts.volatile h) = b (sym is ∙ h.0)

operand_of_read : (v : Var) (n : Entry) → IsRead v (Of n.action) → n.action.operand ≡ variable v
operand_of_read v n (acts.plain h) = h.1
operand_of_read v n (acts.volatile h) = h.1

write_no_read : kind.Write ≡ kind.Read → ⊥
write_no_read e = cc

write_no_volatile : kind.Write ≡ kind.VolatileRead → ⊥
write_no_volatile e = cc

print_no_read : kind.Print ≡ kind.Read → ⊥
print_no_read e = cc

print_no_volatile : kind.Print ≡ kind.VolatileRead → ⊥
print_no_volatile e = cc

read_entry : (p : Prog) (m : Method) (v : Var) (n : Entry) → Contains (main_entries p m) n → IsEntryOfMain p m n → IsRead v (Of n.action) → (seen : Option ℕ) × IsReadOfMain p m v n.action n seen
read_entry p m v n inside (is_first e) read = absurd (read_of_first v n e read)
read_entry p m v n inside (is_last e) read = absurd (read_of_last v n (last_id m) e read)
read_entry p m v n inside (is_middle placed later) read = go placed.middle
  where
    go : IsMiddle p n → (seen : Option ℕ) × IsReadOfMain p m v n.action n seen
    go (middle.reads number w seen is e) =
        let operand_is : n.action.operand ≡ on.Variable w.class w.name = ap (λ (y : Entry). y.action.operand) e in
        let v_is : var_of w ≡ v = same_operand (var_of w) v (sym operand_is ∙ operand_of_read v n read) in (
          seen,
          record {
            inside = inside;
            action = refl;
            notes = ap (λ (y : Entry). y.note) e;
            known = subst (Contains (variables p)) v_is (contains_mapped var_of p.variables w (contains_at p.variables number w is));
            later = later;
            sees = placed.sees (variable v) seen (ap (λ (y : Entry). y.action.kind) e) (operand_of_read v n read) (ap (λ (y : Entry). y.note) e);
          },
        )
    go (middle.writes number w value is e) = absurd (not_plain_read v n kind.Write (ap (λ (y : Entry). y.action.kind) e) write_no_read write_no_volatile read)
    go (middle.prints e) = absurd (not_plain_read v n kind.Print (ap (λ (y : Entry). y.action.kind) e) print_no_read print_no_volatile read)

pub read_of_main : (p : Prog) (m : Method) (h : IsStraight p) → h.main ≡ m → (v : Var) (r : Action) → IsAction p (execution_of p m) (Of r) → IsRead v (Of r) →
    (n : Entry) × (seen : Option ℕ) × IsReadOfMain p m v r n seen
read_of_main p m h main_is v r act read = go (entry_of_action p m r act)
  where
    go : (n : Entry) × Contains (main_entries p m) n × (n.action ≡ r) → (n : Entry) × (seen : Option ℕ) × IsReadOfMain p m v r n seen
    go (n, there, is) = back (read_entry p m v n there (entry_of_main p m h main_is n there) (subst (λ (x : Action). IsRead v (Of x)) (sym is) read))
      where
        back : (seen : Option ℕ) × IsReadOfMain p m v n.action n seen → (n : Entry) × (seen : Option ℕ) × IsReadOfMain p m v r n seen
        back (seen, facts) = (n, seen, subst (λ (x : Action). IsReadOfMain p m v x n seen) is facts)

-- the same of what `Sees` says: the note that it names is that of the one entry
pub sees_of_main : (p : Prog) (m : Method) (h : IsStraight p) → h.main ≡ m → (v : Var) (r : Action) (seen : Option ℕ) →
    Contains (entries (execution_of p m)) (record { action = r; note = note.Sees seen }) → IsRead v (Of r) → IsReadOfMain p m v r (record { action = r; note = note.Sees seen }) seen
sees_of_main p m h main_is v r seen inside read =
    back (read_entry p m v (record { action = r; note = note.Sees seen }) there (entry_of_main p m h main_is (record { action = r; note = note.Sees seen }) there) read)
  where
    there : Contains (main_entries p m) (record { action = r; note = note.Sees seen })
    there = of_entries p m (record { action = r; note = note.Sees seen }) inside

    back : (seen' : Option ℕ) × IsReadOfMain p m v r (record { action = r; note = note.Sees seen }) seen' → IsReadOfMain p m v r (record { action = r; note = note.Sees seen }) seen
    back (seen', facts) = subst (IsReadOfMain p m v r (record { action = r; note = note.Sees seen })) (middle.same_seen seen' seen (sym facts.notes)) facts
