-- The run of straight code, instruction by instruction.
use Rattle.std.proofs.Common.{◌≡◌, ◌+◌, ℕ, ℤ, List, [], ◌∷◌, ◌++◌, length, map, Some, None, Option, slice_get, refl, sym, ap, subst, Contains, All}
use Rattle.std.proofs.lemmas.List.Elements.{Contains-append_left, Contains-append_right, All-nil}
use Rattle.opcodes.specs.Instructions.{length_of}
use Rattle.opcodes.specs.declared.instruction.Instr.TheVariants.{Getstatic, Putstatic}
use Rattle.opcodes.specs.declared.listed.Listed.{Listed}
use Rattle.java_int.specs.JavaInt.{Fits}
use Rattle.program.specs.Ints.{IsInt}
use Rattle.program.specs.Program.{Prog, IsMethod, IsInstruction}
use Rattle.program.specs.Step.{JavaValue, Executes, silent, pushes, shows}
use Rattle.program.specs.Step as step
use Rattle.program.specs.Run.{Move}
use Rattle.program.specs.declared.event.Event.TheVariants as event
use Rattle.program.specs.declared.kind.Kind.TheVariants as kind
use Rattle.program.specs.declared.method.Method.{Method}
use Rattle.program.specs.declared.method.Operand.{Operand}
use Rattle.program.specs.declared.method.Operand.TheVariants as operand
use Rattle.program.specs.declared.program.Variable.{Variable}
use Rattle.program.proofs.Lists.{contains_here, contains_mapped, all_cons, all_head}
use Rattle.action_orders.specs.declared.action.ActionOperand.TheVariants as on
use Rattle.action_orders.specs.declared.action.Entry.{Entry}
use Rattle.action_orders.specs.declared.action.Note.{Note}
use Rattle.action_orders.specs.declared.action.Note.TheVariants as note
use Rattle.action_orders.specs.Execution.{Exec}
use Rattle.action_orders.specs.Actions.{Act, Default, Of, Var, IsRead, plain, Sees, Stores, actions, entries, var_of}
use Rattle.action_orders.specs.Actions as acts
use Rattle.action_orders.specs.Runs.{Gets}
use Rattle.straight.specs.Doing.{doing_of}
use Rattle.straight.specs.Meaning.{State, after, entry_at, ints_at, ints_from, cell_of, operand_of, named_by, top_of}
use Rattle.straight.specs.Walk.{IsReady}
use Rattle.straight.specs.declared.doing.StackItem.{StackItem}
use Rattle.straight.specs.declared.doing.StackItem.TheVariants.{Int, Out}
use Rattle.straight.proofs.Known.{HasSource, numbered}
use Rattle.straight.proofs.LastSeen.{Stands}
use Rattle.straight.proofs.Running.{RunsOn, main_at, value_of, executes}

-- what is known at an instruction that is not the last
pub record StepFacts (p : Prog) (m : Method) (e : Exec) (width : ℕ) (locals : List (Option JavaValue)) (all : List Entry) (id pc : ℕ) (done : List Entry) (s : State)
    (items : List Listed) (names : List Operand) (later : List Entry) (item : Listed) (o : Operand) : Type 0 where
  pub is_method : IsMethod p m.id m
  pub inside : (x : Entry) → Contains all x → Contains (entries e) x
  pub instruction : IsInstruction m pc item.instr o
  pub ready : IsReady (length p.variables) s.stack (doing_of item.instr o)
  pub stands : Stands p all id done (entry_at p id s (doing_of item.instr o) ++ later) s
  pub fits : All (Fits width) (ints_at s (doing_of item.instr o) ++ ints_from (id + 1) (after id s (doing_of item.instr o)) items names)
  pub rest : RunsOn p m e width locals (id + 1) (pc + length_of item.instr) (after id s (doing_of item.instr o)) items names

pub run_constant : (p : Prog) (m : Method) (e : Exec) (width : ℕ) (locals : List (Option JavaValue)) (all : List Entry) (id pc : ℕ) (done : List Entry) (s : State)
    (items : List Listed) (names : List Operand) (later : List Entry) (item : Listed) (n : ℤ) → IsInt n → StepFacts p m e width locals all id pc done s items names later item (operand.Constant n) →
    RunsOn p m e width locals id pc s (item ∷ items) (operand.Constant n ∷ names)
run_constant p m e width locals all id pc done s items names later item n is_int f = record {
  moves = mv ∷ f.rest.moves;
  steps = λ ended. (step.constant item.instr n (map value_of s.stack) is_int (executes p m locals pc item.instr (operand.Constant n) s.stack (Int n ∷ s.stack) f.is_method f.instruction) refl, f.rest.steps ended);
  matched = f.rest.matched;
  prints = f.rest.prints;
  narrow = all_cons (λ (x : Move). All (Fits width) x.effect.ints) mv f.rest.moves
      (all_cons (Fits width) n [] (all_head (Fits width) n (ints_from (id + 1) (after id s (doing_of item.instr (operand.Constant n))) items names) f.fits) (All-nil (Fits width))) f.rest.narrow;
  forward = f.rest.forward;
}
  where
    mv : Move
    mv = record { effect = pushes n; state = main_at m locals (pc + length_of item.instr) (Int n ∷ s.stack) }

pub run_out : (p : Prog) (m : Method) (e : Exec) (width : ℕ) (locals : List (Option JavaValue)) (all : List Entry) (id pc : ℕ) (done : List Entry) (s : State)
    (items : List Listed) (names : List Operand) (later : List Entry) (q index : ℕ) → StepFacts p m e width locals all id pc done s items names later (record { pc = q; instr = Getstatic index }) operand.Out →
    RunsOn p m e width locals id pc s (record { pc = q; instr = Getstatic index } ∷ items) (operand.Out ∷ names)
run_out p m e width locals all id pc done s items names later q index f = record {
  moves = mv ∷ f.rest.moves;
  steps = λ ended. (step.out index (map value_of s.stack) (executes p m locals pc (Getstatic index) operand.Out s.stack (Out ∷ s.stack) f.is_method f.instruction) refl, f.rest.steps ended);
  matched = f.rest.matched;
  prints = f.rest.prints;
  narrow = all_cons (λ (x : Move). All (Fits width) x.effect.ints) mv f.rest.moves (All-nil (Fits width)) f.rest.narrow;
  forward = f.rest.forward;
}
  where
    mv : Move
    mv = record { effect = silent; state = main_at m locals (pc + length_of (Getstatic index)) (Out ∷ s.stack) }

-- the read of straight code gets the value of the variable
read_gets : (p : Prog) (e : Exec) (all done : List Entry) (w : Variable) (n : Entry) (seen : Option ℕ) (value : ℤ) → ((x : Entry) → Contains all x → Contains (entries e) x) →
    ((x : Entry) → Contains done x → Contains all x) → Contains (entries e) n → n.action.operand ≡ on.Variable w.class w.name → n.note ≡ note.Sees seen →
    HasSource done (on.Variable w.class w.name) seen value → Gets e (var_of w) (Of n.action) value
read_gets p e all done w n None value inside more here operand_is note_is (zero_is, nothing) =
    (Default (var_of w), (None, subst (λ (k : Note). Contains (entries e) (record { action = n.action; note = k })) note_is here, operand_is, refl), zero_is)
read_gets p e all done w n (Some id) value inside more here operand_is note_is (x, last) = (
  Of x.action,
  (
    Some id,
    subst (λ (k : Note). Contains (entries e) (record { action = n.action; note = k })) note_is here,
    operand_is,
    (x.action, contains_mapped (λ (y : Entry). y.action) (entries e) x (inside x (more x last.inside)), last.named, refl),
  ),
  subst (λ (k : Note). Contains (entries e) (record { action = x.action; note = k })) last.stores (inside x (more x last.inside)),
)

pub run_read : (p : Prog) (m : Method) (e : Exec) (width : ℕ) (locals : List (Option JavaValue)) (all : List Entry) (id pc : ℕ) (done : List Entry) (s : State)
    (items : List Listed) (names : List Operand) (later : List Entry) (q index v : ℕ) → StepFacts p m e width locals all id pc done s items names later (record { pc = q; instr = Getstatic index }) (operand.Variable v) →
    RunsOn p m e width locals id pc s (record { pc = q; instr = Getstatic index } ∷ items) (operand.Variable v ∷ names)
run_read p m e width locals all id pc done s items names later q index v f = go (numbered p v f.ready)
  where
    value : ℤ
    value = (cell_of s v).value

    n : Entry
    n = record { action = record { thread = 0; id = id; kind = kind.Read; operand = operand_of p v }; note = note.Sees (cell_of s v).seen }

    go : (w : Variable) × (slice_get p.variables v ≡ Some w) →
        RunsOn p m e width locals id pc s (record { pc = q; instr = Getstatic index } ∷ items) (operand.Variable v ∷ names)
    go (w, is) =
        let mv : Move = record { effect = shows (event.Read v (cell_of s v).value) ((cell_of s v).value ∷ []); state = main_at m locals (pc + length_of (Getstatic index)) (Int (cell_of s v).value ∷ s.stack) } in
        let operand_is : operand_of p v ≡ on.Variable w.class w.name = ap named_by is in
        let here : Contains (entries e) (record { action = record { thread = 0; id = id; kind = kind.Read; operand = operand_of p v }; note = note.Sees (cell_of s v).seen }) =
        f.inside _ (subst (λ (xs : List Entry). Contains xs n) (sym f.stands.parts) (Contains-append_right done (n ∷ later) n (contains_here n later))) in
        record {
          moves = mv ∷ f.rest.moves;
          steps = λ ended. (
            step.read index v (cell_of s v).value (map value_of s.stack) (f.stands.knows.known v w is).is_int
                (executes p m locals pc (Getstatic index) (operand.Variable v) s.stack (Int (cell_of s v).value ∷ s.stack) f.is_method f.instruction) refl,
            f.rest.steps ended,
          );
          matched = (
            (
              var_of w,
              (w, is, refl),
              plain (refl, operand_is),
              read_gets p e all done w n (cell_of s v).seen (cell_of s v).value f.inside
                  (λ x old. subst (λ (xs : List Entry). Contains xs x) (sym f.stands.parts) (Contains-append_left done (n ∷ later) x old))
                  here operand_is refl (f.stands.knows.known v w is).source,
            ),
            f.rest.matched,
          );
          prints = f.rest.prints;
          narrow = all_cons (λ (x : Move). All (Fits width) x.effect.ints) mv f.rest.moves
              (all_cons (Fits width) (cell_of s v).value [] (all_head (Fits width) (cell_of s v).value _ f.fits) (All-nil (Fits width))) f.rest.narrow;
          forward = f.rest.forward;
        }

pub run_write : (p : Prog) (m : Method) (e : Exec) (width : ℕ) (locals : List (Option JavaValue)) (all : List Entry) (id pc : ℕ) (done : List Entry) (s : State)
    (items : List Listed) (names : List Operand) (later : List Entry) (q index v : ℕ) (value : ℤ) (stack : List StackItem) → s.stack ≡ Int value ∷ stack →
    StepFacts p m e width locals all id pc done s items names later (record { pc = q; instr = Putstatic index }) (operand.Variable v) →
    RunsOn p m e width locals id pc s (record { pc = q; instr = Putstatic index } ∷ items) (operand.Variable v ∷ names)
run_write p m e width locals all id pc done s items names later q index v value stack on_top f = go (numbered p v f.ready.0)
  where
    n : Entry
    n = record { action = record { thread = 0; id = id; kind = kind.Write; operand = operand_of p v }; note = note.Stores (top_of s.stack) }

    top_is : top_of s.stack ≡ value
    top_is = rw on_top refl

    go : (w : Variable) × (slice_get p.variables v ≡ Some w) →
        RunsOn p m e width locals id pc s (record { pc = q; instr = Putstatic index } ∷ items) (operand.Variable v ∷ names)
    go (w, is) =
        let mv : Move = record { effect = shows (event.Write v value) (value ∷ []); state = main_at m locals (pc + length_of (Putstatic index)) stack } in
        let operand_is : operand_of p v ≡ on.Variable w.class w.name = ap named_by is in
        let here : Contains (entries e) n =
        f.inside n (subst (λ (xs : List Entry). Contains xs n) (sym f.stands.parts) (Contains-append_right done (n ∷ later) n (contains_here n later))) in
        record {
          moves = mv ∷ f.rest.moves;
          steps = λ ended. (
            step.write index v value (map value_of stack)
                (rw on_top (executes p m locals pc (Putstatic index) (operand.Variable v) (Int value ∷ stack) stack f.is_method f.instruction)) refl,
            rw on_top at (f.rest.steps ended),
          );
          matched = (
            (
              var_of w,
              (w, is, refl),
              acts.plain (refl, operand_is),
              subst (λ (k : ℤ). Contains (entries e) (record { action = n.action; note = note.Stores k })) top_is here,
            ),
            f.rest.matched,
          );
          prints = f.rest.prints;
          narrow = all_cons (λ (x : Move). All (Fits width) x.effect.ints) mv f.rest.moves
              (all_cons (Fits width) value [] (subst (Fits width) top_is (all_head (Fits width) (top_of s.stack) _ f.fits)) (All-nil (Fits width))) f.rest.narrow;
          forward = f.rest.forward;
        }

pub run_print : (p : Prog) (m : Method) (e : Exec) (width : ℕ) (locals : List (Option JavaValue)) (all : List Entry) (id pc : ℕ) (done : List Entry) (s : State)
    (items : List Listed) (names : List Operand) (later : List Entry) (item : Listed) (value : ℤ) (stack : List StackItem) → s.stack ≡ Int value ∷ Out ∷ stack →
    StepFacts p m e width locals all id pc done s items names later item operand.Print →
    RunsOn p m e width locals id pc s (item ∷ items) (operand.Print ∷ names)
run_print p m e width locals all id pc done s items names later item value stack on_top f =
    let mv : Move = record { effect = shows (event.Print value) []; state = main_at m locals (pc + length_of item.instr) stack } in
    let top_is : top_of s.stack ≡ value = rw on_top refl in
    record {
      moves = mv ∷ f.rest.moves;
      steps = λ ended. (
        step.print item.instr value (map value_of stack)
            (rw on_top (executes p m locals pc item.instr operand.Print (Int value ∷ Out ∷ stack) stack f.is_method f.instruction)) refl,
        rw on_top at (f.rest.steps ended),
      );
      matched = (refl, f.rest.matched);
      prints = rw top_is (ap (λ (xs : List ℤ). value ∷ xs) f.rest.prints);
      narrow = all_cons (λ (x : Move). All (Fits width) x.effect.ints) mv f.rest.moves (All-nil (Fits width)) f.rest.narrow;
      forward = f.rest.forward;
    }
