-- All of straight code: its run, and what each of its entries is.
use Rattle.std.proofs.Common.{◌≡◌, ◌+◌, ℕ, ℤ, List, [], ◌∷◌, ◌++◌, length, map, Option, sym, ap, subst, arith, inl, inr, Contains, All}
use Rattle.std.proofs.lemmas.List.{append_assoc}
use Rattle.std.proofs.lemmas.List.Elements.{Contains-append_right, Contains-append_cases}
use Rattle.opcodes.specs.Instructions.{length_of}
use Rattle.opcodes.specs.declared.instruction.Instr.{Instr}
use Rattle.opcodes.specs.declared.listed.Listed.{Listed}
use Rattle.java_int.specs.JavaInt.{Fits}
use Rattle.program.specs.Program.{Prog, IsMethod, IsInstruction}
use Rattle.program.specs.Step.{JavaValue}
use Rattle.program.specs.Straight.{AreApart, IsStraightFrom, IsStraightStep, ChangesStack, constant, read, write, out, print}
use Rattle.program.specs.declared.method.Method.{Method}
use Rattle.program.specs.declared.method.Operand.{Operand}
use Rattle.program.specs.declared.method.Operand.TheVariants as operand
use Rattle.program.specs.declared.stack_type.StackType.{StackType}
use Rattle.program.proofs.Lists.{contains_nil, all_from, all_of}
use Rattle.action_orders.specs.declared.action.Entry.{Entry}
use Rattle.action_orders.specs.Execution.{Exec}
use Rattle.action_orders.specs.Actions.{entries}
use Rattle.straight.specs.Doing.{doing_of}
use Rattle.straight.specs.Meaning.{State, after, entry_at, entries_from, ints_at, ints_from}
use Rattle.straight.specs.Walk.{IsReady}
use Rattle.straight.proofs.LastSeen.{Stands, stands_after, pushes_int, IsPlaced, placed_at}
use Rattle.straight.proofs.Ready.{type_of, IsReadyStep, ready_step}
use Rattle.straight.proofs.Rising.{Rising, rising_from, rising_lower}
use Rattle.straight.proofs.Running.{IsAt, RunsOn, next_at, stands_at, run_end}
use Rattle.straight.proofs.RunSteps.{StepFacts, run_constant, run_out, run_read, run_write, run_print}

-- all that is known before the instruction at a place, k instructions from the first
pub record IsAlong (p : Prog) (m : Method) (all : List Entry) (tail : List Entry) (k id pc : ℕ) (done : List Entry) (s : State) (types : List StackType) (items : List Listed) (names : List Operand) : Type 0 where
  pub straight : IsStraightFrom (length p.variables) m.frame.max_stack pc types items names
  pub typed : map type_of s.stack ≡ types
  pub at : IsAt m k items names
  pub stands : Stands p all id done (entries_from p id s items names ++ tail) s
  pub rising : Rising (id + length items) tail

-- and after an instruction that is not the last
pub record GoesOn (p : Prog) (m : Method) (all : List Entry) (tail : List Entry) (k id pc : ℕ) (done : List Entry) (s : State) (types : List StackType) (item next : Listed) (items : List Listed) (o : Operand) (names : List Operand) : Type 0 where
  pub types_after : List StackType
  pub step : IsStraightStep (length p.variables) m.frame.max_stack pc item o types types_after
  pub ready : IsReady (length p.variables) s.stack (doing_of item.instr o)
  pub here : Stands p all id done (entry_at p id s (doing_of item.instr o) ++ (entries_from p (id + 1) (after id s (doing_of item.instr o)) (next ∷ items) names ++ tail)) s
  pub next_is : IsAlong p m all tail (k + 1) (id + 1) (pc + length_of item.instr) (done ++ entry_at p id s (doing_of item.instr o)) (after id s (doing_of item.instr o)) types_after (next ∷ items) names

goes_on : (p : Prog) (m : Method) (all tail : List Entry) (k id pc : ℕ) (done : List Entry) (s : State) (types : List StackType) (item next : Listed) (items : List Listed) (o : Operand) (names : List Operand) →
    AreApart p.variables → IsAlong p m all tail k id pc done s types (item ∷ next ∷ items) (o ∷ names) → GoesOn p m all tail k id pc done s types item next items o names
goes_on p m all tail k id pc done s types item next items o names apart h = go h.straight
  where
    more : List Entry
    more = entries_from p (id + 1) (after id s (doing_of item.instr o)) (next ∷ items) names

    go : (types_after : List StackType) × IsStraightStep (length p.variables) m.frame.max_stack pc item o types types_after ×
        IsStraightFrom (length p.variables) m.frame.max_stack (pc + length_of item.instr) types_after (next ∷ items) names → GoesOn p m all tail k id pc done s types item next items o names
    go (types_after, step, rest) =
        let r : IsReadyStep (length p.variables) id s item.instr o types_after = ready_step (length p.variables) id s item.instr o types types_after step.changes step.numbered h.typed in
        let parts : (entry_at p id s (doing_of item.instr o) ++ more) ++ tail ≡ entry_at p id s (doing_of item.instr o) ++ (more ++ tail) = append_assoc (entry_at p id s (doing_of item.instr o)) more tail in
        let here : Stands p all id done (entry_at p id s (doing_of item.instr o) ++ (more ++ tail)) s = subst (λ (xs : List Entry). Stands p all id done xs s) parts h.stands in
        let rising_tail : Rising ((id + 1) + length (next ∷ items)) tail = rising_lower ((id + 1) + length (next ∷ items)) (id + length (item ∷ next ∷ items)) tail (omega arith) h.rising in
        let rising : Rising (id + 1) (more ++ tail) = rising_from p (id + 1) (after id s (doing_of item.instr o)) (next ∷ items) names tail rising_tail in
        record {
          types_after = types_after;
          step = step;
          ready = r.ready;
          here = here;
          next_is = record {
            straight = rest;
            typed = r.types_after;
            at = next_at m k item (next ∷ items) o names h.at;
            stands = stands_after p all id done s (doing_of item.instr o) (more ++ tail) apart r.ready (pushes_int item o types types_after step.changes) rising here;
            rising = rising_tail;
          };
        }

-- each entry from here on is a middle one of the whole list
pub placed_from : (p : Prog) (m : Method) (all tail : List Entry) (k id pc : ℕ) (done : List Entry) (s : State) (types : List StackType) (items : List Listed) (names : List Operand) →
    AreApart p.variables → IsAlong p m all tail k id pc done s types items names → (n : Entry) → Contains (entries_from p id s items names) n → IsPlaced p all n
placed_from p m all tail k id pc done s types [] names apart h n inside = absurd h.straight
placed_from p m all tail k id pc done s types (item ∷ []) [] apart h n inside = absurd h.straight
placed_from p m all tail k id pc done s types (item ∷ []) (o ∷ []) apart h n inside = absurd (contains_nil n none)
  where
    none : Contains [] n
    none = rw h.straight.names_nothing at inside
placed_from p m all tail k id pc done s types (item ∷ []) (o ∷ q ∷ names) apart h n inside = absurd h.straight
placed_from p m all tail k id pc done s types (item ∷ next ∷ items) [] apart h n inside = absurd h.straight
placed_from p m all tail k id pc done s types (item ∷ next ∷ items) (o ∷ names) apart h n inside =
    let g : GoesOn p m all tail k id pc done s types item next items o names = goes_on p m all tail k id pc done s types item next items o names apart h in
    elim (Contains-append_cases (entry_at p id s (doing_of item.instr o)) (entries_from p (id + 1) (after id s (doing_of item.instr o)) (next ∷ items) names) n inside) [
      | inl here ↦ placed_at p all id done _ s (doing_of item.instr o) n g.ready g.here here
      | inr later ↦ placed_from p m all tail (k + 1) (id + 1) (pc + length_of item.instr) (done ++ entry_at p id s (doing_of item.instr o)) (after id s (doing_of item.instr o)) g.types_after (next ∷ items) names
          apart g.next_is n later
    ]

all_right : (width : ℕ) (xs ys : List ℤ) → All (Fits width) (xs ++ ys) → All (Fits width) ys
all_right width xs ys h = all_from (Fits width) ys (λ x inside. all_of (Fits width) (xs ++ ys) x h (Contains-append_right xs ys x inside))

-- the run of one instruction, before the run of those behind it
run_step : (p : Prog) (m : Method) (e : Exec) (width : ℕ) (locals : List (Option JavaValue)) (all : List Entry) (id pc : ℕ) (done : List Entry) (s : State)
    (items : List Listed) (names : List Operand) (later : List Entry) (item : Listed) (o : Operand) (before types : List StackType) → ChangesStack item.instr o before types →
    StepFacts p m e width locals all id pc done s items names later item o → RunsOn p m e width locals id pc s (item ∷ items) (o ∷ names)
run_step p m e width locals all id pc done s items names later item o before types (constant n names_is is_int after_is) =
    subst (λ (q : Operand). StepFacts p m e width locals all id pc done s items names later item q → RunsOn p m e width locals id pc s (item ∷ items) (q ∷ names)) (sym names_is)
    (run_constant p m e width locals all id pc done s items names later item n is_int)
run_step p m e width locals all id pc done s items names later item o before types (read index v instr_is names_is after_is) =
    subst (λ (q : Operand). StepFacts p m e width locals all id pc done s items names later item q → RunsOn p m e width locals id pc s (item ∷ items) (q ∷ names)) (sym names_is)
    (subst (λ (x : Listed). StepFacts p m e width locals all id pc done s items names later x (operand.Variable v) → RunsOn p m e width locals id pc s (x ∷ items) (operand.Variable v ∷ names))
    (ap (λ (i : Instr). record { pc = item.pc; instr = i }) (sym instr_is))
    (run_read p m e width locals all id pc done s items names later item.pc index v))
run_step p m e width locals all id pc done s items names later item o before types (write index v instr_is names_is before_is) =
    subst (λ (q : Operand). StepFacts p m e width locals all id pc done s items names later item q → RunsOn p m e width locals id pc s (item ∷ items) (q ∷ names)) (sym names_is)
    (subst (λ (x : Listed). StepFacts p m e width locals all id pc done s items names later x (operand.Variable v) → RunsOn p m e width locals id pc s (x ∷ items) (operand.Variable v ∷ names))
    (ap (λ (i : Instr). record { pc = item.pc; instr = i }) (sym instr_is))
    (λ f. run_write p m e width locals all id pc done s items names later item.pc index v f.ready.1.value f.ready.1.rest f.ready.1.is f))
run_step p m e width locals all id pc done s items names later item o before types (out index instr_is names_is after_is) =
    subst (λ (q : Operand). StepFacts p m e width locals all id pc done s items names later item q → RunsOn p m e width locals id pc s (item ∷ items) (q ∷ names)) (sym names_is)
    (subst (λ (x : Listed). StepFacts p m e width locals all id pc done s items names later x operand.Out → RunsOn p m e width locals id pc s (x ∷ items) (operand.Out ∷ names))
    (ap (λ (i : Instr). record { pc = item.pc; instr = i }) (sym instr_is))
    (run_out p m e width locals all id pc done s items names later item.pc index))
run_step p m e width locals all id pc done s items names later item o before types (print names_is before_is) =
    subst (λ (q : Operand). StepFacts p m e width locals all id pc done s items names later item q → RunsOn p m e width locals id pc s (item ∷ items) (q ∷ names)) (sym names_is)
    (λ f. run_print p m e width locals all id pc done s items names later item f.ready.value f.ready.rest f.ready.is f)

-- the run from here on
pub run_from : (p : Prog) (m : Method) (e : Exec) (width : ℕ) (locals : List (Option JavaValue)) (all tail : List Entry) (k id pc : ℕ) (done : List Entry) (s : State) (types : List StackType) (items : List Listed) (names : List Operand) →
    AreApart p.variables → IsMethod p m.id m → ((x : Entry) → Contains all x → Contains (entries e) x) → IsAlong p m all tail k id pc done s types items names → All (Fits width) (ints_from id s items names) →
    RunsOn p m e width locals id pc s items names
run_from p m e width locals all tail k id pc done s types [] names apart is_method inside h fits = absurd h.straight
run_from p m e width locals all tail k id pc done s types (item ∷ []) [] apart is_method inside h fits = absurd h.straight
run_from p m e width locals all tail k id pc done s types (item ∷ []) (o ∷ []) apart is_method inside h fits = run_end p m e width locals id pc k s item o is_method h.at h.straight
run_from p m e width locals all tail k id pc done s types (item ∷ []) (o ∷ q ∷ names) apart is_method inside h fits = absurd h.straight
run_from p m e width locals all tail k id pc done s types (item ∷ next ∷ items) [] apart is_method inside h fits = absurd h.straight
run_from p m e width locals all tail k id pc done s types (item ∷ next ∷ items) (o ∷ names) apart is_method inside h fits =
    let g : GoesOn p m all tail k id pc done s types item next items o names = goes_on p m all tail k id pc done s types item next items o names apart h in
    run_step p m e width locals all id pc done s (next ∷ items) names (entries_from p (id + 1) (after id s (doing_of item.instr o)) (next ∷ items) names ++ tail) item o types g.types_after g.step.changes (record {
      is_method = is_method;
      inside = inside;
      instruction = subst (λ (i : ℕ). IsInstruction m i item.instr o) g.step.place (stands_at m k item (next ∷ items) o names h.at);
      ready = g.ready;
      stands = g.here;
      fits = fits;
      rest = run_from p m e width locals all tail (k + 1) (id + 1) (pc + length_of item.instr) (done ++ entry_at p id s (doing_of item.instr o)) (after id s (doing_of item.instr o)) g.types_after (next ∷ items) names
          apart is_method inside g.next_is (all_right width (ints_at s (doing_of item.instr o)) (ints_from (id + 1) (after id s (doing_of item.instr o)) (next ∷ items) names) fits);
    })
