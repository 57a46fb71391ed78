-- The run of straight code, and what each of its entries is.
use Rattle.std.proofs.Common.{◌≡◌, ◌+◌, ℕ, Bool, suc, List, [], ◌∷◌, map, Option, slice_get, refl, ◌∙◌, ap, subst, arith, All, count_by}
use Rattle.std.specs.List.{filter_map}
use Rattle.std.proofs.lemmas.List.Elements.{All-nil}
use Rattle.opcodes.specs.Instructions.{length_of}
use Rattle.opcodes.specs.declared.instruction.Instr.{Instr}
use Rattle.opcodes.specs.declared.instruction.Instr.TheVariants.{Return}
use Rattle.opcodes.specs.declared.listed.Listed.{Listed}
use Rattle.java_int.specs.JavaInt.{Fits}
use Rattle.program.specs.Program.{Prog, IsMethod, IsInstruction}
use Rattle.program.specs.Step.{JavaValue, Activation, Effect, Executes, Returns, Step, silent, pushes, shows}
use Rattle.program.specs.Step as step
use Rattle.program.specs.Run.{Move, AreSteps, events_of, printed_of}
use Rattle.program.specs.Straight.{IsStraightEnd}
use Rattle.program.specs.declared.method.Method.{Method}
use Rattle.program.specs.declared.method.Operand.{Operand}
use Rattle.program.specs.declared.method.Operand.TheVariants as operand
use Rattle.program.proofs.Lists.{all_cons}
use Rattle.action_orders.specs.Execution.{Exec}
use Rattle.action_orders.specs.Runs.{HaveEvents}
use Rattle.straight.specs.Meaning.{State, entries_from, printed_from}
use Rattle.straight.specs.declared.doing.StackItem.{StackItem}
use Rattle.straight.specs.declared.doing.StackItem.TheVariants.{Int, Out}

-- what stands on the stack, as a value of a run
abbrev pub value_of : StackItem → JavaValue
value_of (Int n) = step.Int n
value_of Out = step.Out

-- these instructions and what they name are those of the method from a place on
pub record IsAt (m : Method) (k : ℕ) (items : List Listed) (names : List Operand) : Type 0 where
  pub listed : (j : ℕ) → slice_get m.listing (k + j) ≡ slice_get items j
  pub named : (j : ℕ) → slice_get m.operands (k + j) ≡ slice_get names j

pub next_at : (m : Method) (k : ℕ) (item : Listed) (items : List Listed) (o : Operand) (names : List Operand) → IsAt m k (item ∷ items) (o ∷ names) → IsAt m (k + 1) items names
next_at m k item items o names h = record {
  listed = λ j. let same : (k + 1) + j ≡ k + suc j = omega arith in ap (λ (i : ℕ). slice_get m.listing i) same ∙ h.listed (suc j);
  named = λ j. let same : (k + 1) + j ≡ k + suc j = omega arith in ap (λ (i : ℕ). slice_get m.operands i) same ∙ h.named (suc j);
}

pub stands_at : (m : Method) (k : ℕ) (item : Listed) (items : List Listed) (o : Operand) (names : List Operand) → IsAt m k (item ∷ items) (o ∷ names) → IsInstruction m item.pc item.instr o
stands_at m k item items o names h = record {
  place = k;
  listed = let same : k ≡ k + 0 = omega arith in ap (λ (i : ℕ). slice_get m.listing i) same ∙ h.listed 0;
  names = let same : k ≡ k + 0 = omega arith in ap (λ (i : ℕ). slice_get m.operands i) same ∙ h.named 0;
}

-- main at a place, with this stack
abbrev pub main_at : Method → List (Option JavaValue) → ℕ → List StackItem → List Activation
main_at m locals pc stack = record { method = m.id; pc = pc; locals = locals; stack = map value_of stack } ∷ []

-- what a run of the rest of the code has to show
pub record RunsOn (p : Prog) (m : Method) (e : Exec) (width : ℕ) (locals : List (Option JavaValue)) (id pc : ℕ) (s : State) (items : List Listed) (names : List Operand) : Type 0 where
  pub moves : List Move
  pub steps : (ended : ℕ → Bool) → AreSteps p ended (main_at m locals pc s.stack) moves
  pub matched : HaveEvents p e (entries_from p id s items names) (events_of moves)
  pub prints : filter_map printed_of (events_of moves) ≡ printed_from id s items names
  pub narrow : All (λ mv. All (Fits width) mv.effect.ints) moves
  pub forward : count_by (λ mv. mv.effect.backward) moves ≡ 0

-- the last instruction returns
pub run_end : (p : Prog) (m : Method) (e : Exec) (width : ℕ) (locals : List (Option JavaValue)) (id pc k : ℕ) (s : State) (item : Listed) (o : Operand) → IsMethod p m.id m →
    IsAt m k (item ∷ []) (o ∷ []) → IsStraightEnd pc item o → RunsOn p m e width locals id pc s (item ∷ []) (o ∷ [])
run_end p m e width locals id pc k s item o is_method at ends = record {
  moves = record { effect = silent; state = [] } ∷ [];
  steps = λ ended. (step.returned returns refl, refl);
  matched = rw ends.names_nothing tt;
  prints = rw ends.names_nothing refl;
  narrow = all_cons (λ (mv : Move). All (Fits width) mv.effect.ints) (record { effect = silent; state = [] }) [] (All-nil (Fits width)) (All-nil (λ (mv : Move). All (Fits width) mv.effect.ints));
  forward = refl;
}
  where
    instruction : IsInstruction m pc Return operand.Nothing
    instruction = subst (λ (i : ℕ). IsInstruction m i Return operand.Nothing) ends.place
        (subst (λ (i : Instr). IsInstruction m item.pc i operand.Nothing) ends.returns
        (subst (λ (q : Operand). IsInstruction m item.pc item.instr q) ends.names_nothing (stands_at m k item [] o [] at)))

    returns : Returns p (main_at m locals pc s.stack) []
    returns = record { top = record { method = m.id; pc = pc; locals = locals; stack = map value_of s.stack }; stands = refl; method = m; is_method = is_method; instruction = instruction; ends = refl }

-- one instruction of main that goes on to the next
pub executes : (p : Prog) (m : Method) (locals : List (Option JavaValue)) (pc : ℕ) (instr : Instr) (o : Operand) (before after' : List StackItem) → IsMethod p m.id m →
    IsInstruction m pc instr o → Executes p (main_at m locals pc before) (main_at m locals (pc + length_of instr) after') instr o (map value_of before) (map value_of after')
executes p m locals pc instr o before after' is_method instruction = record {
  top = record { method = m.id; pc = pc; locals = locals; stack = map value_of before };
  callers = [];
  stands = refl;
  method = m;
  is_method = is_method;
  instruction = instruction;
  stack = refl;
  next = refl;
}
