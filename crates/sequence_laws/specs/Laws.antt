-- Laws of happens-before and of committing sequences.
use Rattle.std.specs.Prelude.{◌≡◌, ◌↔◌, ℕ, zero, suc, List, [], ◌∷◌, ◌++◌, Contains, Some, slice_get, drop}
use Rattle.relations.specs.Path.{IsListed}
use Rattle.program.specs.Program.{Prog}
use Rattle.action_orders.specs.declared.action.ActionRef.{ActionRef}
use Rattle.action_orders.specs.declared.sequence.SequenceStep.{SequenceStep}
use Rattle.action_orders.specs.Execution.{Exec}
use Rattle.action_orders.specs.Actions.{Act, Var, IsRead}
use Rattle.action_orders.specs.HappensBefore.{HappensBefore, IsEdge}
use Rattle.action_orders.specs.Causality.{IsIn, Conditions, MeetConditions, MeetFrom}

-- ---- Happens-before

-- one action happens before another where a list of two or more leads there
abbrev pub HappensBeforeByList : Type 0
HappensBeforeByList = (p : Prog) (e : Exec) (a b : Act) → HappensBefore p e a b ↔ IsListed (IsEdge p e) a b

-- ---- The conditions by index

-- the set before the step at this index; before the first it is the one given
abbrev pub set_before : List ActionRef → List SequenceStep → ℕ → List ActionRef
set_before start steps zero = start
set_before start [] (suc i) = start
set_before start (step ∷ steps) (suc i) = set_before step.set steps i

-- the nine conditions at each index
abbrev pub MeetByIndex : Prog → Exec → List SequenceStep → Type 0
MeetByIndex p e s = (i : ℕ) (step : SequenceStep) → slice_get s i ≡ Some step → Conditions p e (set_before [] s i) step (drop (suc i) s)

abbrev pub ConditionsByIndex : Type 0
ConditionsByIndex = (p : Prog) (e : Exec) (s : List SequenceStep) → MeetConditions p e s ↔ MeetByIndex p e s

-- ---- Padding and merging

-- a step's execution, with nothing committed
abbrev pub uncommitted : SequenceStep → SequenceStep
uncommitted step = record { set = []; execution = step.execution }

-- the conditions hold with one more step in front
abbrev pub FrontPadding : Type 0
FrontPadding = (p : Prog) (e : Exec) (step : SequenceStep) (later : List SequenceStep) →
    MeetConditions p e (step ∷ later) → MeetConditions p e (uncommitted step ∷ step ∷ later)

-- what a step commits beside the set before it is no read
abbrev pub CommitsNoRead : Prog → Exec → List ActionRef → SequenceStep → Type 0
CommitsNoRead p e before step = (v : Var) (r : Act) → IsRead v r → IsIn p e step.set r → IsIn p e before r

-- the last set of a list of steps, or the one given
abbrev pub last_set : List ActionRef → List SequenceStep → List ActionRef
last_set start [] = start
last_set start (step ∷ steps) = last_set step.set steps

-- two steps that commit no reads, the first behind this set
pub record CommitNoReads (p : Prog) (e : Exec) (before : List ActionRef) (earlier later : SequenceStep) : Type 0 where
  pub grows : (a : ActionRef) → Contains before a → Contains earlier.set a
  pub first : CommitsNoRead p e before earlier
  pub second : CommitsNoRead p e earlier.set later

-- of two neighbouring steps that commit no reads the earlier can be dropped
abbrev pub Merging : Type 0
Merging = (p : Prog) (e : Exec) (front : List SequenceStep) (first second : SequenceStep) (later : List SequenceStep) →
    CommitNoReads p e (last_set [] front) first second →
    MeetConditions p e (front ++ first ∷ second ∷ later) → MeetConditions p e (front ++ second ∷ later)
