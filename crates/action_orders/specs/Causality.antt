-- Committing sequences (JLS 17.4.8): the chain of sets, and the nine conditions.
use Rattle.std.specs.Prelude.{◌≡◌, ℤ, List, [], ◌∷◌, Contains, ◌↔◌, ◌⊎◌, ⊤}
use Rattle.std.specs.List.{AllByRecursion}
use Rattle.program.specs.Program.{Prog}
use Rattle.program.specs.declared.kind.Kind.TheVariants.{Print}
use Rattle.action_orders.specs.declared.action.ActionRef.{ActionRef}
use Rattle.action_orders.specs.declared.action.ActionOperand.TheVariants.{Nothing}
use Rattle.action_orders.specs.declared.sequence.SequenceStep.{SequenceStep}
use Rattle.action_orders.specs.Execution.{Exec}
use Rattle.action_orders.specs.Actions.{Act, Var, IsAction, Is, IsRead, Sees, Stores, name_of}
use Rattle.action_orders.specs.Orders.{SyncOrder}
use Rattle.action_orders.specs.SynchronizesWith.{SynchronizesWith}
use Rattle.action_orders.specs.HappensBefore.{HappensBefore, EssentialSync}

-- an action of E that a set names
pub record IsIn (p : Prog) (e : Exec) (set : List ActionRef) (a : Act) : Type 0 where
  pub action : IsAction p e a
  pub member : Contains set (name_of a)

-- ---- The conditions on one step of a sequence of the execution e. The set before it is `before`, the steps after it are `later`.
-- An action of the step's execution and an action of e are one where thread, kind, operand and identifier are equal

-- the committed actions are actions of the step's execution
abbrev pub Condition1 : Prog → Exec → SequenceStep → Type 0
Condition1 p e step = (a : Act) → IsIn p e step.set a → IsAction p step.execution a

-- happens-before on the committed actions is that of e
abbrev pub Condition2 : Prog → Exec → SequenceStep → Type 0
Condition2 p e step = (a b : Act) → IsIn p e step.set a → IsIn p e step.set b → HappensBefore p step.execution a b ↔ HappensBefore p e a b

-- so is the synchronization order
abbrev pub Condition3 : Prog → Exec → SequenceStep → Type 0
Condition3 p e step = (a b : Act) → IsIn p e step.set a → IsIn p e step.set b → SyncOrder p step.execution a b ↔ SyncOrder p e a b

-- and so are the values that the committed writes store
abbrev pub Condition4 : Prog → Exec → SequenceStep → Type 0
Condition4 p e step = (w : Act) (value : ℤ) → IsIn p e step.set w → Stores step.execution w value ↔ Stores e w value

-- the reads that were committed before see what they see in e
abbrev pub Condition5 : Prog → Exec → List ActionRef → SequenceStep → Type 0
Condition5 p e before step = (v : Var) (r w : Act) → IsRead v r → IsIn p e before r → Sees step.execution v r w ↔ Sees e v r w

-- the other reads of the step's execution see writes that happen before them
abbrev pub Condition6 : Prog → Exec → List ActionRef → SequenceStep → Type 0
Condition6 p e before step = (v : Var) (r w : Act) → IsRead v r → IsAction p step.execution r → (IsIn p e before r → ⊥) →
    Sees step.execution v r w → HappensBefore p step.execution w r

-- a read that is committed now sees, in the step's execution and in e, writes that were committed before
abbrev pub Condition7 : Prog → Exec → List ActionRef → SequenceStep → Type 0
Condition7 p e before step = (v : Var) (r w : Act) → IsRead v r → IsIn p e step.set r → (IsIn p e before r → ⊥) →
    (Sees step.execution v r w ⊎ Sees e v r w) → IsIn p e before w

-- an essential edge of the step's execution that leads to a committed action stays an edge of synchronizes-with. That its end
-- may be the committed action itself is the project's own reading
abbrev pub Condition8 : Prog → Exec → SequenceStep → List SequenceStep → Type 0
Condition8 p e step later = (x y z : Act) → EssentialSync p step.execution x y → (y ≡ z) ⊎ HappensBefore p step.execution y z → IsIn p e step.set z →
    SynchronizesWith p step.execution x y × AllByRecursion (λ s. SynchronizesWith p s.execution x y) later

-- an external action that happens before a committed action is committed
abbrev pub Condition9 : Prog → Exec → SequenceStep → Type 0
Condition9 p e step = (x y : Act) → Is Print Nothing x → HappensBefore p step.execution x y → IsIn p e step.set y → IsIn p e step.set x

pub record Conditions (p : Prog) (e : Exec) (before : List ActionRef) (step : SequenceStep) (later : List SequenceStep) : Type 0 where
  pub condition1 : Condition1 p e step
  pub condition2 : Condition2 p e step
  pub condition3 : Condition3 p e step
  pub condition4 : Condition4 p e step
  pub condition5 : Condition5 p e before step
  pub condition6 : Condition6 p e before step
  pub condition7 : Condition7 p e before step
  pub condition8 : Condition8 p e step later
  pub condition9 : Condition9 p e step

-- the nine conditions at each step, with the set before it
abbrev pub MeetFrom : Prog → Exec → List ActionRef → List SequenceStep → Type 0
MeetFrom p e before [] = ⊤
MeetFrom p e before (step ∷ later) = Conditions p e before step later × MeetFrom p e step.set later

abbrev pub MeetConditions : Prog → Exec → List SequenceStep → Type 0
MeetConditions p e s = MeetFrom p e [] s

-- ---- The chain of sets

pub record IsProperSubset (small large : List ActionRef) : Type 0 where
  pub each : (a : ActionRef) → Contains small a → Contains large a
  pub new : ActionRef
  pub is_new : Contains large new
  pub not_old : Contains small new → ⊥

-- the set names exactly the actions of e
abbrev pub NamesAll : Prog → Exec → List ActionRef → Type 0
NamesAll p e set = (a : ActionRef) → Contains set a ↔ ((action : Act) × IsAction p e action × (name_of action ≡ a))

-- each set is a proper subset of the next, and the last names exactly the actions of e
abbrev pub ChainFrom : Prog → Exec → List ActionRef → List SequenceStep → Type 0
ChainFrom p e before [] = NamesAll p e before
ChainFrom p e before (step ∷ later) = IsProperSubset before step.set × ChainFrom p e step.set later

abbrev pub IsChain : Prog → Exec → List SequenceStep → Type 0
IsChain p e s = ChainFrom p e [] s

-- the sequence commits e
pub record Commits (p : Prog) (e : Exec) (s : List SequenceStep) : Type 0 where
  pub chain : IsChain p e s
  pub conditions : MeetConditions p e s
