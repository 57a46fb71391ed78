-- The conditions on a step of a committing sequence (JLS 17.4.8), at one action, and the least action that breaks one.
use Rattle.std.specs.Prelude.{◌≡◌, ◌⊎◌, ℕ, ℤ, List, Option, ◌↔◌}
use Rattle.std.specs.List.{AllByRecursion}
use Rattle.program.specs.Program.{Prog}
use Rattle.program.specs.declared.kind.Kind.TheVariants.{Print}
use Rattle.action_orders.specs.declared.action.Action.{Action}
use Rattle.action_orders.specs.declared.action.ActionRef.{ActionRef}
use Rattle.action_orders.specs.declared.action.ActionOperand.TheVariants.{Nothing}
use Rattle.action_orders.specs.declared.sequence.SequenceStep.{SequenceStep}
use Rattle.action_orders.specs.Execution.{Exec}
use Rattle.action_orders.specs.Actions.{Act, Default, Of, Var, IsAction, Is, IsRead, Sees, Stores}
use Rattle.action_orders.specs.Orders.{SyncOrder}
use Rattle.action_orders.specs.SynchronizesWith.{SynchronizesWith}
use Rattle.action_orders.specs.HappensBefore.{HappensBefore, EssentialSync}
use Rattle.action_orders.specs.Causality.{IsIn}
use Rattle.least_break.specs.Least.{IsLeastBreak}

-- ---- The conditions

-- a committed action is an action of the step's execution
abbrev pub Condition1At : Prog → Exec → SequenceStep → Act → Type 0
Condition1At p e step a = IsIn p e step.set a → IsAction p step.execution a

-- it happens before the same committed actions as in e
abbrev pub Condition2At : Prog → Exec → SequenceStep → Act → Type 0
Condition2At p e step a = (b : Act) → IsIn p e step.set a → IsIn p e step.set b → HappensBefore p step.execution a b ↔ HappensBefore p e a b

-- and stands before the same in the synchronization order
abbrev pub Condition3At : Prog → Exec → SequenceStep → Act → Type 0
Condition3At p e step a = (b : Act) → IsIn p e step.set a → IsIn p e step.set b → SyncOrder p step.execution a b ↔ SyncOrder p e a b

-- a committed write stores the same value as in e
abbrev pub Condition4At : Prog → Exec → SequenceStep → Act → Type 0
Condition4At p e step w = (value : ℤ) → IsIn p e step.set w → Stores step.execution w value ↔ Stores e w value

-- a read that was committed before sees what it sees in e
abbrev pub Condition5At : Prog → Exec → List ActionRef → SequenceStep → Act → Type 0
Condition5At p e before step r = (v : Var) (w : Act) → IsRead v r → IsIn p e before r → Sees step.execution v r w ↔ Sees e v r w

-- another read of the step's execution sees a write that happens before it
abbrev pub Condition6At : Prog → Exec → List ActionRef → SequenceStep → Act → Type 0
Condition6At p e before step r = (v : Var) (w : Act) → IsRead v r → IsAction p step.execution r → (IsIn p e before r → ⊥) →
    Sees step.execution v r w → HappensBefore p step.execution w r

-- a read that is committed now sees writes that were committed before
abbrev pub Condition7At : Prog → Exec → List ActionRef → SequenceStep → Act → Type 0
Condition7At p e before step r = (v : Var) (w : Act) → IsRead v r → IsIn p e step.set r → (IsIn p e before r → ⊥) →
    (Sees step.execution v r w ⊎ Sees e v r w) → IsIn p e before w

-- the essential edges that end here, and lead to a committed action, stay edges of synchronizes-with
abbrev pub Condition8At : Prog → Exec → SequenceStep → List SequenceStep → Act → Type 0
Condition8At p e step later y = (x z : Act) → EssentialSync p step.execution x y → (y ≡ z) ⊎ HappensBefore p step.execution y z → IsIn p e step.set z →
    SynchronizesWith p step.execution x y × AllByRecursion (λ s. SynchronizesWith p s.execution x y) later

-- an external action that happens before a committed action is committed
abbrev pub Condition9At : Prog → Exec → SequenceStep → Act → Type 0
Condition9At p e step x = (y : Act) → Is Print Nothing x → HappensBefore p step.execution x y → IsIn p e step.set y → IsIn p e step.set x

-- ---- The least action

-- the condition at the actions with this identifier
abbrev pub WithId : (Act → Type 0) → ℕ → Type 0
WithId P id = (a : Action) → a.id ≡ id → P (Of a)

-- the identifier of the least action that breaks the condition, or none where each action meets it. Default writes, which come
-- first, meet it
pub record IsLeastAction (P : Act → Type 0) (result : Option ℕ) : Type 0 where
  pub defaults : (v : Var) → P (Default v)
  pub least : IsLeastBreak (WithId P) result
