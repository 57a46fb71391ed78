-- The writes that reads see.
use Rattle.std.specs.Prelude.{ℕ, List, Option, Some, None}
use Rattle.action_orders.specs.declared.action.ActionOperand.{ActionOperand}
use Rattle.action_orders.specs.declared.action.ActionOperand.TheVariants.{Variable}
use Rattle.action_orders.specs.declared.action.ActionRef.{ActionRef}
use Rattle.action_orders.specs.declared.action.ActionRef.TheVariants as refs
use Rattle.action_orders.specs.declared.action.Note.{Note}
use Rattle.action_orders.specs.declared.action.Note.TheVariants as note
use Rattle.action_orders.specs.Actions.{Act, Of, Var, IsRead, Sees}
use Rattle.action_orders.specs.HappensBefore.{HappensBefore}
use Rattle.action_orders.specs.WellFormed.{SeesByHappensBefore}
use Rattle.orders.specs.declared.answers.Orders.{Orders}
use Rattle.orders.specs.Tables.{action_of}
use Rattle.writes_between.specs.Before.{IsPassed}

-- the name of the write that the note of an action on this operand names
abbrev pub seen_name : Note → ActionOperand → Option ActionRef
seen_name (note.Sees (Some id)) operand = Some (refs.Id id)
seen_name (note.Sees None) (Variable class name) = Some (refs.Default class name)
seen_name _ _ = None

-- if the action at the place is a read, what it sees agrees with happens-before
abbrev pub IsConsistentAtPlace : Orders → ℕ → Type 0
IsConsistentAtPlace o k = (v : Var) (w : Act) → IsRead v (Of (action_of o.flat k)) → Sees o.flat.execution.now v (Of (action_of o.flat k)) w →
    SeesByHappensBefore o.flat.program.now o.flat.execution.now v (Of (action_of o.flat k)) w

-- the action at place j doesn't happen before the write, and no action at one of the other places lies between them
pub record IsRecent (o : Orders) (places : List ℕ) (w : Act) (j : ℕ) : Type 0 where
  pub not_later : HappensBefore o.flat.program.now o.flat.execution.now (Of (action_of o.flat j)) w → ⊥
  pub not_passed : IsPassed o places w j → ⊥
