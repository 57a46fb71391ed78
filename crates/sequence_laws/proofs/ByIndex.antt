-- The conditions step after step, and at each index.
use Rattle.std.proofs.Common.{◌≡◌, ◌↔◌, ℕ, zero, suc, List, [], ◌∷◌, Some, slice_get, drop, refl, subst}
use Rattle.program.specs.Program.{Prog}
use Rattle.action_orders.specs.declared.action.ActionRef.{ActionRef}
use Rattle.action_orders.specs.declared.sequence.SequenceStep.{SequenceStep}
use Rattle.action_orders.specs.Execution.{Exec}
use Rattle.action_orders.specs.Causality.{Conditions, MeetConditions, MeetFrom}
use Rattle.sequence_laws.specs.Laws.{MeetByIndex, ConditionsByIndex, set_before}

-- the conditions at each index, behind this set
abbrev MeetAt : Prog → Exec → List ActionRef → List SequenceStep → Type 0
MeetAt p e before s = (i : ℕ) (step : SequenceStep) → slice_get s i ≡ Some step → Conditions p e (set_before before s i) step (drop (suc i) s)

to_index : (p : Prog) (e : Exec) (before : List ActionRef) (s : List SequenceStep) → MeetFrom p e before s → MeetAt p e before s
to_index p e before [] m i step there = cc
to_index p e before (x ∷ s) m zero step there =
    let same : x ≡ step = cc in
    subst (λ (y : SequenceStep). Conditions p e before y s) same m.0
to_index p e before (x ∷ s) m (suc i) step there = to_index p e x.set s m.1 i step there

from_index : (p : Prog) (e : Exec) (before : List ActionRef) (s : List SequenceStep) → MeetAt p e before s → MeetFrom p e before s
from_index p e before [] m = tt
from_index p e before (x ∷ s) m = (m 0 x refl, from_index p e x.set s (λ i step there. m (suc i) step there))

pub by_index : ConditionsByIndex
by_index p e s = (to_index p e [] s, from_index p e [] s)
