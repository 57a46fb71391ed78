-- What holds where variables became more active.
use Rattle.std.proofs.Common.{◌<◌, ◌∙◌, ℕ, zero, suc, List, [], ◌∷◌, Option, refl, arith, length, get_or}
use Rattle.trail.specs.declared.step.Step.{Step}
use Rattle.conflict_analysis.specs.declared.hint.Hint.{Hint}
use Rattle.conflict_analysis.specs.Hints.{AreKnownHints, IsKnownHint}
use Rattle.decision_order.specs.Waiting.{OrderValue}
use Rattle.search_steps.specs.States.{IsState}
use Rattle.search_steps.specs.declared.state.State.{State}
use Rattle.logged_search.specs.Raised.{IsRaised}

pub raised-none : (order : OrderValue) → IsRaised order order
raised-none order = record { waiting = λ x i. i; variables = refl; phases = refl }

pub raised-then : (a b c : OrderValue) → IsRaised a b → IsRaised b c → IsRaised a c
raised-then a b c one two = record {
  waiting = λ x i. two.waiting x (one.waiting x i);
  variables = two.variables ∙ one.variables;
  phases = two.phases ∙ one.phases;
}

pub state-raised : (state : State) (order : OrderValue) → IsRaised state.order order → IsState state → IsState (record { pool = state.pool; trail = state.trail; order = order })
state-raised state order raised is = record {
  fit = is.fit;
  units = is.units;
  waiting = λ variable low none. raised.waiting variable (is.waiting variable (low-before variable low) none);
  variables = raised.variables ∙ is.variables;
  few = is.few;
}
  where
    low-before : (variable : ℕ) → variable < order.variables → variable < state.order.variables
    low-before variable low = omega (arith, low, raised.variables)

-- each hint is known
pub known-at : (stored : List (Option (List ℕ))) (steps : List Step) (hints : List Hint) (k : ℕ) (d : Hint) → AreKnownHints stored steps hints → k < length hints → IsKnownHint stored steps (get_or hints k d)
known-at stored steps [] k d known within = absurd (omega (arith, within))
known-at stored steps (h ∷ hints) zero d known within = known.0
known-at stored steps (h ∷ hints) (suc k) d known within = known-at stored steps hints k d known.1 (omega (arith, within))
