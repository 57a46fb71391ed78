-- An action of some thread lies between, or of none.
use Rattle.std.proofs.Common.{ℕ, false, refl, arith, inl, inr, subst}
use Rattle.std.proofs.lemmas.Bool.{cases_eq}
use Rattle.orders.proofs.Said.{not_true}
use Rattle.writes_between.specs.Before.{IsPassedBy}
use Rattle.writes_between.proofs.Passing.{passed_some, passed_none}
use Rattle.writes_between.proofs.overwritten.is_overwritten.Goals as goal

pub returns-then-is_overwritten_by : goal.returns-then-is_overwritten_by
returns-then-is_overwritten_by c x action named = (
  λ yes. passed_some c.args.orders.now c.args.places.now x c.loop-thread.thread c.args.at ((c.is_overwritten_by.ensures x action named).0 c.if-is_overwritten_by.true),
  λ passed. refl,
)

pub loop-thread-preserved : goal.loop-thread-preserved
loop-thread-preserved c t below x action named passed = elim (cases_eq t c.loop-thread.thread) [
  | inl eq ↦ not_true c.is_overwritten_by.result c.if-is_overwritten_by.false ((c.is_overwritten_by.ensures x action named).1 (subst (λ (u : ℕ). IsPassedBy c.args.orders.now c.args.places.now x u c.args.at) eq passed))
  | inr apart ↦ c.loop-thread.invariant t (omega arith) x action named passed
]

pub returns : goal.returns
returns c x action named = (
  λ never. absurd (not_true false refl never),
  λ passed. absurd (passed_none c.args.orders.now c.args.places.now x c.args.at c.requires.made c.requires.within (λ t few. c.loop-thread.invariant t (omega arith) x action named) passed),
)
