-- By one thread after another.
use Rattle.std.proofs.Common.{ℕ, false, refl, subst, arith, inl, inr}
use Rattle.std.proofs.lemmas.Bool.{cases_eq}
use Rattle.orders.proofs.Said.{not_true}
use Rattle.external_actions.specs.Last.{PrecedesBy}
use Rattle.external_actions.proofs.Lasting.{no_thread}
use Rattle.external_actions.proofs.last.LastCommitted.is_before_committed.Goals as goal

pub loop-thread-preserved : goal.loop-thread-preserved
loop-thread-preserved c t below precedes = elim (cases_eq t c.loop-thread.thread) [
  | inl eq ↦ not_true c.are_preceded.result c.if-are_preceded.false (c.are_preceded.ensures.1 (subst (λ (u : ℕ). PrecedesBy c.args.stage.now u c.args.at) eq precedes))
  | inr apart ↦ c.loop-thread.invariant t (omega arith) precedes
]

pub returns : goal.returns
returns c = (
  λ never. absurd (not_true false refl never),
  λ precedes. absurd (no_thread c.args.stage.now c.args.at c.requires.stage (λ t few. c.loop-thread.invariant t (omega arith)) precedes),
)
