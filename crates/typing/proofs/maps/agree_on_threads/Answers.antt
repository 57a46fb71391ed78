use Rattle.std.proofs.Common.{◌≡◌, ◌<◌, ℕ, length, inl, inr, refl, subst, sym, arith}
use Rattle.typing.specs.Joining.{stage_at}
use Rattle.typing.proofs.Keys.{listed_more, listed_there, false-true}
use Rattle.typing.proofs.maps.agree_on_threads.Goals as goal

pub loop-thread-preserved : goal.loop-thread-preserved
loop-thread-preserved c = λ q h.
    let xs = c.args.listed.now in
    let lt : c.loop-thread.thread-index < length xs = omega arith in
    let P : ℕ → Type 0 = λ n. stage_at c.args.a.now n ≡ stage_at c.args.b.now n in
    elim (listed_more q xs c.loop-thread.thread-index lt h) [
      | inl before ↦ c.loop-thread.invariant q before
      | inr same ↦ subst P (sym same) (c.if-not-is_same_stage.ensures.same.0 refl)
    ]

pub returns-then-not-is_same_stage-clause-agrees : goal.returns-then-not-is_same_stage-clause-agrees
returns-then-not-is_same_stage-clause-agrees c =
    let xs = c.args.listed.now in
    let lt : c.loop-thread.thread-index < length xs = omega arith in
    (λ wrong. absurd (false-true wrong), λ all. c.if-not-is_same_stage.ensures.same.1 (all _ (listed_there xs c.loop-thread.thread-index lt)))

pub returns-then-not-is_same_stage-clause-differs : goal.returns-then-not-is_same_stage-clause-differs
returns-then-not-is_same_stage-clause-differs c = λ _. (_, c.is_same_stage.ensures.small, λ e. false-true (c.if-not-is_same_stage.ensures.same.1 e))
