use Rattle.std.proofs.Common.{◌≡◌, ◌<◌, ℕ, length, inl, inr, refl, subst, sym, arith}
use Rattle.typing.specs.Joining.{count_at}
use Rattle.typing.proofs.Keys.{listed_more, listed_there, false-true}
use Rattle.typing.proofs.maps.agree_on_held.Goals as goal

pub loop-monitor-preserved : goal.loop-monitor-preserved
loop-monitor-preserved c = λ q h.
    let xs = c.args.listed.now in
    let lt : c.loop-monitor.monitor-index < length xs = omega arith in
    let P : ℕ → Type 0 = λ n. count_at c.args.a.now n ≡ count_at c.args.b.now n in
    elim (listed_more q xs c.loop-monitor.monitor-index lt h) [
      | inl before ↦ c.loop-monitor.invariant q before
      | inr same ↦ subst P (sym same) (c.if-not-is_same_count.ensures.0 refl)
    ]

pub returns-then-not-is_same_count-clause-agrees : goal.returns-then-not-is_same_count-clause-agrees
returns-then-not-is_same_count-clause-agrees c =
    let xs = c.args.listed.now in
    let lt : c.loop-monitor.monitor-index < length xs = omega arith in
    (λ wrong. absurd (false-true wrong), λ all. c.if-not-is_same_count.ensures.1 (all _ (listed_there xs c.loop-monitor.monitor-index lt)))

pub returns-then-not-is_same_count-clause-differs : goal.returns-then-not-is_same_count-clause-differs
returns-then-not-is_same_count-clause-differs c = λ _. (_, λ e. false-true (c.if-not-is_same_count.ensures.1 e))
