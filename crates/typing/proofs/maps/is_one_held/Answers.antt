use Rattle.std.proofs.Common.{◌≡◌, ◌<◌, ℕ, length, inl, inr, subst, sym, arith, ◌∙◌}
use Rattle.typing.specs.Joining.{count_at}
use Rattle.typing.proofs.Keys.{listed_more}
use Rattle.typing.proofs.maps.is_one_held.Goals as goal

pub loop-monitor-preserved : goal.loop-monitor-preserved
loop-monitor-preserved c = λ q h.
    let xs = c.args.listed.now in
    let lt : c.loop-monitor.monitor-index < length xs = omega arith in
    let P : ℕ → Type 0 = λ n. count_at c.args.held.now n ≡ 0 in
    elim (listed_more q xs c.loop-monitor.monitor-index lt h) [
      | inl before ↦ c.loop-monitor.invariant q before
      | inr same ↦ subst P (sym same) (sym c.count_of.ensures ∙ c.if-count_of-ne0.false)
    ]
