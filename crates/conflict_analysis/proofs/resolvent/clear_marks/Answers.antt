use Rattle.std.proofs.Common.{◌≢◌, ℕ, ◌<◌, length, get_or, sym, below_more, arith}
use Rattle.literals.proofs.Members.{IsIn-place, place-IsIn}
use Rattle.conflict_analysis.proofs.Marking.{unmarked_other}
use Rattle.conflict_analysis.proofs.resolvent.clear_marks.Goals as goal

pub bounds-marks-literal : goal.bounds-marks-literal
bounds-marks-literal c = omega (arith, c.loop-literal.auto.marks, c.requires (get_or c.args.literals.now c.loop-literal.literal-index 0) (IsIn-place c.args.literals.now c.loop-literal.literal-index c.loop-literal-test.true))

pub loop-literal-preserved : goal.loop-literal-preserved
loop-literal-preserved c = λ x m.
    (let at : ℕ = get_or c.args.literals.now c.loop-literal.literal-index 0 in
    let lt : at < length c.loop-literal.marks = omega (arith, c.loop-literal.auto.marks, c.requires at (IsIn-place c.args.literals.now c.loop-literal.literal-index c.loop-literal-test.true)) in
    let w = unmarked_other c.loop-literal.marks at x lt m in
    let old = c.loop-literal.invariant x w.1 in
    (old.0, below_more (λ k. get_or c.args.literals.now k 0 ≢ x) c.loop-literal.literal-index old.1 (λ e. w.0 (sym e))))

pub returns : goal.returns
returns c = λ x m.
    (let old = c.loop-literal.invariant x m in
    (old.0, λ i. (let at = place-IsIn c.args.literals.now x i in old.1 at.0 (omega (arith, at.1, c.loop-literal-test.false)) at.2)))
