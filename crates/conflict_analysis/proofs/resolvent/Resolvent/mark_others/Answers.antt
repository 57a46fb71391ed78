use Rattle.std.proofs.Common.{get_or, sym, ◌∙◌, subst, arith}
use Rattle.literals.specs.Propagation.{IsFalseIn}
use Rattle.literals.proofs.Members.{IsIn-place, place-IsIn}
use Rattle.trail.specs.Steps.{literals_of}
use Rattle.conflict_analysis.specs.Marks.{IsMarked}
use Rattle.conflict_analysis.proofs.Resolving.{left_same}
use Rattle.conflict_analysis.proofs.resolvent.Resolvent.mark_others.Goals as goal

pub mark-requires-clause-is_false : goal.mark-requires-clause-is_false
mark-requires-clause-is_false c =
    subst (λ ys. IsFalseIn (literals_of ys) (get_or c.args.literals.now c.loop-literal.literal-index 0)) (left_same c.args.self.now c.loop-literal.self c.args.trail.now c.loop-literal.invariant.place)
    (c.requires.others_false (get_or c.args.literals.now c.loop-literal.literal-index 0) (IsIn-place c.args.literals.now c.loop-literal.literal-index c.loop-literal-test.true) c.if-literal-but.true)

pub returns-clause-marked : goal.returns-clause-marked
returns-clause-marked c = λ x i ne. (let at = place-IsIn c.args.literals.now x i in
    subst (IsMarked c.loop-literal.self.marks.items) at.2 (c.loop-literal.invariant.marked at.0 (omega (arith, at.1, c.loop-literal-test.false)) (λ e. ne (sym at.2 ∙ e))))
