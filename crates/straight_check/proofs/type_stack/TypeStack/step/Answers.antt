-- A step is a change at its place that leaves the stack within its bound.
use Rattle.std.proofs.Common.{◌≤◌, ◌∙◌, Bool, length, subst, sym, arith}
use Rattle.straight_check.specs.Telling.{TellsChange}
use Rattle.straight_check.proofs.Changes.{steps_to}
use Rattle.straight_check.proofs.type_stack.TypeStack.step.Goals as goal

pub returns-then-not-branch : goal.returns-then-not-branch
returns-then-not-branch c =
    let told = subst (λ (b : Bool). TellsChange c.args.item.now.instr c.args.operand.now c.args.self.now c.change.new.self b) c.if-not-branch.true c.in_ok-change.ensures in
    λ other step. told other step.changes

pub returns : goal.returns
returns c =
    let told = subst (λ (b : Bool). TellsChange c.args.item.now.instr c.args.operand.now c.args.self.now c.change.new.self b) c.if-not-branch.false c.in_ok-change.ensures in
    let room : length c.change.new.self ≤ c.args.limits.max_stack = omega arith in
    steps_to c.args.limits.variables c.args.limits.max_stack c.args.pc c.args.item.now c.args.operand.now c.args.self.now c.change.new.self
    (sym c.from.ensures ∙ c.if-from-pc.false) (c.goes_on.ensures.0 c.if-not-goes_on.false) (c.is_numbered.ensures.0 c.if-not-is_numbered.false) room told
