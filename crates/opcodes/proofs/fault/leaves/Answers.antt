use Rattle.std.proofs.Common.{true≢false, ◌∙◌, sym}
use Rattle.opcodes.proofs.Scans.{target_outside, jump_leaves}
use Rattle.opcodes.proofs.fault.leaves.Goals as goal

pub returns-else-is_outside : goal.returns-else-is_outside
returns-else-is_outside c = (
  (λ t. jump_leaves c.args.size c.args.pc c.args.instr.now c.jump_target.result c.jump_target.ensures (c.is_outside-else-is_outside.ensures.0 t)),
  (λ l. target_outside c.args.size c.args.pc c.args.instr.now c.fall_target.result c.jump_target.result _ c.fall_target.ensures.some c.fall_target.ensures.none c.jump_target.ensures
      (λ out. absurd (true≢false (sym (c.is_outside.ensures.1 out) ∙ c.if-is_outside.false))) (λ out. c.is_outside-else-is_outside.ensures.1 out) l),
)
