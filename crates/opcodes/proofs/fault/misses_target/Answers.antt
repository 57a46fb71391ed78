use Rattle.std.proofs.Common.{inl, inr}
use Rattle.opcodes.proofs.Scans.{not_inside, leaves_code, leaves_from}
use Rattle.opcodes.proofs.fault.misses_target.Goals as goal

pub returns : goal.returns
returns c = (
  (λ t. inl (leaves_code c.args.code.now c.args.pc c.args.instr.now c.requires.decodes (c.leaves.ensures.0 t))),
  (λ m. elim m [
    | inl l ↦ c.leaves.ensures.1 (leaves_from c.args.code.now c.args.pc c.args.instr.now c.requires.decodes l)
    | inr i ↦ absurd (not_inside c.args.code.now c.args.pc c.args.end c.requires.before c.if-pc-end.false i)
  ]),
)
