use Rattle.std.proofs.Common.{codes}
use Rattle.program_listing.proofs.Pieces.{puts-three, second-of_three-failed}
use Rattle.program_listing.specs.Instructions.{instruction_head, operands_text}
use Rattle.program_listing.proofs.methods.put_instruction.Goals as goal

pub returns-in_err-put-clause-bytes : goal.returns-in_err-put-clause-bytes
returns-in_err-put-clause-bytes g c =
    second-of_three-failed _ _ _ (instruction_head c.args.listed.now)
    (operands_text c.args.pool.now c.args.listed.now.pc c.args.listed.now.instr) (codes "\n") _ c.from_residual-in_err-put.ensures.0
    c.in_ok-put_instruction_head.ensures.bytes (rw (← c.operands_of.ensures) c.in_err-put.ensures.bytes)

pub returns-clause-bytes : goal.returns-clause-bytes
returns-clause-bytes g c =
    puts-three _ _ _ _ (instruction_head c.args.listed.now)
    (operands_text c.args.pool.now c.args.listed.now.pc c.args.listed.now.instr) (codes "\n") _
    c.in_ok-put_instruction_head.ensures.bytes (rw (← c.operands_of.ensures) c.in_ok-put.ensures.bytes) c.put_all.ensures.bytes
