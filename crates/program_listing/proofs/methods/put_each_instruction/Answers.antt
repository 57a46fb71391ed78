use Rattle.std.proofs.Common.{ℕ, arith, get_or}
use Rattle.std.proofs.lemmas.List.{get_or_default}
use Rattle.opcodes.specs.declared.instruction.Instr.TheVariants.{Nop}
use Rattle.opcodes.specs.declared.listed.Listed.{Listed}
use Rattle.sequence_text.proofs.TextLaws.{each-failed}
use Rattle.program_listing.specs.Instructions.{instruction_line}
use Rattle.program_listing.proofs.methods.put_each_instruction.Goals as goal

pub returns-in_err-put_instruction-clause-bytes : goal.returns-in_err-put_instruction-clause-bytes
returns-in_err-put_instruction-clause-bytes g c =
    let place : ℕ = c.loop-listed.listed-index in
    let nop : Listed = record { pc = 0; instr = Nop } in
    let listed : Listed = get_or c.args.listing.now place nop in
    each-failed (instruction_line c.args.pool.now) c.args.listing.now place listed _ _ _ _ (omega arith)
    (get_or_default c.args.listing.now place nop listed (omega arith)) c.from_residual.ensures.0
    c.loop-listed.invariant.grows c.in_err-put_instruction.ensures.bytes
