use Rattle.std.proofs.Common.{arith, get_or, ℕ}
use Rattle.std.proofs.lemmas.List.{get_or_default}
use Rattle.sequence_text.proofs.TextLaws.{each-failed}
use Rattle.program_listing.proofs.PrintedBytes.{printed, printed-bytes}
use Rattle.program_listing.proofs.printable.put_each_byte.Goals as goal

pub returns-in_err-put_all-clause-bytes : goal.returns-in_err-put_all-clause-bytes
returns-in_err-put_all-clause-bytes g c =
    let byte : ℕ = get_or c.args.bytes.now c.loop-byte.byte-index 0 in
    rw (← printed-bytes c.args.bytes.now)
    (each-failed printed c.args.bytes.now c.loop-byte.byte-index byte _ _ _ _ (omega arith)
    (get_or_default c.args.bytes.now c.loop-byte.byte-index 0 byte (omega arith)) c.from_residual.ensures.0
    c.loop-byte.invariant.grows (rw (← c.printable_byte.ensures) c.in_err-put_all.ensures.bytes))
