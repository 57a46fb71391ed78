use Rattle.program_listing.proofs.Pieces.{first-of_two-failed}
use Rattle.sequence_text.proofs.TextLaws.{puts-then}
use Rattle.program_listing.specs.ListingText.{instructions_text, method_line}
use Rattle.std.proofs.Common.{slice_get}
use Rattle.program_listing.proofs.methods.put_method.Goals as goal

pub returns-in_err-put_method_line-clause-bytes : goal.returns-in_err-put_method_line-clause-bytes
returns-in_err-put_method_line-clause-bytes g c =
    first-of_two-failed _ _ (method_line c.args.classes.now c.args.method.now.id)
    (instructions_text (slice_get c.args.classes.now c.args.method.now.id.class) c.args.method.now.listing) _
    c.from_residual.ensures.0 c.in_err-put_method_line.ensures.bytes

pub returns-clause-bytes : goal.returns-clause-bytes
returns-clause-bytes g c =
    puts-then _ _ _ (method_line c.args.classes.now c.args.method.now.id)
    (instructions_text (slice_get c.args.classes.now c.args.method.now.id.class) c.args.method.now.listing) _
    c.in_ok-put_method_line.ensures.bytes c.put_instructions.ensures.bytes
