use Rattle.program_listing.proofs.Pieces.{first-of_two-failed}
use Rattle.sequence_text.proofs.TextLaws.{puts-then}
use Rattle.program_listing.specs.ListingText.{declarations_text, method_lines}
use Rattle.std.specs.List.{flat_map}
use Rattle.program_listing.proofs.listing.put_listing.Goals as goal

pub returns-in_err-put_declarations-clause-bytes : goal.returns-in_err-put_declarations-clause-bytes
returns-in_err-put_declarations-clause-bytes g c =
    first-of_two-failed _ _ (declarations_text c.args.classes.now c.args.program.now)
    (flat_map (method_lines c.args.classes.now) c.args.program.now.methods) _
    c.from_residual.ensures.0 c.in_err-put_declarations.ensures.bytes

pub returns-clause-bytes : goal.returns-clause-bytes
returns-clause-bytes g c =
    puts-then _ _ _ (declarations_text c.args.classes.now c.args.program.now)
    (flat_map (method_lines c.args.classes.now) c.args.program.now.methods) _
    c.in_ok-put_declarations.ensures.bytes c.put_methods.ensures.bytes
