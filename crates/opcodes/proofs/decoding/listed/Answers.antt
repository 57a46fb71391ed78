use Rattle.std.proofs.Common.{length}
use Rattle.std.proofs.lemmas.Result.{IfOk-weaker}
use Rattle.opcodes.specs.Reached.{IsListingOf}
use Rattle.opcodes.specs.Survey.{ListsBefore}
use Rattle.opcodes.proofs.Listings.{listing_is}
use Rattle.opcodes.proofs.decoding.listed.Goals as goal

pub returns : goal.returns
returns c =
    IfOk-weaker c.listing_of.result
    (λ listing. ListsBefore c.args.places.now (length c.args.places.now) listing)
    (λ listing. IsListingOf c.args.code.now listing)
    (λ listing l. listing_is c.args.code.now c.args.places.now listing c.requires.some c.requires.survey l)
    c.listing_of.ensures
