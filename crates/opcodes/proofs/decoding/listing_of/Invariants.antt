use Rattle.opcodes.specs.Survey.{ListsBefore}
use Rattle.opcodes.proofs.decoding.listing_of.Given as goal

abbrev pub invariant-loop-pc : goal.invariant-loop-pc
invariant-loop-pc l = ListsBefore l.places l.pc l.listing
