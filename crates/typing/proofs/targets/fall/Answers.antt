use Rattle.std.proofs.Common.{◌≡◌, ◌+◌, arith}
use Rattle.opcodes.specs.Instructions.{length_of}
use Rattle.typing.proofs.Places.{does_fall}
use Rattle.typing.proofs.targets.fall.Goals as goal

pub returns : goal.returns
returns c =
    let same : c.from.result + c.from-2.result ≡ c.args.at.now.pc + length_of c.args.at.now.instr = omega arith in
    does_fall c.args.listing.now c.args.at.now _ _ (c.falls_through.ensures.0 c.if-not-falls_through.false) same c.place_of.ensures
