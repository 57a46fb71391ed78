use Rattle.std.proofs.Common.{arith}
use Rattle.var_names.proofs.ByteLaws.{first-byte}
use Rattle.var_names.proofs.byte_reading.family_and_sign.Goals as goal

pub returns : goal.returns
returns c =
    let place = c.in_ok-place.ensures in
    let read = c.in_ok-family.ensures.lookup in
    first-byte c.args.byte c.in_ok-place.place c.in_ok-family.family.now read.3.0 read.1 (omega (arith, place.0, place.1))
