-- The instruction stands in the listing of the method with this id, and has its operand at the same place.
use Rattle.std.proofs.Common.{◌<◌, length, IsSome, ap, subst, arith}
use Rattle.std.proofs.lemmas.Bool.{false≢true}
use Rattle.std.proofs.lemmas.Option.{slice_get_within}
use Rattle.program.proofs.Methods.{is_reached, stands_in}
use Rattle.program.proofs.program.Program.operand.Goals as goal

pub reached-method-requires : goal.reached-method-requires
reached-method-requires c = is_reached c.args.self.now c.args.method c.requires.method c.requires.named

pub place_of-place-requires-clause-stands : goal.place_of-place-requires-clause-stands
place_of-place-requires-clause-stands c =
    rw (c.as_slice.ensures.items) (stands_in c.args.self.now c.args.method c.args.pc c.reached-method.result.now c.reached-method.ensures.only c.requires)

pub unreachable-requires : goal.unreachable-requires
unreachable-requires c =
    let (instr, is) = c.place_of-place.ensures in
    let there : c.place_of-place.result < length c.reached-method.result.now.operands =
    omega (arith, slice_get_within c.as_slice.result.now c.place_of-place.result (record { pc = c.args.pc; instr = instr }) is, ap length c.as_slice.ensures.items, c.reached-method.ensures.operands) in
    false≢true (subst IsSome c.in_default.is (c.get.ensures.within.1 there))
