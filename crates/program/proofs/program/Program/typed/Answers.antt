-- The instruction stands in the listing of the method with this id, and what is known before it stands at the same place.
use Rattle.std.proofs.Common.{IsSome, subst}
use Rattle.std.proofs.lemmas.Bool.{false≢true}
use Rattle.std.proofs.lemmas.Option.{slice_get_within}
use Rattle.program.proofs.Methods.{known_at, known_reached, stands_in}
use Rattle.program.proofs.program.Program.typed.Goals as goal

pub place_of-place-requires-clause-stands : goal.place_of-place-requires-clause-stands
place_of-place-requires-clause-stands c =
    rw (c.as_slice.ensures.items) (stands_in c.args.self.now c.args.method c.args.pc c.reached-method.result.now c.reached-method.ensures.only
    (known_reached c.args.self.now c.args.method c.args.pc c.requires))

pub unreachable-requires : goal.unreachable-requires
unreachable-requires c =
    let (state, known) = known_at c.args.self.now c.args.method c.args.pc c.place_of-place.result c.reached-method.result.now c.reached-method.ensures.only
    c.as_slice.ensures.by_pc (rw (← c.as_slice.ensures.items) c.place_of-place.ensures) c.requires in
    false≢true (subst IsSome c.in_default.is (c.get.ensures.within.1 (slice_get_within c.reached-method.result.now.typed c.place_of-place.result state known)))
