-- One more member.
use Rattle.std.proofs.Common.{◌∙◌, ap, sym, ℕ, Option, Some, None, if◌then◌else◌}
use Rattle.std.specs.Option.{option_or}
use Rattle.resolution.specs.Places.{is_static_named}
use Rattle.resolution.proofs.Positions.{position_take}
use Rattle.resolution.proofs.places.static_places.Goals as goal

pub loop-place-preserved : goal.loop-place-preserved
loop-place-preserved c name descriptor =
    c.in_ok-add_static.ensures.added name descriptor
    ∙ ap (λ (o : Option ℕ). option_or o (if is_static_named c.args.pool.now name descriptor c.index-members-place.result then Some c.loop-place.place else None)) (c.loop-place.invariant name descriptor)
    ∙ sym (position_take (is_static_named c.args.pool.now name descriptor) c.args.members.now c.loop-place.place c.index-members-place.result c.loop-place-test.true c.index-members-place.is)
