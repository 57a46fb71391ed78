use Rattle.std.proofs.Common.{◌∙◌, sym}
use Rattle.typing.proofs.Places.{found_is, past_is, other_is}
use Rattle.typing.proofs.targets.place_of.Goals as goal

pub returns-in_err-found : goal.returns-in_err-found
returns-in_err-found c = past_is c.args.listing.now c.args.pc c.place_from-place.result c.requires c.place_from-place.ensures.before c.place_from-place.ensures.behind
    (sym c.in_err-found.ensures) _ c.from_residual.ensures

pub returns-then-from-pc : goal.returns-then-from-pc
returns-then-from-pc c = found_is c.args.listing.now c.args.pc c.place_from-place.result c.requires c.place_from-place.ensures.before c.place_from-place.ensures.behind
    c.in_ok-found.found.now (sym c.in_ok-found.ensures) (sym c.from.ensures ∙ c.if-from-pc.true)

pub returns-else-from-pc : goal.returns-else-from-pc
returns-else-from-pc c = other_is c.args.listing.now c.args.pc c.place_from-place.result c.requires c.place_from-place.ensures.before c.place_from-place.ensures.behind
    c.in_ok-found.found.now (sym c.in_ok-found.ensures) (λ e. c.if-from-pc.false (c.from.ensures ∙ e))
