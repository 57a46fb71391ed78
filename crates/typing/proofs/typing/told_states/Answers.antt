use Rattle.std.proofs.Common.{◌≡◌, ◌<◌, ◌+◌, None, length, sym, subst, ◌∙◌, arith}
use Rattle.std.proofs.lemmas.List.{get_or_default}
use Rattle.typing.specs.Levels.{kept_at}
use Rattle.typing.specs.Listings.{IsToldOf}
use Rattle.typing.proofs.Final.{told_more}
use Rattle.typing.proofs.typing.told_states.Goals as goal

pub tell-requires : goal.tell-requires
tell-requires c =
    let lt : c.loop-state.state-index < length c.args.states.now = omega arith in
    let x = c.requires c.loop-state.state-index lt in
    (x.0, c.state-item.is ∙ get_or_default c.args.states.now c.loop-state.state-index _ None lt ∙ x.1)

pub loop-state-preserved : goal.loop-state-preserved
loop-state-preserved c =
    let lt : c.loop-state.state-index < length c.args.states.now = omega arith in
    let is : kept_at c.args.states.now c.loop-state.state-index ≡ c.state-item.result = sym (c.state-item.is ∙ get_or_default c.args.states.now c.loop-state.state-index _ None lt) in
    let adds = c.in_ok-tell.ensures.ok in
    subst (IsToldOf c.args.states.now (c.loop-state.state-index + 1)) (sym adds.1) (told_more c.args.states.now c.loop-state.state-index c.loop-state.told.items adds.0 c.state-item.result is c.loop-state.invariant adds.2)
