-- The steps along one hop.
use Rattle.std.proofs.Common.{◌↔◌, ◌⊎◌, Contains, List, subst}
use Rattle.code_paths.specs.declared.place.CodePlace.{CodePlace}
use Rattle.spots.specs.Leading.{IsLandingOf}
use Rattle.spots.specs.declared.leads.Lead.{Lead}
use Rattle.spots.proofs.Along.{along_hop}
use Rattle.spots.proofs.leads.along.Goals as goal

pub returns : goal.returns
returns c =
    along_hop c.args.program.now c.args.start c.args.hop.now c.args.leads.now.steps c.land.new.steps c.args.leads.now.left_out c.in-Some.jumps c.in-Some.ensures.some.0 c.in-Some.ensures.some.1
    (subst (λ (places : List CodePlace). (lead : Lead) → Contains c.land.new.steps lead ↔ (Contains c.args.leads.now.steps lead ⊎ IsLandingOf c.args.program.now (record { thread = c.args.start.thread; jumps = c.in-Some.jumps; taken = c.args.hop.now.taken }) places lead)) c.as_slice.ensures c.in_ok-land.ensures)
