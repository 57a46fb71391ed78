-- All steps from before an instruction.
use Rattle.std.proofs.Common.{◌↔◌, List, false, refl, subst, ◌∙◌}
use Rattle.program.specs.Bounds.{Hop, Successor}
use Rattle.code_paths.specs.Hops.{IsOneOf, places_of}
use Rattle.code_paths.specs.declared.place.CodePlace.{CodePlace}
use Rattle.spots.specs.Leading.{IsMore}
use Rattle.spots.specs.declared.leads.Lead.{Lead}
use Rattle.spots.proofs.Along.{all_along}
use Rattle.spots.proofs.leads.from_standing.Goals as goal

pub returns : goal.returns
returns c =
    all_along c.args.program.now c.args.limit c.args.thread c.args.stand.now c.in_ok-hops.hops _ refl
    (subst (λ (places : List CodePlace). (hop : Hop) → IsOneOf c.in_ok-hops.hops hop ↔ Successor c.args.program.now (places_of places) hop) (c.as_slice.ensures ∙ c.in_ok-places.ensures) c.in_ok-hops.ensures)
    c.along_one.new.leads c.along_one-2.new.leads c.along_one-3.new.leads c.along_one-4.new.leads
    (subst (λ (steps : List Lead). IsMore c.args.program.now (record { thread = c.args.thread; jumps = c.args.stand.now.jumps; limit = c.args.limit }) c.in_ok-hops.hops.fall (record { steps = steps; left_out = false }) c.along_one.new.leads) c.new.ensures c.in_ok-along_one.ensures)
    c.in_ok-along_one-2.ensures c.in_ok-along_one-3.ensures c.in_ok-along_one-4.ensures
