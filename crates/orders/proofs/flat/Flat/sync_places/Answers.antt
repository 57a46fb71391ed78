-- Each identifier of the synchronization order is an action's.
use Rattle.std.proofs.Common.{◌≡◌, ◌∙◌, ◌++◌, ℕ, List, [], ◌∷◌, get_or, Some, None, Option, IsSome, slice_get, ap, sym, arith}
use Rattle.std.proofs.lemmas.Grind.{common_steps}
use Rattle.std.proofs.lemmas.Option.{slice_get-get_or}
use Rattle.action_orders.specs.declared.action.Action.{Action}
use Rattle.clocks.proofs.Covering.{each_pushed}
use Rattle.orders.specs.Flat.{IsSyncAt}
use Rattle.orders.proofs.Tabled.{known_id, placed_at}
use Rattle.orders.proofs.flat.Flat.sync_places.Goals as goal

no_some : (let none : Option ℕ = None in IsSome none) → ⊥
no_some e = cc

pub unreachable-requires : goal.unreachable-requires
unreachable-requires c =
    let is : slice_get c.args.self.now.execution.now.so c.loop-id.id-index ≡ Some (get_or c.so-so.result.now c.loop-id.id-index 0) =
    ap (λ (x : List ℕ). slice_get x c.loop-id.id-index) (sym c.so-so.ensures) ∙ slice_get-get_or c.so-so.result.now c.loop-id.id-index 0 c.loop-id-test.true in
    no_some (c.in_default.ensures.there.1 (known_id c.args.self.now.program.now c.args.self.now c.loop-id.id-index _ c.requires.ordered c.requires.flat is))

pub loop-id-preserved : goal.loop-id-preserved
loop-id-preserved c =
    let is : slice_get c.args.self.now.execution.now.so c.loop-id.id-index ≡ Some (get_or c.so-so.result.now c.loop-id.id-index 0) =
    ap (λ (x : List ℕ). slice_get x c.loop-id.id-index) (sym c.so-so.ensures) ∙ slice_get-get_or c.so-so.result.now c.loop-id.id-index 0 c.loop-id-test.true in
    let items : c.push.new.self.items ≡ c.loop-id.places.items ++ c.in-Some.place ∷ [] = grind (arith, common_steps) in
    record {
      each = grind (arith, common_steps);
      at = rw items (each_pushed (λ r i. (a : Action) × IsSyncAt c.args.self.now.execution.now r i a) c.loop-id.places.items c.in-Some.place c.loop-id.id-index c.loop-id.invariant.each c.loop-id.invariant.at
          (placed_at c.args.self.now c.loop-id.id-index c.in-Some.place _ c.requires.flat is c.in-Some.ensures.found));
    }
