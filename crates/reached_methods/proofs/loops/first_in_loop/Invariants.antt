use Rattle.std.specs.List.{AllWithin}
use Rattle.reached_methods.specs.Surveys.{IsLooped}
use Rattle.reached_methods.proofs.loops.first_in_loop.Given as goal

abbrev pub invariant-loop-item : goal.invariant-loop-item
invariant-loop-item l = AllWithin (λ item. IsLooped l.listing item → ⊥) l.listing 0 l.item-index
