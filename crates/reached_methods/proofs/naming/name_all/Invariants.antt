use Rattle.std.proofs.Common.{◌≡◌, take, map}
use Rattle.resolution.specs.Resolution.{resolve}
use Rattle.reached_methods.specs.FirstFault.{IsFirstOrNone}
use Rattle.reached_methods.specs.Surveys.{HasNameFault, target_of}
use Rattle.reached_methods.proofs.naming.name_all.Given as goal

abbrev pub invariant-loop-item : goal.invariant-loop-item
invariant-loop-item l = record {
  targets : l.names.targets ≡ map (λ item. target_of (resolve l.index.classes.now l.main l.pool l.listing item)) (take l.item-index l.listing);
  fault : IsFirstOrNone (HasNameFault l.index.classes.now l.main l.pool l.listing (take l.item-index l.listing)) l.names.fault;
}
