-- The least place among the last members so far.
use Rattle.std.proofs.Common.{◌-◌, length}
use Rattle.same_orders.specs.Lines.{AreLeast, IsLeastFrom}
use Rattle.same_orders.proofs.line.least_places.Given as goal

abbrev pub invariant-loop-back : goal.invariant-loop-back
invariant-loop-back l = record {
  all : AreLeast l.members l.back l.all.items;
  least : IsLeastFrom l.members (length l.members - l.back) l.least;
}
