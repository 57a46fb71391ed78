-- The greatest place among the members so far.
use Rattle.same_orders.specs.Lines.{AreGreatest, IsGreatestBelow}
use Rattle.same_orders.proofs.line.greatest_places.Given as goal

abbrev pub invariant-loop-member : goal.invariant-loop-member
invariant-loop-member l = record {
  all : AreGreatest l.members l.member-index l.all.items;
  greatest : IsGreatestBelow l.members l.member-index l.greatest;
}
