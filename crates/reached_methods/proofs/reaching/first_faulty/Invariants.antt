use Rattle.std.specs.List.{AllWithin}
use Rattle.reached_methods.specs.Reaching.{IsClean}
use Rattle.reached_methods.proofs.reaching.first_faulty.Given as goal

abbrev pub invariant-loop-at : goal.invariant-loop-at
invariant-loop-at l = AllWithin (IsClean l.surveys) l.surveys 0 l.at
