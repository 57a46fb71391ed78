use Rattle.std.proofs.Common.{ℕ, ◌<◌, ◌≢◌, get_or}
use Rattle.conflict_analysis.specs.Marks.{IsMarked}
use Rattle.conflict_analysis.proofs.resolvent.clear_marks.Given as goal

abbrev pub invariant-loop-literal : goal.invariant-loop-literal
invariant-loop-literal l = (x : ℕ) → IsMarked l.marks x → IsMarked l.initial.marks x × ((k : ℕ) → k < l.literal-index → get_or l.literals k 0 ≢ x)
