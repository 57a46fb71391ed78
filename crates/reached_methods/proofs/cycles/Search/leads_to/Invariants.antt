use Rattle.reached_methods.specs.Cycles.{IsMarked, IsSearch, KeepsMarks, work_of}
use Rattle.reached_methods.proofs.cycles.Search.leads_to.Given as goal

abbrev pub invariant-loop-from : goal.invariant-loop-from
invariant-loop-from l = record {
  search : IsSearch l.surveys l.sought l.start l.self.marked.items l.self.waiting.items;
  marked : IsMarked l.surveys l.self.marked.items l.start;
  kept : KeepsMarks l.surveys l.fn.self.marked.items l.self.marked.items;
}

abbrev pub decreases-loop-from : goal.decreases-loop-from
decreases-loop-from l = work_of l.self.marked.items l.self.waiting.items
