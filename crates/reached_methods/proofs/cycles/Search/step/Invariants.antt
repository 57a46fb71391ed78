use Rattle.std.proofs.Common.{◌≡◌, ◌++◌, [], ◌∷◌, Contains, take}
use Rattle.program.specs.declared.method.MethodId.{MethodId}
use Rattle.resolution.specs.declared.target.Target.TheVariants as named
use Rattle.reached_methods.specs.Cycles.{IsMarked, IsSearch, KeepsMarks, work_of}
use Rattle.reached_methods.proofs.cycles.Search.step.Given as goal

abbrev pub invariant-loop-target : goal.invariant-loop-target
invariant-loop-target l = record {
  search : IsSearch l.surveys l.sought l.start l.self.marked.items (l.self.waiting.items ++ l.from ∷ []);
  marked : (called : MethodId) → Contains (take l.target-index l.target-items) (named.Call called) → IsMarked l.surveys l.self.marked.items called;
  kept : KeepsMarks l.surveys l.fn.self.marked.items l.self.marked.items;
  work : work_of l.self.marked.items l.self.waiting.items ≡ work_of l.fn.self.marked.items l.fn.self.waiting.items;
}
