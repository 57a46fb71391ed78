use Rattle.std.proofs.Common.{Contains, take}
use Rattle.program.specs.declared.method.MethodId.{MethodId}
use Rattle.resolution.specs.declared.target.Target.TheVariants as named
use Rattle.reached_methods.specs.Cycles.{IsIdle, IsMarked}
use Rattle.reached_methods.proofs.cycles.first_return.Given as goal

abbrev pub invariant-loop-at : goal.invariant-loop-at
invariant-loop-at l = record {
  idle : IsIdle l.surveys l.method.id l.search.marked.items l.search.waiting.items;
  marked : (called : MethodId) → Contains (take l.at l.method.targets) (named.Call called) → IsMarked l.surveys l.search.marked.items called;
}
