-- As many values as the counter says were taken.
use Rattle.thread_meaning.proofs.Acting.{Popping}
use Rattle.thread_meaning.proofs.stack.Stack.pop_arguments.Given as goal

abbrev pub invariant-loop : goal.invariant-loop
invariant-loop l = Popping l.counter l.locals.items l.fn.self l.self
