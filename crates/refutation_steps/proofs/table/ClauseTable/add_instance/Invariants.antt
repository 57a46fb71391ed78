use Rattle.std.proofs.Common.{◌≡◌, take, []}
use Rattle.refutation_steps.proofs.table.ClauseTable.add_instance.Given as goal

-- the literals so far were read
abbrev pub invariant-loop-literal : goal.invariant-loop-literal
invariant-loop-literal l = l.self ≡ record { clauses = l.fn.self.clauses; literals = take l.literal-index l.literals; trues = [] }
