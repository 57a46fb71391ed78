-- What the answers mean without bounds: the statement of the function of the module `laws`.
use Rattle.std.specs.Prelude.{ℕ}
use Rattle.line_text.specs.declared.bounds.Bounds.{Bounds}
use Rattle.program.specs.Program.{Prog}
use Rattle.action_orders.specs.Execution.{Exec}
use Rattle.action_orders.specs.Runs.{IntraThreadAt}
use Rattle.thread_runs.specs.Past.{KeepsAt}

-- a thread that is consistent is so as far as the bounds reach
abbrev pub ConsistentThreadsKeep : Type 0
ConsistentThreadsKeep = (p : Prog) (e : Exec) (bounds : Bounds) (k : ℕ) → IntraThreadAt p e k → KeepsAt p e bounds k
