-- Synchronizes-with (JLS 17.4.4).
use Rattle.std.specs.Prelude.{ℕ, List}
use Rattle.program.specs.Program.{Prog}
use Rattle.program.specs.declared.kind.Kind.TheVariants.{VolatileRead, Lock, Unlock, First, Last, Start, Detect}
use Rattle.action_orders.specs.declared.action.ActionOperand.TheVariants.{Monitor, Thread}
use Rattle.action_orders.specs.Execution.{Exec}
use Rattle.action_orders.specs.Actions.{Act, Var, IsAction, Is, IsBy, IsDefault, IsVolatileWrite, variable}
use Rattle.action_orders.specs.Orders.{SyncOrder}

-- a synchronizes with b, in exactly five cases
pub data SynchronizesWith (p : Prog) (e : Exec) (a b : Act) : Type 0 where
  -- an unlock of a monitor, and each later lock of it
  unlock_lock : (m : List ℕ) → Is Unlock (Monitor m) a → Is Lock (Monitor m) b → SyncOrder p e a b → SynchronizesWith p e a b
  -- a volatile write of a variable, and each later volatile read of it
  write_read : (v : Var) → IsVolatileWrite p v a → Is VolatileRead (variable v) b → SyncOrder p e a b → SynchronizesWith p e a b
  -- a start of a thread, and each first action of that thread
  start_first : (k : ℕ) → IsAction p e a → IsAction p e b → Is Start (Thread k) a → IsBy First k b → SynchronizesWith p e a b
  -- each default write, and each first action of a thread
  default_first : (k : ℕ) → IsAction p e a → IsAction p e b → IsDefault a → IsBy First k b → SynchronizesWith p e a b
  -- each last action of a thread, and each detection of its end
  last_detect : (k : ℕ) → IsAction p e a → IsAction p e b → IsBy Last k a → Is Detect (Thread k) b → SynchronizesWith p e a b
