-- What a step of the walk needs, and what it leaves.
use Rattle.std.specs.Prelude.{◌≡◌, ◌<◌, ◌++◌, ℕ, ℤ, List, [], ◌∷◌}
use Rattle.program.specs.Program.{Prog}
use Rattle.action_orders.specs.declared.action.Entry.{Entry}
use Rattle.action_orders.specs.Execution.{Exec, with_entry}
use Rattle.straight.specs.Meaning.{State, after, entry_at, printed_at, ints_at}
use Rattle.straight.specs.declared.doing.Doing.{Doing}
use Rattle.straight.specs.declared.doing.Doing.TheVariants.{Push, Read, Write, PushOut, Print, Nothing}
use Rattle.straight.specs.declared.doing.StackItem.{StackItem}
use Rattle.straight.specs.declared.doing.StackItem.TheVariants.{Int, Out}
use Rattle.straight.specs.declared.walk.Walk.{Walk}

-- an int is on top of the stack
pub record HasInt (stack : List StackItem) : Type 0 where
  pub value : ℤ
  pub rest : List StackItem
  pub is : stack ≡ Int value ∷ rest

-- an int is on top of the stack, and the object of System.out below it
pub record HasIntOnOut (stack : List StackItem) : Type 0 where
  pub value : ℤ
  pub rest : List StackItem
  pub is : stack ≡ Int value ∷ Out ∷ rest

-- the stack has what the instruction takes, and the variable that it names is there
abbrev pub IsReady : ℕ → List StackItem → Doing → Type 0
IsReady variables stack (Push n) = Unit {0}
IsReady variables stack (Read v) = v < variables
IsReady variables stack (Write v) = (v < variables) × HasInt stack
IsReady variables stack PushOut = Unit {0}
IsReady variables stack Print = HasIntOnOut stack
IsReady variables stack Nothing = Unit {0}

-- main alone has acted
abbrev pub alone : List Entry → List ℕ → Exec
alone entries so = record { threads = record { thread = 0; entries = entries } ∷ []; so = so }

pub record IsAlone (e : Exec) : Type 0 where
  pub entries : List Entry
  pub so : List ℕ
  pub is : e ≡ alone entries so

abbrev pub state_of : Walk → State
state_of w = record { stack = w.stack; cells = w.cells.items }

-- the execution with these entries more
abbrev pub with_entries : Exec → List Entry → Exec
with_entries e [] = e
with_entries e (n ∷ entries) = with_entries (with_entry e n) entries

-- what a step leaves
pub record Walked (p : Prog) (id : ℕ) (doing : Doing) (old new : Walk) : Type 0 where
  pub state : state_of new ≡ after id (state_of old) doing
  pub execution : new.execution ≡ with_entries old.execution (entry_at p id (state_of old) doing)
  pub printed : new.printed ≡ old.printed ++ printed_at (state_of old) doing
  pub ints : new.ints ≡ old.ints ++ ints_at (state_of old) doing
