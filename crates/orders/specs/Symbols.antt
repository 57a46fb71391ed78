-- What actions synchronize by, by names.
use Rattle.std.specs.Prelude.{◌≡◌, ◌⊎◌, ℕ, List, Contains, Option, Some, None, slice_get, map}
use Rattle.std.specs.Option.{option_map}
use Rattle.program.specs.declared.kind.Kind.{Kind}
use Rattle.program.specs.declared.kind.Kind.TheVariants.{VolatileRead, VolatileWrite, Lock, Unlock, First, Last, Start, Detect}
use Rattle.action_orders.specs.declared.action.Action.{Action}
use Rattle.action_orders.specs.declared.action.ActionOperand.{ActionOperand}
use Rattle.action_orders.specs.declared.action.ActionOperand.TheVariants.{Variable, Monitor, Thread}
use Rattle.orders.specs.declared.channel.Channel.{Channel}
use Rattle.orders.specs.declared.channel.Channel.TheVariants as channel
use Rattle.orders.specs.declared.channels.Channels.{Channels}

-- a volatile variable, a monitor, the start of a thread, or its end
pub data Symbol : Type 0 where
  OfVariable : List ℕ → List ℕ → Symbol
  OfMonitor : List ℕ → Symbol
  OfStart : ℕ → Symbol
  OfEnd : ℕ → Symbol

abbrev pub given_by : Kind → ActionOperand → ℕ → Option Symbol
given_by Unlock (Monitor m) t = Some (OfMonitor m)
given_by VolatileWrite (Variable c n) t = Some (OfVariable c n)
given_by Start (Thread k) t = Some (OfStart k)
given_by Last _ t = Some (OfEnd t)
given_by _ _ t = None

abbrev pub taken_by : Kind → ActionOperand → ℕ → Option Symbol
taken_by Lock (Monitor m) t = Some (OfMonitor m)
taken_by VolatileRead (Variable c n) t = Some (OfVariable c n)
taken_by Detect (Thread k) t = Some (OfEnd k)
taken_by First _ t = Some (OfStart t)
taken_by _ _ t = None

-- what an action gives to, and what it takes from
abbrev pub gives_of : Action → Option Symbol
gives_of a = given_by a.kind a.operand a.thread

abbrev pub takes_of : Action → Option Symbol
takes_of a = taken_by a.kind a.operand a.thread

-- ---- Numbers

abbrev pub symbol_of : Channel → Symbol
symbol_of (channel.Variable class name) = OfVariable class.now name.now
symbol_of (channel.Monitor class) = OfMonitor class.now
symbol_of (channel.Start k) = OfStart k
symbol_of (channel.End k) = OfEnd k

abbrev pub symbol_given : Option Channel → Option Symbol
symbol_given o = option_map symbol_of o

abbrev pub symbols : Channels → List Symbol
symbols c = map symbol_of c.set.keys

-- each number still has its symbol
abbrev pub Extends : List Symbol → List Symbol → Type 0
Extends old new = (n : ℕ) (s : Symbol) → slice_get old n ≡ Some s → slice_get new n ≡ Some s

-- no symbol has two numbers
abbrev pub IsDistinct : List Symbol → Type 0
IsDistinct names = (m n : ℕ) (s : Symbol) → slice_get names m ≡ Some s → slice_get names n ≡ Some s → m ≡ n

-- the symbol is there, or is the new one
abbrev pub MatchesOr : List Symbol → Symbol → Symbol → Type 0
MatchesOr old new s = Contains old s ⊎ (s ≡ new)
