-- States of a frame along a path: types of locals and stack, counts of monitors, states of threads.
use Rattle.std.specs.Prelude.{ℕ, List, [], ◌∷◌, Option, replicate, slice_get, nat_eq, if◌then◌else◌}
use Rattle.program.specs.declared.value_type.ValueType.{ValueType}
use Rattle.program.specs.declared.value_type.ValueType.TheVariants.{Int, Args, This}
use Rattle.typing.specs.declared.untyped.Entry.{Entry}
use Rattle.typing.specs.declared.untyped.Entry.TheVariants.{Main, Run, Static}
use Rattle.typing.specs.declared.untyped.UntypedMethod.{UntypedMethod}

-- how far a thread has come that a frame makes: no object yet, no constructor called yet, not started yet, started, waited
-- for, asked whether it is alive
pub data ThreadState : Type 0 where
  Unmade : ThreadState
  Fresh : ThreadState
  Ready : ThreadState
  Started : ThreadState
  Joined : ThreadState
  Asked : ThreadState

-- a type or nothing in each local, the types on the stack from the top down, how often each monitor was entered and not
-- left again, and the states of the threads
pub record FrameState : Type 0 where
  pub local : ℕ → Option ValueType
  pub stack : List ValueType
  pub held : ℕ → ℕ
  pub thread : ℕ → ThreadState

-- a function with another value at one number
abbrev pub with_value : {X : Type 0} → (ℕ → X) → ℕ → X → ℕ → X
with_value f at value n = if nat_eq at n then value else f n

-- the types of the locals that are filled at the entry
abbrev pub entry_types : Entry → ℕ → List ValueType
entry_types Main parameters = Args ∷ []
entry_types Run parameters = This ∷ []
entry_types Static parameters = replicate parameters Int

-- the state in which a method is entered
abbrev pub entry_state : UntypedMethod → FrameState
entry_state m = record { local = λ slot. slice_get (entry_types m.entry m.frame.parameters) slot; stack = []; held = λ monitor. 0; thread = λ k. Unmade }
