-- Whole runs of one thread.
use Rattle.std.specs.Prelude.{◌≡◌, ℕ, ℤ, Bool, List, [], ◌∷◌, ◌++◌, Option, Some, None}
use Rattle.std.specs.List.{filter_map}
use Rattle.program.specs.Program.{Prog}
use Rattle.program.specs.Step.{Activation, Effect, Step, IsEntry}
use Rattle.program.specs.declared.event.Event.{Event}
use Rattle.program.specs.declared.event.Event.TheVariants.{First, Last, Read, Print}

-- what a step did, with the state that it leads to
pub record Move : Type 0 where
  pub effect : Effect
  pub state : List Activation

-- from this state the moves are steps, one after the other, and the last is the outermost return
abbrev pub AreSteps : Prog → (ℕ → Bool) → List Activation → List Move → Type 0
AreSteps p ended s [] = s ≡ []
AreSteps p ended s (m ∷ moves) = Step p ended s m.effect m.state × AreSteps p ended m.state moves

abbrev pub events_of : List Move → List Event
events_of moves = filter_map (λ m. m.effect.event) moves

-- the value of an event that reads
abbrev pub read_of : Event → Option ℤ
read_of (Read variable value) = Some value
read_of _ = None

-- the value of an event that prints
abbrev pub printed_of : Event → Option ℤ
printed_of (Print value) = Some value
printed_of _ = None

-- a run of thread k, where isAlive finds these threads ended: it reads these values, has these events, and prints these values
pub record IsRun (p : Prog) (k : ℕ) (ended : ℕ → Bool) (moves : List Move) (reads : List ℤ) (events : List Event) (printed : List ℤ) : Type 0 where
  pub start : List Activation
  pub entry : IsEntry p k start
  pub steps : AreSteps p ended start moves
  pub events_are : events ≡ First ∷ events_of moves ++ Last ∷ []
  pub reads_are : reads ≡ filter_map read_of events
  pub printed_are : printed ≡ filter_map printed_of events
