-- Lists of steps, and what they read.
use Rattle.std.specs.Prelude.{◌≡◌, ◌≢◌, ℕ, ℤ, Bool, List, [], ◌∷◌, AllPairs, Contains, Option}
use Rattle.std.specs.List.{filter_map}
use Rattle.std.specs.Option.{option_and_then}
use Rattle.opcodes.specs.Listing.{IsByPc}
use Rattle.program.specs.Program.{Prog}
use Rattle.program.specs.Run.{Move, events_of, read_of}
use Rattle.program.specs.Step.{Activation, Effect, Step}
use Rattle.program.specs.declared.method.Method.{Method}

-- no two methods have one name, and the instructions of each stand by their places: the type of a program keeps this
pub record IsOrdered (p : Prog) : Type 0 where
  pub distinct : AllPairs (λ m n. m.id ≢ n.id) p.methods
  pub by_pc : (m : Method) → Contains p.methods m → IsByPc m.listing

-- these moves lead from one state to another
abbrev pub Leads : Prog → (ℕ → Bool) → List Activation → List Move → List Activation → Type 0
Leads p ended s [] t = s ≡ t
Leads p ended s (m ∷ moves) t = Step p ended s m.effect m.state × Leads p ended m.state moves t

-- the value that a step reads, if it reads one
abbrev pub read_in : Effect → Option ℤ
read_in effect = option_and_then read_of effect.event

-- the values that moves read, in order
abbrev pub reads_of : List Move → List ℤ
reads_of moves = filter_map read_of (events_of moves)
