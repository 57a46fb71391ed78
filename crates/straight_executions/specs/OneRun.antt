-- The one run of a straight program.
use Rattle.std.specs.Prelude.{◌≡◌, ℕ, ℤ, false, List, [], ◌∷◌, All}
use Rattle.std.specs.List.{flat_map}
use Rattle.opcodes.specs.declared.listed.Listed.{Listed}
use Rattle.program.specs.Program.{Prog}
use Rattle.program.specs.Run.{Move}
use Rattle.program.specs.Step.{Activation}
use Rattle.program.specs.declared.method.Method.{Method}
use Rattle.straight.specs.Meaning.{printed_of, ints_of}

-- main alone is run, and stands at this place
pub record IsMainAt (m : Method) (pc : ℕ) (s : List Activation) : Type 0 where
  pub top : Activation
  pub alone : s ≡ top ∷ []
  pub method : top.method ≡ m.id
  pub place : top.pc ≡ pc

-- the moves go along these instructions: each leads main to the next one, and the last one ends main
abbrev pub GoAlong : Method → List Listed → List Move → Type 0
GoAlong m (item ∷ []) (move ∷ []) = move.state ≡ []
GoAlong m (item ∷ next ∷ items) (move ∷ moves) = IsMainAt m next.pc move.state × GoAlong m (next ∷ items) moves
GoAlong m _ _ = ⊥

-- the ints that moves push or store
abbrev pub moved_ints : List Move → List ℤ
moved_ints moves = flat_map (λ move. move.effect.ints) moves

abbrev pub IsForward : Move → Type 0
IsForward move = move.effect.backward ≡ false

-- the moves go along the code, with the values of the walk along it
pub record IsOneRun (p : Prog) (m : Method) (moves : List Move) (printed : List ℤ) : Type 0 where
  pub along : GoAlong m m.listing moves
  pub ints : moved_ints moves ≡ ints_of p m
  pub prints : printed ≡ printed_of p m
  pub forward : All IsForward moves
