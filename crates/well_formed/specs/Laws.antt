-- What a clause that fails says: the statements of the functions of the module `laws`.
use Rattle.std.specs.Prelude.{◌≡◌, ℕ}
use Rattle.line_text.specs.declared.bounds.Bounds.{Bounds}
use Rattle.program.specs.Program.{Prog}
use Rattle.action_orders.specs.Execution.{Exec}
use Rattle.action_orders.specs.Runs.{IsWithin}
use Rattle.action_orders.specs.WellFormed.{IsWellFormed}
use Rattle.well_formed.specs.Refusals.{Fails}

-- an execution that breaks a clause is not both well-formed and within the bounds
abbrev pub FailingIsNotWellFormed : Type 0
FailingIsNotWellFormed = (p : Prog) (e : Exec) (bounds : Bounds) (number at : ℕ) → Fails p e bounds number at → IsWellFormed p e → IsWithin p e bounds.jumps bounds.width → ⊥

-- it breaks one clause first, at one place
abbrev pub FailsOnce : Type 0
FailsOnce = (p : Prog) (e : Exec) (bounds : Bounds) (number at other place : ℕ) → Fails p e bounds number at → Fails p e bounds other place → (number ≡ other) × (at ≡ place)
