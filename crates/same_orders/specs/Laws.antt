-- A law of well-formed executions.
use Rattle.program.specs.Program.{Prog}
use Rattle.action_orders.specs.Execution.{Exec}
use Rattle.action_orders.specs.WellFormed.{IsWellFormed}
use Rattle.same_orders.specs.Happening.{AreDefaultsFirst}

-- in a well-formed execution each default write happens before each action of a thread
abbrev pub DefaultsComeFirst : Type 0
DefaultsComeFirst = (p : Prog) (e : Exec) → IsWellFormed p e → AreDefaultsFirst p e
