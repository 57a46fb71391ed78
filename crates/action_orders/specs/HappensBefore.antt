-- Happens-before (JLS 17.4.5), and the essential edges of synchronizes-with (JLS 17.4.8).
use Rattle.std.specs.Prelude.{◌⊎◌}
use Rattle.relations.specs.Path.{Path}
use Rattle.program.specs.Program.{Prog}
use Rattle.action_orders.specs.Execution.{Exec}
use Rattle.action_orders.specs.Actions.{Act}
use Rattle.action_orders.specs.Orders.{ProgramOrder}
use Rattle.action_orders.specs.SynchronizesWith.{SynchronizesWith}

-- one edge: program order or synchronizes-with
abbrev pub IsEdge : Prog → Exec → Act → Act → Type 0
IsEdge p e a b = ProgramOrder e a b ⊎ SynchronizesWith p e a b

-- happens-before, taken strict: a path of one edge or more
abbrev pub HappensBefore : Prog → Exec → Act → Act → Type 0
HappensBefore p e = Path (IsEdge p e)

-- an edge of synchronizes-with in the transitive reduction: it is no program order, and no action lies between its ends
pub record EssentialSync (p : Prog) (e : Exec) (x y : Act) : Type 0 where
  pub synchronizes : SynchronizesWith p e x y
  pub not_program_order : ProgramOrder e x y → ⊥
  pub nothing_between : (z : Act) → HappensBefore p e x z → HappensBefore p e z y → ⊥
