-- The variables so far.
use Rattle.std.proofs.Common.{◌≡◌, ◌++◌, take}
use Rattle.linking.proofs.parts.add_variables.Given as goal

abbrev pub invariant-loop-variable : goal.invariant-loop-variable
invariant-loop-variable l = l.program ≡ record l.initial.program { variables = l.initial.program.variables ++ take l.variable-index l.variables }
