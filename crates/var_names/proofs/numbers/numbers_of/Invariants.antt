use Rattle.std.proofs.Common.{◌+◌, ◌≤◌, length, take}
use Rattle.var_names.specs.LiteralNumbers.{AddsVariables, AreNumbers, Grown}
use Rattle.var_names.proofs.numbers.numbers_of.Given as goal

abbrev pub invariant-loop-lit : goal.invariant-loop-lit
invariant-loop-lit l = record {
  added : AddsVariables l.initial.variables.keys (take l.lit-index l.literals) l.variables.keys;
  numbers : AreNumbers l.variables.keys (take l.lit-index l.literals) l.numbers;
  grown : Grown l.initial.variables.keys l.variables.keys;
  few : length l.variables.keys ≤ length l.initial.variables.keys + l.lit-index;
}
