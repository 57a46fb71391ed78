-- The methods so far are typed, and the program has nothing else.
use Rattle.std.proofs.Common.{◌≡◌, take}
use Rattle.linking.specs.Linking.{AreTypedMethods}
use Rattle.linking.specs.Phases.{only_methods}
use Rattle.linking.proofs.methods.typed_methods.Given as goal

abbrev pub invariant-loop-untyped : goal.invariant-loop-untyped
invariant-loop-untyped l = record {
  typed : AreTypedMethods (take l.untyped-index l.methods) l.program.methods;
  alone : l.program ≡ only_methods l.program.methods;
}
