-- The letters so far are those of parameters.
use Rattle.std.proofs.Common.{◌≡◌, drop}
use Rattle.resolution.specs.Signatures.{signature_from}
use Rattle.resolution.proofs.signature.signature_behind.Given as goal

abbrev pub invariant-loop-parameters : goal.invariant-loop-parameters
invariant-loop-parameters l = signature_from l.parameters (drop l.parameters l.text) ≡ signature_from 0 l.text
