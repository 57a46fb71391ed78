-- The letters so far are those of parameters.
use Rattle.std.proofs.Common.{◌≡◌, drop}
use Rattle.resolution.specs.Signatures.{signature_from}
use Rattle.untyped_program.proofs.signature.signature_behind.Given as goal

abbrev pub invariant-loop-place : goal.invariant-loop-place
invariant-loop-place l = signature_from l.place (drop l.place l.letters) ≡ signature_from 0 l.letters
