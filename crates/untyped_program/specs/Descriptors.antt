-- Signatures, as the code holds them.
use Rattle.resolution.specs.declared.signature.Signature as spec
use Rattle.untyped_program.specs.declared.signature.Signature.{Signature}

abbrev pub spelled : Signature → spec.Signature
spelled s = record { parameters = s.parameters; result = s.result }
