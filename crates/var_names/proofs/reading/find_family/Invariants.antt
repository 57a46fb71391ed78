use Rattle.std.proofs.Common.{◌≢◌, take}
use Rattle.std.specs.Prelude.{All}
use Rattle.var_names.specs.LiteralText.{family_name}
use Rattle.var_names.proofs.reading.find_family.Given as goal

abbrev pub invariant-loop-family : goal.invariant-loop-family
invariant-loop-family l = All (λ family. l.text ≢ family_name family) (take l.family-index l.families)
