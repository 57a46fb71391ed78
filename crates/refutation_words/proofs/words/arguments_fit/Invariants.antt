use Rattle.std.proofs.Common.{take}
use Rattle.std.specs.Prelude.{All}
use Rattle.var_names.specs.Readable.{IsArgument}
use Rattle.refutation_words.proofs.words.arguments_fit.Given as goal

abbrev pub invariant-loop-arg : goal.invariant-loop-arg
invariant-loop-arg l = All IsArgument (take l.arg-index l.args)
