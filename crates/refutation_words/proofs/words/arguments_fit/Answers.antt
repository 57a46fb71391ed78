use Rattle.std.proofs.Common.{arith}
use Rattle.var_names.specs.Readable.{IsArgument}
use Rattle.refutation_words.proofs.LiteralWords.{are-arguments}
use Rattle.refutation_words.proofs.WordLaws.{all-more, all-seen}
use Rattle.refutation_words.proofs.words.arguments_fit.Goals as goal

pub loop-arg-preserved : goal.loop-arg-preserved
loop-arg-preserved c = all-more IsArgument c.args.args.now c.loop-arg.arg-index _ c.loop-arg-test.true c.loop-arg.invariant c.argument_fits.ensures

pub returns : goal.returns
returns c = are-arguments c.args.args.now (all-seen IsArgument c.args.args.now c.loop-arg.arg-index (omega (arith, c.loop-arg-test.false)) c.loop-arg.invariant)
