use Rattle.std.proofs.Common.{arith}
use Rattle.refutation_words.specs.Words.{IsDigit}
use Rattle.refutation_words.proofs.WordLaws.{all-more, all-seen}
use Rattle.refutation_words.proofs.words.are_digits.Goals as goal

pub loop-byte-preserved : goal.loop-byte-preserved
loop-byte-preserved c =
    all-more IsDigit c.args.word.now c.loop-byte.byte-index _ c.loop-byte-test.true c.loop-byte.invariant (rw c.if-not-is_digit.false at c.is_digit.ensures)

pub returns : goal.returns
returns c = all-seen IsDigit c.args.word.now c.loop-byte.byte-index (omega (arith, c.loop-byte-test.false)) c.loop-byte.invariant
