use Rattle.std.proofs.Common.{take}
use Rattle.std.specs.Prelude.{All}
use Rattle.refutation_words.specs.Words.{IsDigit}
use Rattle.refutation_words.proofs.words.are_digits.Given as goal

abbrev pub invariant-loop-byte : goal.invariant-loop-byte
invariant-loop-byte l = All IsDigit (take l.byte-index l.word)
