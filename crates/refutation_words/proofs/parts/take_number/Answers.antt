use Rattle.refutation_words.specs.Parts.{SpellsNumber}
use Rattle.refutation_words.specs.Words.{IsNumeral}
use Rattle.refutation_words.proofs.PartLaws.{of-word, other-word, spells-number, takes-word}
use Rattle.refutation_words.proofs.WordLaws.{numeral-word}
use Rattle.refutation_words.proofs.parts.take_number.Goals as goal

pub returns-then-not-is_numeral-clause-refused : goal.returns-then-not-is_numeral-clause-refused
returns-then-not-is_numeral-clause-refused g c =
    other-word IsNumeral numeral-word (g.B.Bytes.front c.next_word.new.bytes) (g.B.Bytes.left c.args.bytes.now) (g.B.Bytes.left c.next_word.new.bytes) c.in_ok-len.len
    c.in_ok-len.ensures.at_hand c.next_word.ensures.left
    (of-word (λ word. ¬ (IsNumeral word)) c.word_of-word.result.now c.peek.result.now (g.B.Bytes.front c.next_word.new.bytes) c.in_ok-len.len c.word_of-word.ensures c.peek.ensures
    (rw c.if-not-is_numeral.true at c.is_numeral.ensures))

pub returns-clause-taken : goal.returns-clause-taken
returns-clause-taken g c =
    let front = g.B.Bytes.front c.next_word.new.bytes in
    record {
      word = _;
      takes = takes-word IsNumeral front (g.B.Bytes.left c.args.bytes.now) (g.B.Bytes.left c.next_word.new.bytes) (g.B.Bytes.left c.skip.new.self) c.in_ok-len.len
          c.in_ok-len.ensures.at_hand c.next_word.ensures.left
          (of-word IsNumeral c.word_of-word.result.now c.peek.result.now front c.in_ok-len.len c.word_of-word.ensures c.peek.ensures (rw c.if-not-is_numeral.false at c.is_numeral.ensures))
          c.skip.ensures.left;
      spelled = of-word (λ word. SpellsNumber word c.read_number-number.result) c.word_of-word.result.now c.peek.result.now front c.in_ok-len.len c.word_of-word.ensures c.peek.ensures (spells-number c.word_of-word.result.now c.read_number-number.result c.read_number-number.ensures);
    }
