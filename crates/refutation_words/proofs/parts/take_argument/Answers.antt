use Rattle.refutation_words.specs.Parts.{SpellsArgument}
use Rattle.refutation_words.specs.Words.{IsArgumentWord}
use Rattle.refutation_words.proofs.PartLaws.{of-word, other-word, takes-word}
use Rattle.refutation_words.proofs.WordLaws.{argument-word}
use Rattle.refutation_words.proofs.parts.take_argument.Goals as goal

pub returns-then-not-is_argument-clause-refused : goal.returns-then-not-is_argument-clause-refused
returns-then-not-is_argument-clause-refused g c =
    other-word IsArgumentWord argument-word (g.B.Bytes.front c.next_word.new.bytes) (g.B.Bytes.left c.args.bytes.now) (g.B.Bytes.left c.next_word.new.bytes) c.in_ok-len.len
    c.in_ok-len.ensures.at_hand c.next_word.ensures.left
    (of-word (λ word. ¬ (IsArgumentWord word)) c.word_of-word.result.now c.peek.result.now (g.B.Bytes.front c.next_word.new.bytes) c.in_ok-len.len c.word_of-word.ensures c.peek.ensures
    (rw c.if-not-is_argument.true at c.is_argument.ensures))

pub returns-clause-taken : goal.returns-clause-taken
returns-clause-taken g c =
    let front = g.B.Bytes.front c.next_word.new.bytes in
    record {
      word = _;
      takes = takes-word IsArgumentWord front (g.B.Bytes.left c.args.bytes.now) (g.B.Bytes.left c.next_word.new.bytes) (g.B.Bytes.left c.skip.new.self) c.in_ok-len.len
          c.in_ok-len.ensures.at_hand c.next_word.ensures.left
          (of-word IsArgumentWord c.word_of-word.result.now c.peek.result.now front c.in_ok-len.len c.word_of-word.ensures c.peek.ensures (rw c.if-not-is_argument.false at c.is_argument.ensures))
          c.skip.ensures.left;
      spelled = of-word (λ word. SpellsArgument word c.argument_of-argument.result) c.word_of-word.result.now c.peek.result.now front c.in_ok-len.len c.word_of-word.ensures c.peek.ensures c.argument_of-argument.ensures;
    }
