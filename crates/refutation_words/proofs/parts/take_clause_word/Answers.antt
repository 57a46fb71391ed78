use Rattle.std.proofs.Common.{◌≡◌, ℕ, List, subst}
use Rattle.std.proofs.lemmas.Result.{err_from_is_err_and}
use Rattle.refutation_words.specs.Parts.{clause_word_text, IsClauseWord, TakesWord}
use Rattle.refutation_words.proofs.LiteralWords.{clause-word}
use Rattle.refutation_words.proofs.PartLaws.{no-word, of-word, other-word, takes-word}
use Rattle.refutation_words.proofs.parts.take_clause_word.Goals as goal

pub returns-in_err-len-clause-refused : goal.returns-in_err-len-clause-refused
returns-in_err-len-clause-refused g c =
    let p = err_from_is_err_and c.from_residual.result c.from_residual.ensures.1 in
    rw (p.1, p.2)
    (no-word IsClauseWord clause-word (g.B.Bytes.causes c.args.bytes.now c.next_word.new.bytes) (g.B.Bytes.left c.args.bytes.now) _ c.in_err-len.ensures.refused)

pub returns-in_default-clause-refused : goal.returns-in_default-clause-refused
returns-in_default-clause-refused g c =
    other-word IsClauseWord clause-word (g.B.Bytes.front c.next_word.new.bytes) (g.B.Bytes.left c.args.bytes.now) (g.B.Bytes.left c.next_word.new.bytes) c.in_ok-len.len
    c.in_ok-len.ensures.at_hand c.next_word.ensures.left
    (of-word (λ word. ¬ (IsClauseWord word)) c.word_of.result.now c.peek.result.now (g.B.Bytes.front c.next_word.new.bytes) c.in_ok-len.len c.word_of.ensures c.peek.ensures
    c.in_default.ensures)

pub returns-clause-taken : goal.returns-clause-taken
returns-clause-taken g c =
    let front = g.B.Bytes.front c.next_word.new.bytes in
    let takes = takes-word IsClauseWord front (g.B.Bytes.left c.args.bytes.now) (g.B.Bytes.left c.next_word.new.bytes) (g.B.Bytes.left c.skip.new.self) c.in_ok-len.len
    c.in_ok-len.ensures.at_hand c.next_word.ensures.left
    (of-word IsClauseWord c.word_of.result.now c.peek.result.now front c.in_ok-len.len c.word_of.ensures c.peek.ensures (c.in-Some.word, c.in-Some.ensures))
    c.skip.ensures.left in
    record {
      fits = c.in-Some.ensures.fits;
      takes = subst (λ (word : List ℕ). TakesWord IsClauseWord (g.B.Bytes.left c.args.bytes.now) (g.B.Bytes.left c.skip.new.self) word)
          (of-word (λ word. word ≡ clause_word_text c.in-Some.word) c.word_of.result.now c.peek.result.now front c.in_ok-len.len c.word_of.ensures c.peek.ensures
          c.in-Some.ensures.text)
          takes;
    }
