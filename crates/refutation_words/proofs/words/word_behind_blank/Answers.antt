use Rattle.std.proofs.Common.{inl, inr}
use Rattle.refutation_words.proofs.FrontLaws.{no-word-here}
use Rattle.refutation_words.proofs.words.word_behind_blank.Goals as goal

pub returns-then-len-eq0 : goal.returns-then-len-eq0
returns-then-len-eq0 c =
    no-word-here c.args.text.now c.in_ok-first.rest.now c.in_ok-first.first.now c.word_end-len.result c.in_ok-first.ensures.cases.0 c.word_end-len.ensures.within
    c.word_end-len.ensures.word c.word_end-len.ensures.rest (inl c.if-len-eq0.true)

pub returns-then-len-gt-LONGEST : goal.returns-then-len-gt-LONGEST
returns-then-len-gt-LONGEST c =
    no-word-here c.args.text.now c.in_ok-first.rest.now c.in_ok-first.first.now c.word_end-len.result c.in_ok-first.ensures.cases.0 c.word_end-len.ensures.within
    c.word_end-len.ensures.word c.word_end-len.ensures.rest (inr c.if-len-gt-LONGEST.true)
