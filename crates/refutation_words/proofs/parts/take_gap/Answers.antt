use Rattle.std.proofs.Common.{ℕ, List, subst}
use Rattle.refutation_words.specs.Fronts.{BeginsLineEnd}
use Rattle.refutation_words.specs.Parts.{BeginsWord}
use Rattle.refutation_words.proofs.PartLaws.{no-gap, with-further}
use Rattle.refutation_words.proofs.parts.take_gap.Goals as goal

pub returns-clause-gap : goal.returns-clause-gap
returns-clause-gap g c =
    with-further (g.B.Bytes.left c.args.bytes.now) (g.B.Bytes.left c.want.new.self) c.in_ok-further.further c.want.ensures.left
    (no-gap (g.B.Bytes.front c.want.new.self) (g.B.Bytes.left c.want.new.self) c.in_ok-want.ensures.front
    (subst (λ (front : List ℕ). ¬ (BeginsLineEnd front)) c.peek.ensures (rw c.if-is_line_end.false at c.is_line_end.ensures))
    (subst (λ (front : List ℕ). ¬ (BeginsWord front)) c.peek-2.ensures (rw c.if-is_word_next.false at c.is_word_next.ensures)))
    c.in_ok-further.ensures.further
