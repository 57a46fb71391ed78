use Rattle.refutation_words.proofs.PartLaws.{text-missing, not-text}
use Rattle.refutation_words.proofs.parts.expect_text.Goals as goal

pub returns-then-not-starts_with-clause-refused : goal.returns-then-not-starts_with-clause-refused
returns-then-not-starts_with-clause-refused g c =
    text-missing c.args.text.now c.peek.result.now (g.B.Bytes.left c.args.bytes.now) (g.B.Bytes.left c.want.new.self) c.want.ensures.left
    (rw c.peek.ensures c.in_ok-want.ensures.front)
    (not-text c.peek.result.now c.args.text.now c.starts_with.result c.starts_with.ensures.value c.if-not-starts_with.true)
