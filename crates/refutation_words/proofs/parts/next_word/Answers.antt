use Rattle.std.proofs.Common.{ℕ, List, subst}
use Rattle.refutation_words.specs.Fronts.{ReadsWord}
use Rattle.refutation_words.specs.Parts.{HasNone}
use Rattle.refutation_words.specs.Words.{IsWord}
use Rattle.refutation_words.proofs.FrontLaws.{none-refused, word-at-hand}
use Rattle.refutation_words.proofs.parts.next_word.Goals as goal

pub returns-in-Some-clause-at_hand : goal.returns-in-Some-clause-at_hand
returns-in-Some-clause-at_hand g c =
    word-at-hand (g.B.Bytes.front c.want.new.self) (g.B.Bytes.left c.want.new.self) c.in-Some.len c.in_ok-want.ensures.front
    (subst (λ (front : List ℕ). ReadsWord front c.in-Some.len) c.peek.ensures c.in-Some.ensures)

pub returns-in-None-clause-refused : goal.returns-in-None-clause-refused
returns-in-None-clause-refused g c =
    none-refused (g.B.Bytes.front c.want.new.self) (g.B.Bytes.left c.args.bytes.now) (g.B.Bytes.left c.want.new.self) c.want.ensures.left c.in_ok-want.ensures.front
    (subst (λ (front : List ℕ). HasNone IsWord front) c.peek.ensures c.in-None.ensures)
