use Rattle.std.proofs.Common.{◌++◌, ◌<◌, ◌^◌, ◌∷◌, [], arith}
use Rattle.std.proofs.lemmas.Result.{err_from_is_err_and}
use Rattle.refutation_items.specs.Refusals.{IsRefusedFor}
use Rattle.refutation_items.proofs.Refusing.{refused-behind, refused-first, takes-then}
use Rattle.refutation_words.specs.Parts.{Lacks, LacksHeader, LacksText}
use Rattle.refutation_words.specs.Words.{IsNumeral}
use Rattle.refutation_words.proofs.HeaderLaws.{beginning, is-steps, map-err, no-beginning, no-feed, no-steps, not-steps, other-number}
use Rattle.refutation_words.proofs.parts.expect_header.Goals as goal

pub returns-in_err-expect_text-clause-refused : goal.returns-in_err-expect_text-clause-refused
returns-in_err-expect_text-clause-refused g c =
    let p = err_from_is_err_and c.from_residual.result c.from_residual.ensures.1 in
    rw (p.1, p.2)
    (refused-first (g.B.Bytes.causes c.args.bytes.now c.expect_text.new.bytes) (g.B.Bytes.causes c.args.bytes.now c.expect_text.new.bytes) (g.B.Bytes.left c.args.bytes.now)
    (LacksText beginning) (LacksHeader c.args.steps) _ (λ read cause. cause) (λ bytes reason lacks. no-beginning c.args.steps bytes reason lacks)
    c.in_err-expect_text.ensures.refused)

pub returns-in_err-number-clause-refused : goal.returns-in_err-number-clause-refused
returns-in_err-number-clause-refused g c =
    let p = err_from_is_err_and c.from_residual-in_err-number.result c.from_residual-in_err-number.ensures.1 in
    rw (p.1, p.2)
    (refused-behind (g.B.Bytes.causes c.expect_text.new.bytes c.take_number.new.bytes) (g.B.Bytes.causes c.args.bytes.now c.take_number.new.bytes)
    (g.B.Bytes.left c.args.bytes.now) (g.B.Bytes.left c.expect_text.new.bytes) beginning (Lacks IsNumeral) (LacksHeader c.args.steps) _ c.in_ok-expect_text.ensures.taken
    (λ read cause. g.met.B.Bytes.later_cause _ _ _ read c.in_ok-expect_text.ensures.moved c.in_err-number.ensures.moved cause)
    (λ bytes reason lacks. no-steps c.args.steps (omega (arith, c.ranges.steps.fits)) bytes reason lacks) c.in_err-number.ensures.refused)

pub returns-then-not-is_steps-clause-refused : goal.returns-then-not-is_steps-clause-refused
returns-then-not-is_steps-clause-refused g c =
    let took = c.in_ok-number.ensures.taken in
    let few : c.args.steps < 2 ^ 32 = omega (arith, c.ranges.steps.fits) in
    other-number c.args.steps few took.word took.takes.is _ _ _ c.in_ok-expect_text.ensures.taken took.takes.taken took.takes.ended
    (not-steps took.word c.in_ok-number.number c.args.steps few took.spelled (rw c.if-not-is_steps.true at c.is_steps.ensures))

pub returns-clause-refused : goal.returns-clause-refused
returns-clause-refused g c =
    let took = c.in_ok-number.ensures.taken in
    let few : c.args.steps < 2 ^ 32 = omega (arith, c.ranges.steps.fits) in
    map-err (IsRefusedFor (g.B.Bytes.causes c.take_number.new.bytes c.expect_text-2.new.bytes) (g.B.Bytes.left c.take_number.new.bytes) (LacksText (10 ∷ [])))
    (IsRefusedFor (g.B.Bytes.causes c.args.bytes.now c.expect_text-2.new.bytes) (g.B.Bytes.left c.args.bytes.now) (LacksHeader c.args.steps)) c.expect_text-2.result
    (λ refusal refused. refused-behind (g.B.Bytes.causes c.take_number.new.bytes c.expect_text-2.new.bytes) (g.B.Bytes.causes c.args.bytes.now c.expect_text-2.new.bytes)
    (g.B.Bytes.left c.args.bytes.now) (g.B.Bytes.left c.take_number.new.bytes) (beginning ++ (32 ∷ took.word)) (LacksText (10 ∷ [])) (LacksHeader c.args.steps) refusal
    (takes-then _ _ _ beginning (32 ∷ took.word) c.in_ok-expect_text.ensures.taken took.takes.taken)
    (λ read cause. g.met.B.Bytes.later_cause _ _ _ read (g.met.B.Bytes.moves_trans _ _ _ c.in_ok-expect_text.ensures.moved c.in_ok-number.ensures.moved)
    c.expect_text-2.ensures.moved cause)
    (λ bytes reason lacks. no-feed c.args.steps few took.word took.takes.is bytes reason
    (is-steps took.word c.in_ok-number.number c.args.steps took.spelled (rw c.if-not-is_steps.false at c.is_steps.ensures)) lacks) refused)
    c.expect_text-2.ensures.refused
