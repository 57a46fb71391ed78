use Rattle.std.proofs.Common.{◌≡◌, ◌++◌, ◌∷◌, [], arith, get_or, refl}
use Rattle.refutation_check.specs.declared.hints.HintRefusal.TheVariants.{Memory}
use Rattle.refutation_check.proofs.HintLaws.{fails-within, followed-last, followed-next, on-ok}
use Rattle.refutation_check.proofs.hints.follow.Goals as goal

pub returns-in-Err : goal.returns-in-Err
returns-in-Err c =
    fails-within c.args.live.now c.args.marks.now c.args.hints.now c.in-Some.before.now c.loop-hint.marks c.loop-hint.hint-index
    (get_or c.in-Some.before.now c.loop-hint.hint-index 0) c.in-Some.last.now c.in-Err.refusal c.in-Some.ensures.cases.0 (omega arith) refl
    c.loop-hint.invariant c.in-Err.ensures

pub returns-then-is_err : goal.returns-then-is_err
returns-then-is_err c =
    fails-within c.args.live.now c.args.marks.now c.args.hints.now c.in-Some.before.now c.loop-hint.marks c.loop-hint.hint-index
    (get_or c.in-Some.before.now c.loop-hint.hint-index 0) c.in-Some.last.now Memory c.in-Some.ensures.cases.0 (omega arith) refl
    c.loop-hint.invariant tt

pub loop-hint-preserved : goal.loop-hint-preserved
loop-hint-preserved c =
    followed-next c.args.live.now c.args.marks.now c.in-Some.before.now c.loop-hint.marks c.mark.new.self c.loop-hint.hint-index
    (get_or c.in-Some.before.now c.loop-hint.hint-index 0) c.in-Ok.unit (omega arith) refl c.loop-hint.invariant c.in-Ok.ensures
    (on-ok (c.mark.new.self ≡ c.loop-hint.marks ++ c.in-Ok.unit ∷ []) c.mark.result c.is_err.result c.is_err.ensures.value c.if-is_err.false c.mark.ensures.ok)

pub returns : goal.returns
returns c =
    followed-last c.args.live.now c.args.marks.now c.args.hints.now c.in-Some.before.now c.loop-hint.marks c.loop-hint.hint-index c.in-Some.last.now
    c.last_hint.result c.in-Some.ensures.cases.0 (omega arith) c.loop-hint.invariant c.last_hint.ensures
