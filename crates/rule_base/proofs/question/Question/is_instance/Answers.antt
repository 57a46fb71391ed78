use Rattle.std.proofs.Common.{◌≡◌, ◌∙◌, sym, arith, length, length-append, [], ◌∷◌}
use Rattle.rule_base.specs.Tables.{letters_of}
use Rattle.rule_base.proofs.Arguments.{args-passed, args-failed, args-none, args-end, args-short, numbered}
use Rattle.rule_base.proofs.question.Question.is_instance.Goals as goal

pub returns-in_default : goal.returns-in_default
returns-in_default c =
    let n = rw c.len-argument-end.ensures.value at c.loop-argument-test.true in
    let l = rw c.len.ensures at c.if-len-place.false in
    numbered c.args.self.now c.args.table.now.rows.now c.args.place c.args.args.now _ l
    (sym (c.loop-argument.invariant.same ∙ args-none c.args.self.now _ c.loop-argument.before _ _
    (sym c.in_default.ensures.letter) n))

pub returns-then-not-takes : goal.returns-then-not-takes
returns-then-not-takes c =
    let l = rw c.len.ensures at c.if-len-place.false in
    numbered c.args.self.now c.args.table.now.rows.now c.args.place c.args.args.now _ l
    (sym (c.loop-argument.invariant.same ∙ args-failed c.args.self.now _ c.loop-argument.before _ _ _ _ _
    c.in-Some.ensures.letter c.loop-argument-test.true c.len-argument-end.ensures.value c.at-x.ensures
    c.if-not-takes.ensures))

pub loop-argument-preserved : goal.loop-argument-preserved
loop-argument-preserved c =
    record {
      same = rw c.push.ensures (c.loop-argument.invariant.same
          ∙ args-passed c.args.self.now _ c.loop-argument.before _ _ _ _ _ c.in-Some.ensures.letter
          c.loop-argument-test.true c.len-argument-end.ensures.value c.at-x.ensures c.if-not-takes.ensures);
      len = rw c.push.ensures (omega (
        arith,
        length-append c.loop-argument.before (c.at-x.result ∷ []),
        c.loop-argument.invariant.len,
      ));
    }

pub returns-in-Some-letter : goal.returns-in-Some-letter
returns-in-Some-letter c =
    let l = rw c.len.ensures at c.if-len-place.false in
    let p : c.loop-argument.argument ≡ length c.args.args.now = omega arith in
    let e = rw c.len-2.ensures.value at c.in-Some-letter.ensures.letter in
    numbered c.args.self.now c.args.table.now.rows.now c.args.place c.args.args.now _ l
    (sym (rw p at c.loop-argument.invariant.same ∙ args-short c.args.self.now
    (letters_of c.args.table.now.rows.now c.args.place) c.loop-argument.before c.args.args.now _ (sym e)))

pub returns-in-None : goal.returns-in-None
returns-in-None c =
    let l = rw c.len.ensures at c.if-len-place.false in
    let p : c.loop-argument.argument ≡ length c.args.args.now = omega arith in
    let e = rw c.len-2.ensures.value at c.in-None.ensures.letter in
    numbered c.args.self.now c.args.table.now.rows.now c.args.place c.args.args.now _ l
    (sym (rw p at c.loop-argument.invariant.same ∙ args-end c.args.self.now
    (letters_of c.args.table.now.rows.now c.args.place) c.loop-argument.before c.args.args.now (sym e)))
