use Rattle.std.proofs.Common.{sym}
use Rattle.rule_base.proofs.Steps.{instances-skip, instances-push, instances-take, work-on, work-in}
use Rattle.rule_base.proofs.instances.Instances.step.Goals as goal

pub returns-then-not-fits-clause-left : goal.returns-then-not-fits-clause-left
returns-then-not-fits-clause-left c =
    let e = rw c.len-argument.ensures.value at c.in-Some.ensures.letter in
    let h = rw c.size.ensures.value at c.if-size-self.false in
    instances-skip c.args.self.now.question c.args.self.now.table.rows.now _ _ c.in-Some.here _ (sym e) h
    (sym c.if-not-fits.ensures)

pub returns-then-not-fits-clause-work : goal.returns-then-not-fits-clause-work
returns-then-not-fits-clause-work c =
    let e = rw c.len-argument.ensures.value at c.in-Some.ensures.letter in
    let h = rw c.size.ensures.value at c.if-size-self.false in
    work-on c.args.self.now.question c.args.self.now.table.rows.now _ _ c.in-Some.here _ (sym e) h

pub returns-in-Some-letter-clause-left : goal.returns-in-Some-letter-clause-left
returns-in-Some-letter-clause-left c =
    let e = rw c.len-argument.ensures.value at c.in-Some.ensures.letter in
    let s = rw c.len-argument.ensures.value at c.in-Some-letter.ensures.letter in
    let h = rw c.size.ensures.value at c.if-size-self.false in
    rw c.push.ensures (instances-push c.args.self.now.question c.args.self.now.table.rows.now _ _ c.in-Some.here
    c.in-Some-letter.field-0 _ (sym e) (sym s) h (sym c.if-not-fits.ensures))

pub returns-in-Some-letter-clause-work : goal.returns-in-Some-letter-clause-work
returns-in-Some-letter-clause-work c =
    let e = rw c.len-argument.ensures.value at c.in-Some.ensures.letter in
    let s = rw c.len-argument.ensures.value at c.in-Some-letter.ensures.letter in
    let h = rw c.size.ensures.value at c.if-size-self.false in
    rw c.push.ensures (work-in c.args.self.now.question c.args.self.now.table.rows.now _ _ c.in-Some.here
    c.in-Some-letter.field-0 _ (sym e) (sym s) h)

pub returns-in-None-clause-left : goal.returns-in-None-clause-left
returns-in-None-clause-left c =
    let e = rw c.len-argument.ensures.value at c.in-Some.ensures.letter in
    let s = rw c.len-argument.ensures.value at c.in-None.ensures.letter in
    let h = rw c.size.ensures.value at c.if-size-self.false in
    rw (c.push-in-None.ensures, c.copy-choices.ensures) (instances-take c.args.self.now.question
    c.args.self.now.table.rows.now _ _ c.in-Some.here _ (sym e) (sym s) h (sym c.if-not-fits.ensures))

pub returns-in-None-clause-work : goal.returns-in-None-clause-work
returns-in-None-clause-work c =
    let e = rw c.len-argument.ensures.value at c.in-Some.ensures.letter in
    let h = rw c.size.ensures.value at c.if-size-self.false in
    work-on c.args.self.now.question c.args.self.now.table.rows.now _ _ c.in-Some.here _ (sym e) h
