use Rattle.std.proofs.Common.{◌≡◌, length, sym, subst, rules}
use Rattle.action_orders.specs.Sequence.{IsSequence}
use Rattle.action_orders.proofs.Builders.{kept_commit, committed, same_written}
use Rattle.action_orders.proofs.sequence.Sequence.commit.Goals as goal

pub invariant_of-self : goal.invariant_of-self
invariant_of-self c =
    subst IsSequence (sym (same_written c.self.inside.steps.items c.len-last.result c.index_mut-step.result.now c.push.new.self
    c.index_mut-step.ensures.value c.in_err-push.ensures.err)) c.self.invariant

pub returns-clause-ok : goal.returns-clause-ok
returns-clause-ok c =
    let counted : c.len-last.result ≡ length c.self.inside.steps.items = search rules in
    let next = rw (← c.self.view_is) at c.requires in
    rw (← c.self.view_is) (committed c.self.inside.steps.items c.len-last.result c.index_mut-step.result.now c.push.new.self c.args.member
    counted next c.index_mut-step.ensures.value c.in_ok-push.ensures.ok)

pub invariant_of-self-2 : goal.invariant_of-self-2
invariant_of-self-2 c =
    let counted : c.len-last.result ≡ length c.self.inside.steps.items = search rules in
    let next = rw (← c.self.view_is) at c.requires in
    subst IsSequence (sym (committed c.self.inside.steps.items c.len-last.result c.index_mut-step.result.now c.push.new.self c.args.member
    counted next c.index_mut-step.ensures.value c.in_ok-push.ensures.ok)) (kept_commit c.self.inside.steps.items c.args.member c.self.invariant next)
