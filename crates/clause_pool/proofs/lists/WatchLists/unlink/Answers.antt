use Rattle.std.proofs.Common.{sym, ◌∙◌, subst, arith}
use Rattle.clause_pool.specs.PoolValue.{IsWatching}
use Rattle.clause_pool.specs.WatchLists.{next_of, SetsAfter, SetsBefore}
use Rattle.clause_pool.proofs.ListSteps.{in_range_from_clause}
use Rattle.clause_pool.proofs.Linked.{IsLinkedAs-unlink, LeadsToWatching-next, LeadsToWatching-before}
use Rattle.clause_pool.proofs.lists.WatchLists.unlink.Goals as goal

pub next-next-requires : goal.next-next-requires
next-next-requires c = c.requires.linked.linked.watching c.args.literal c.args.clause c.requires.in_range c.requires.inside

pub before-before-requires-clause-in_range : goal.before-before-requires-clause-in_range
before-before-requires-clause-in_range c =
    let w = c.requires.linked.linked.watching c.args.literal c.args.clause c.requires.in_range c.requires.inside in
    omega (arith, in_range_from_clause c.args.self.now.region.blocks c.args.clause w.literals w.found, c.requires.linked.previous_fit)

pub set_after-requires-clause-watching : goal.set_after-requires-clause-watching
set_after-requires-clause-watching c = λ k e.
    LeadsToWatching-before c.args.self.now c.args.literal c.args.clause c.requires.linked c.requires.in_range c.requires.inside k
    (sym c.before-before.ensures ∙ sym c.as_ref.ensures.value ∙ sym c.copied.ensures ∙ e)

pub set_before-requires-clause-watching : goal.set_before-requires-clause-watching
set_before-requires-clause-watching c = λ k e.
    subst (λ cs. IsWatching cs c.args.literal k) (sym c.set_after.ensures.keeps.clauses)
    (LeadsToWatching-next c.args.self.now c.args.literal c.args.clause c.requires.linked c.requires.in_range c.requires.inside k (sym c.next-next.ensures ∙ e))

pub returns-clause-linked : goal.returns-clause-linked
returns-clause-linked c =
    let old = c.args.self.now in
    let l = c.args.literal in
    let after = subst (λ b. SetsAfter old c.set_after.new.self l b (next_of old.region.blocks l c.args.clause)) (c.copied.ensures ∙ c.as_ref.ensures.value ∙ c.before-before.ensures)
    (subst (λ n. SetsAfter old c.set_after.new.self l c.copied.result n) (c.copied-2.ensures ∙ c.as_ref-2.ensures.value ∙ c.next-next.ensures) c.set_after.ensures) in
    let before = subst (λ b. SetsBefore c.set_after.new.self c.set_before.new.self l (next_of old.region.blocks l c.args.clause) b) c.before-before.ensures
    (subst (λ n. SetsBefore c.set_after.new.self c.set_before.new.self l n c.before-before.result) c.next-next.ensures c.set_before.ensures) in
    IsLinkedAs-unlink old c.set_after.new.self c.set_before.new.self l c.args.clause c.requires.linked c.requires.in_range c.requires.inside after before
