use Rattle.std.proofs.Common.{◌≡◌, None, Some, get_or, refl, sym, ◌∙◌, ap, subst}
use Rattle.std.proofs.lemmas.List.{get_or_read}
use Rattle.clause_pool.specs.PoolValue.{IsWatching}
use Rattle.clause_pool.specs.WatchLists.{clauses_of, SetsAfter}
use Rattle.clause_pool.proofs.Linked.{IsLinkedAs-first, LeadsToWatching-head}
use Rattle.clause_pool.proofs.lists.WatchLists.link_first.Goals as goal

pub set_before-requires-2-clause-watching : goal.set_before-requires-2-clause-watching
set_before-requires-2-clause-watching c = λ k e.
    let head : c.index.result.now ≡ get_or c.args.self.now.heads.items c.args.literal None = get_or_read c.args.self.now.heads.items c.args.literal _ c.requires.in_range c.index.ensures None in
    subst (λ cs. IsWatching cs c.args.literal k) (sym (ap (λ r. clauses_of r.blocks) c.set_before.ensures.region ∙ c.set_after.ensures.keeps.clauses))
    (LeadsToWatching-head c.args.self.now c.args.literal c.requires.linked c.requires.in_range k (sym head ∙ e))

pub returns-clause-linked : goal.returns-clause-linked
returns-clause-linked c =
    let head : c.index.result.now ≡ get_or c.args.self.now.heads.items c.args.literal None = get_or_read c.args.self.now.heads.items c.args.literal _ c.requires.in_range c.index.ensures None in
    let after = subst (λ link. SetsAfter c.args.self.now c.set_after.new.self c.args.literal (Some c.args.clause) link) (c.copied.ensures ∙ c.as_ref.ensures.value) c.set_after.ensures in
    IsLinkedAs-first c.args.self.now c.set_after.new.self c.set_before.new.self c.set_before-2.new.self _ c.args.literal c.args.clause c.index.result.now
    c.requires.linked c.requires.in_range c.requires.watching c.requires.outside head after c.set_before.ensures c.set_before-2.ensures refl refl refl
