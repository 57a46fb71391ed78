use Rattle.std.proofs.Common.{◌<◌, length, get_or, inl, inr, sym, subst, arith}
use Rattle.clause_pool.specs.PoolValue.{IsIn, list_at, with_first}
use Rattle.clause_pool.specs.WatchLists.{watch_lists, IsLinkedAs}
use Rattle.clause_pool.proofs.Linked.{lists_are}
use Rattle.clause_pool.proofs.Swapped.{differ_at}
use Rattle.clause_pool.proofs.Sound.{IsIn-with_first}
use Rattle.clause_pool.proofs.PoolLinks.{with_watches-two}
use Rattle.clause_pool.proofs.lists.WatchLists.watch.Goals as goal

pub link_first-requires-2-clause-linked : goal.link_first-requires-2-clause-linked
link_first-requires-2-clause-linked c =
    subst (IsLinkedAs c.link_first.new.self) (sym (lists_are c.link_first.new.self _ c.link_first.ensures.linked)) c.link_first.ensures.linked

pub link_first-requires-2-clause-outside : goal.link_first-requires-2-clause-outside
link_first-requires-2-clause-outside c = λ i.
    let W = watch_lists c.args.self.now in
    let a = get_or c.args.literals.now 0 0 in
    let b = get_or c.args.literals.now 1 0 in
    let len = c.requires.linked.linked.same_length in
    let la : a < length c.args.self.now.heads.items = c.requires.below 0 0 (omega arith) in
    let lb : b < length c.args.self.now.heads.items = c.requires.below 1 0 (omega arith) in
    elim (IsIn-with_first W b c.args.clause a c.args.clause (subst (λ n. b < n) (sym len) lb)
    (subst (λ V. IsIn c.args.clause (list_at V a)) (lists_are c.link_first.new.self _ c.link_first.ensures.linked) i)) [
      | inl here ↦ differ_at c.args.literals.now 0 1 c.requires.different (omega arith) (omega arith) (omega arith) here.0
      | inr older ↦ c.requires.outside a (subst (λ n. a < n) (sym len) la) older
    ]

pub returns-clause-linked : goal.returns-clause-linked
returns-clause-linked c =
    let W = watch_lists c.args.self.now in
    let a = get_or c.args.literals.now 0 0 in
    let b = get_or c.args.literals.now 1 0 in
    subst (IsLinkedAs c.link_first-2.new.self) (sym (with_watches-two W c.args.clause c.args.literals.now c.if-literals-lt2.false))
    (subst (λ V. IsLinkedAs c.link_first-2.new.self (with_first V a c.args.clause)) (lists_are c.link_first.new.self (with_first W b c.args.clause) c.link_first.ensures.linked) c.link_first-2.ensures.linked)
