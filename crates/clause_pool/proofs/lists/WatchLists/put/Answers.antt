use Rattle.std.proofs.Common.{length, inl, inr, refl, sym, ◌∙◌, ap, subst}
use Rattle.clause_pool.specs.Blocks.{new_block}
use Rattle.clause_pool.specs.PoolValue.{IsInNone, clause_at, put_clause}
use Rattle.clause_pool.specs.WatchLists.{clauses_of, watch_lists, pool_value, IsLinkedAs}
use Rattle.clause_pool.proofs.Linked.{lists_are}
use Rattle.clause_pool.proofs.Sound.{IsSound-put}
use Rattle.clause_pool.proofs.PoolLinks.{IsPool-from, IsLinkedAs-away, all_clauses, free_clause, not_full, outside_when_free, clauses-put, pool_value-put}
use Rattle.clause_pool.proofs.lists.WatchLists.put.Goals as goal

pub returns-in_err-clause-clause-full : goal.returns-in_err-clause-clause-full
returns-in_err-clause-clause-full c =
    rw c.from_residual.ensures (elim c.in_err-clause.ensures.full [
      | inl over ↦ inl over
      | inr all ↦ inr (all_clauses c.args.self.now.region.blocks all)
    ])

pub watch-requires-clause-linked : goal.watch-requires-clause-linked
watch-requires-clause-linked c =
    let e = c.in_ok-clause.ensures in
    let free = free_clause c.args.self.now c.in_ok-clause.clause e.fresh in
    let out = outside_when_free c.args.self.now c.in_ok-clause.clause c.requires.pool free in
    let linked = IsLinkedAs-away c.args.self.now (record { region = c.put.new.self; heads = c.args.self.now.heads; previous = c.args.self.now.previous }) (watch_lists c.args.self.now) c.in_ok-clause.clause (new_block c.args.literals.now) c.requires.pool.linked out (ap (λ r. r.blocks) e.put) refl refl in
    let lists = lists_are (record { region = c.put.new.self; heads = c.args.self.now.heads; previous = c.args.self.now.previous }) (watch_lists c.args.self.now) linked in
    subst (IsLinkedAs (record { region = c.put.new.self; heads = c.args.self.now.heads; previous = c.args.self.now.previous })) (sym lists) linked

pub watch-requires-clause-found : goal.watch-requires-clause-found
watch-requires-clause-found c =
    let e = c.in_ok-clause.ensures in
    ap (λ r. clause_at (clauses_of r.blocks) c.in_ok-clause.clause) e.put ∙ clauses-put c.args.self.now.region.blocks c.in_ok-clause.clause c.args.literals.now e.fresh.0

pub watch-requires-clause-outside : goal.watch-requires-clause-outside
watch-requires-clause-outside c =
    let e = c.in_ok-clause.ensures in
    let free = free_clause c.args.self.now c.in_ok-clause.clause e.fresh in
    let out = outside_when_free c.args.self.now c.in_ok-clause.clause c.requires.pool free in
    let linked = IsLinkedAs-away c.args.self.now (record { region = c.put.new.self; heads = c.args.self.now.heads; previous = c.args.self.now.previous }) (watch_lists c.args.self.now) c.in_ok-clause.clause (new_block c.args.literals.now) c.requires.pool.linked out (ap (λ r. r.blocks) e.put) refl refl in
    let lists = lists_are (record { region = c.put.new.self; heads = c.args.self.now.heads; previous = c.args.self.now.previous }) (watch_lists c.args.self.now) linked in
    subst (IsInNone c.in_ok-clause.clause) (sym lists) out

pub returns-clause-fits : goal.returns-clause-fits
returns-clause-fits c =
    let e = c.in_ok-clause.ensures in
    not_full (pool_value c.args.self.now) c.in_ok-clause.clause (length c.args.literals.now) e.fits (free_clause c.args.self.now c.in_ok-clause.clause e.fresh)

pub returns-clause-put : goal.returns-clause-put
returns-clause-put c =
    let e = c.in_ok-clause.ensures in
    let free = free_clause c.args.self.now c.in_ok-clause.clause e.fresh in
    let out = outside_when_free c.args.self.now c.in_ok-clause.clause c.requires.pool free in
    let linked = IsLinkedAs-away c.args.self.now (record { region = c.put.new.self; heads = c.args.self.now.heads; previous = c.args.self.now.previous }) (watch_lists c.args.self.now) c.in_ok-clause.clause (new_block c.args.literals.now) c.requires.pool.linked out (ap (λ r. r.blocks) e.put) refl refl in
    let lists = lists_are (record { region = c.put.new.self; heads = c.args.self.now.heads; previous = c.args.self.now.previous }) (watch_lists c.args.self.now) linked in
    pool_value-put c.args.self.now (record { region = c.put.new.self; heads = c.args.self.now.heads; previous = c.args.self.now.previous }) c.watch.new.self c.in_ok-clause.clause c.args.literals.now c.requires.pool e.put lists c.watch.ensures.linked c.watch.ensures.keeps

pub returns-clause-pool : goal.returns-clause-pool
returns-clause-pool c =
    let e = c.in_ok-clause.ensures in
    let free = free_clause c.args.self.now c.in_ok-clause.clause e.fresh in
    let out = outside_when_free c.args.self.now c.in_ok-clause.clause c.requires.pool free in
    let linked = IsLinkedAs-away c.args.self.now (record { region = c.put.new.self; heads = c.args.self.now.heads; previous = c.args.self.now.previous }) (watch_lists c.args.self.now) c.in_ok-clause.clause (new_block c.args.literals.now) c.requires.pool.linked out (ap (λ r. r.blocks) e.put) refl refl in
    let lists = lists_are (record { region = c.put.new.self; heads = c.args.self.now.heads; previous = c.args.self.now.previous }) (watch_lists c.args.self.now) linked in
    let value = pool_value-put c.args.self.now (record { region = c.put.new.self; heads = c.args.self.now.heads; previous = c.args.self.now.previous }) c.watch.new.self c.in_ok-clause.clause c.args.literals.now c.requires.pool e.put lists c.watch.ensures.linked c.watch.ensures.keeps in
    IsPool-from c.watch.new.self _ (put_clause (pool_value c.args.self.now) c.in_ok-clause.clause c.args.literals.now) c.watch.ensures.linked value
    (IsSound-put (pool_value c.args.self.now) c.in_ok-clause.clause c.args.literals.now c.requires.pool.sound free.0 free.1 c.requires.below c.requires.different)
