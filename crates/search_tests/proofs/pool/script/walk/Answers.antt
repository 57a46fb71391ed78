use Rattle.std.proofs.Common.{◌≡◌, ◌<◌, Some, length, sym, ◌∙◌, ap, subst}
use Rattle.clause_pool.specs.PoolValue.{IsIn, IsWatching, list_at, rest_from, following}
use Rattle.clause_pool.proofs.Walks.{IsIn-first, IsIn-following, rest_from-shorter}
use Rattle.clause_pool.proofs.PoolLinks.{is_some_clause}
use Rattle.search_tests.proofs.pool.script.walk.Goals as goal

pub loop-at-init : goal.loop-at-init
loop-at-init c = record {
  sound = c.first_watch-at.ensures.sound;
  inside = λ k e. IsIn-first (list_at c.args.pool.now.watches c.args.literal) k (sym c.first_watch-at.ensures.first ∙ e);
}

pub lits-requires : goal.lits-requires
lits-requires c =
    let i = c.loop-at.invariant in
    let w = (i.sound.watching c.args.literal c.in-Some.clause c.requires).0 (i.inside c.in-Some.clause c.in-Some.is) in
    is_some_clause c.args.pool.now.clauses c.in-Some.clause w.literals w.found

pub loop-at-smaller : goal.loop-at-smaller
loop-at-smaller c =
    let i = c.loop-at.invariant in
    let list = list_at c.args.pool.now.watches c.args.literal in
    subst (λ o. length (rest_from o list) < length (rest_from c.loop-at.at list)) (sym c.next_watch-at.ensures.next)
    (subst (λ o. length (rest_from (following c.in-Some.clause list) list) < length (rest_from o list)) (sym c.in-Some.is)
    (rest_from-shorter list c.in-Some.clause (i.sound.once c.args.literal c.requires) (i.inside c.in-Some.clause c.in-Some.is)))

pub loop-at-preserved : goal.loop-at-preserved
loop-at-preserved c = record {
  sound = c.loop-at.invariant.sound;
  inside = λ k e. IsIn-following (list_at c.args.pool.now.watches c.args.literal) c.in-Some.clause k (sym c.next_watch-at.ensures.next ∙ e);
}
