use Rattle.std.proofs.Common.{◌<◌, length, set, refl, ◌∙◌, ap, arith, get_or}
use Rattle.std.proofs.lemmas.List.{get_or_read}
use Rattle.clause_pool.specs.WatchLists.{no_previous}
use Rattle.clause_pool.proofs.ListSteps.{in_range_from_clause, SetsBefore-clause}
use Rattle.clause_pool.proofs.lists.WatchLists.set_before.Goals as goal

pub index-requires : goal.index-requires
index-requires c =
    let w = c.requires.watching c.in-Some.clause c.in-Some.is in
    omega (arith, in_range_from_clause c.args.self.now.region.blocks c.in-Some.clause w.literals w.found, c.index-at.ensures.number, c.requires.previous_fit, c.args.self.now.previous.ok.0)

pub index_mut-requires : goal.index_mut-requires
index_mut-requires c =
    let w = c.requires.watching c.in-Some.clause c.in-Some.is in
    omega (arith, in_range_from_clause c.args.self.now.region.blocks c.in-Some.clause w.literals w.found, c.index-at.ensures.number, c.requires.previous_fit, c.args.self.now.previous.ok.0)

pub returns : goal.returns
returns c =
    let w = c.requires.watching c.in-Some.clause c.in-Some.is in
    let old = c.args.self.now in
    let lt : c.in-Some.clause < length old.previous.items = omega (arith, in_range_from_clause old.region.blocks c.in-Some.clause w.literals w.found, c.requires.previous_fit) in
    let at = c.index-at.ensures.number in
    let read = get_or_read old.previous.items c.index-at.result _ (omega arith) c.index.ensures no_previous in
    SetsBefore-clause old _ c.args.literal c.in-Some.clause c.side-side.result c.args.link c.args.before c.index.result.now c.in-Some.is lt c.side-side.ensures
    (read ∙ ap (λ i. get_or old.previous.items i no_previous) at) refl refl
    (ap (λ i. set old.previous.items i c.before_set.result) at ∙ ap (set old.previous.items c.in-Some.clause) c.before_set.ensures)
