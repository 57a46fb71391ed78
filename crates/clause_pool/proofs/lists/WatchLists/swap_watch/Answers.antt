use Rattle.std.proofs.Common.{◌≡◌, ◌<◌, Some, length, get_or, refl, sym, ◌∙◌, ap, subst}
use Rattle.clause_pool.specs.PoolValue.{IsIn, IsWatching, or_empty, list_at, place_of, with_first, without_in, swap_watched}
use Rattle.clause_pool.specs.WatchLists.{clauses_of, side_in, watch_lists, pool_value, IsLinkedAs}
use Rattle.clause_pool.proofs.ListSteps.{clause_in_range}
use Rattle.clause_pool.proofs.Linked.{lists_are}
use Rattle.clause_pool.proofs.Swapped.{IsSound-swap}
use Rattle.clause_pool.proofs.PoolLinks.{IsPool-from, literals_of-clauses, place_on-side, pool_value-swap, swap_step, watched_in_range}
use Rattle.clause_pool.proofs.lists.WatchLists.swap_watch.Goals as goal

pub unlink-requires-clause-inside : goal.unlink-requires-clause-inside
unlink-requires-clause-inside c =
    (c.requires.pool.sound.watching c.args.watched c.args.clause (watched_in_range c.args.self.now c.args.clause c.args.watched c.requires.pool c.requires.watching)).1 c.requires.watching

pub link_first-requires-clause-linked : goal.link_first-requires-clause-linked
link_first-requires-clause-linked c =
    let w = c.requires.watching in
    let ls = w.literals in
    let high : c.args.at < length ls = subst (λ o. c.args.at < length (or_empty o)) w.found c.requires.in_range in
    let lw : c.args.watched < length (watch_lists c.args.self.now) = watched_in_range c.args.self.now c.args.clause c.args.watched c.requires.pool w in
    let side : side_in ls c.args.watched ≡ Some c.side.result = ap (λ o. side_in (or_empty o) c.args.watched) (sym w.found) ∙ c.side.ensures in
    let at_place : c.place-place.result ≡ place_of ls c.args.watched = c.place-place.ensures ∙ place_on-side ls c.args.watched c.side.result w.watched side in
    let step = swap_step c.args.self.now c.unlink.new.self (record { region = c.swap_literals.new.self; heads = c.unlink.new.self.heads; previous = c.unlink.new.self.previous }) c.args.clause c.args.watched c.args.at c.place-place.result ls c.requires.pool lw w.found w.watched c.requires.behind high at_place c.unlink.ensures.linked c.unlink.ensures.keeps c.swap_literals.ensures refl refl in
    let lists = lists_are (record { region = c.swap_literals.new.self; heads = c.unlink.new.self.heads; previous = c.unlink.new.self.previous }) (without_in (watch_lists c.args.self.now) c.args.watched c.args.clause) step.linked in
    let read : get_or c.literals.result.now c.args.at 0 ≡ get_or ls c.args.at 0 = ap (λ xs. get_or xs c.args.at 0) (c.literals.ensures ∙ literals_of-clauses c.args.self.now.region.blocks c.args.clause ∙ ap or_empty w.found) in
    subst (IsLinkedAs (record { region = c.swap_literals.new.self; heads = c.unlink.new.self.heads; previous = c.unlink.new.self.previous })) (sym lists) step.linked

pub link_first-requires-clause-watching : goal.link_first-requires-clause-watching
link_first-requires-clause-watching c =
    let w = c.requires.watching in
    let ls = w.literals in
    let high : c.args.at < length ls = subst (λ o. c.args.at < length (or_empty o)) w.found c.requires.in_range in
    let lw : c.args.watched < length (watch_lists c.args.self.now) = watched_in_range c.args.self.now c.args.clause c.args.watched c.requires.pool w in
    let side : side_in ls c.args.watched ≡ Some c.side.result = ap (λ o. side_in (or_empty o) c.args.watched) (sym w.found) ∙ c.side.ensures in
    let at_place : c.place-place.result ≡ place_of ls c.args.watched = c.place-place.ensures ∙ place_on-side ls c.args.watched c.side.result w.watched side in
    let step = swap_step c.args.self.now c.unlink.new.self (record { region = c.swap_literals.new.self; heads = c.unlink.new.self.heads; previous = c.unlink.new.self.previous }) c.args.clause c.args.watched c.args.at c.place-place.result ls c.requires.pool lw w.found w.watched c.requires.behind high at_place c.unlink.ensures.linked c.unlink.ensures.keeps c.swap_literals.ensures refl refl in
    let lists = lists_are (record { region = c.swap_literals.new.self; heads = c.unlink.new.self.heads; previous = c.unlink.new.self.previous }) (without_in (watch_lists c.args.self.now) c.args.watched c.args.clause) step.linked in
    let read : get_or c.literals.result.now c.args.at 0 ≡ get_or ls c.args.at 0 = ap (λ xs. get_or xs c.args.at 0) (c.literals.ensures ∙ literals_of-clauses c.args.self.now.region.blocks c.args.clause ∙ ap or_empty w.found) in
    subst (λ l. IsWatching (clauses_of c.swap_literals.new.self.blocks) l c.args.clause) (sym read) step.watching

pub link_first-requires-clause-outside : goal.link_first-requires-clause-outside
link_first-requires-clause-outside c = λ i.
    let w = c.requires.watching in
    let ls = w.literals in
    let high : c.args.at < length ls = subst (λ o. c.args.at < length (or_empty o)) w.found c.requires.in_range in
    let lw : c.args.watched < length (watch_lists c.args.self.now) = watched_in_range c.args.self.now c.args.clause c.args.watched c.requires.pool w in
    let side : side_in ls c.args.watched ≡ Some c.side.result = ap (λ o. side_in (or_empty o) c.args.watched) (sym w.found) ∙ c.side.ensures in
    let at_place : c.place-place.result ≡ place_of ls c.args.watched = c.place-place.ensures ∙ place_on-side ls c.args.watched c.side.result w.watched side in
    let step = swap_step c.args.self.now c.unlink.new.self (record { region = c.swap_literals.new.self; heads = c.unlink.new.self.heads; previous = c.unlink.new.self.previous }) c.args.clause c.args.watched c.args.at c.place-place.result ls c.requires.pool lw w.found w.watched c.requires.behind high at_place c.unlink.ensures.linked c.unlink.ensures.keeps c.swap_literals.ensures refl refl in
    let lists = lists_are (record { region = c.swap_literals.new.self; heads = c.unlink.new.self.heads; previous = c.unlink.new.self.previous }) (without_in (watch_lists c.args.self.now) c.args.watched c.args.clause) step.linked in
    let read : get_or c.literals.result.now c.args.at 0 ≡ get_or ls c.args.at 0 = ap (λ xs. get_or xs c.args.at 0) (c.literals.ensures ∙ literals_of-clauses c.args.self.now.region.blocks c.args.clause ∙ ap or_empty w.found) in
    step.outside (subst (λ V. IsIn c.args.clause (list_at V (get_or ls c.args.at 0))) lists
    (subst (λ l. IsIn c.args.clause (list_at (watch_lists (record { region = c.swap_literals.new.self; heads = c.unlink.new.self.heads; previous = c.unlink.new.self.previous })) l)) read i))

pub returns-clause-swapped : goal.returns-clause-swapped
returns-clause-swapped c =
    let w = c.requires.watching in
    let ls = w.literals in
    let high : c.args.at < length ls = subst (λ o. c.args.at < length (or_empty o)) w.found c.requires.in_range in
    let lw : c.args.watched < length (watch_lists c.args.self.now) = watched_in_range c.args.self.now c.args.clause c.args.watched c.requires.pool w in
    let side : side_in ls c.args.watched ≡ Some c.side.result = ap (λ o. side_in (or_empty o) c.args.watched) (sym w.found) ∙ c.side.ensures in
    let at_place : c.place-place.result ≡ place_of ls c.args.watched = c.place-place.ensures ∙ place_on-side ls c.args.watched c.side.result w.watched side in
    let step = swap_step c.args.self.now c.unlink.new.self (record { region = c.swap_literals.new.self; heads = c.unlink.new.self.heads; previous = c.unlink.new.self.previous }) c.args.clause c.args.watched c.args.at c.place-place.result ls c.requires.pool lw w.found w.watched c.requires.behind high at_place c.unlink.ensures.linked c.unlink.ensures.keeps c.swap_literals.ensures refl refl in
    let lists = lists_are (record { region = c.swap_literals.new.self; heads = c.unlink.new.self.heads; previous = c.unlink.new.self.previous }) (without_in (watch_lists c.args.self.now) c.args.watched c.args.clause) step.linked in
    let read : get_or c.literals.result.now c.args.at 0 ≡ get_or ls c.args.at 0 = ap (λ xs. get_or xs c.args.at 0) (c.literals.ensures ∙ literals_of-clauses c.args.self.now.region.blocks c.args.clause ∙ ap or_empty w.found) in
    let is = subst (λ l. IsLinkedAs c.link_first.new.self (with_first (watch_lists (record { region = c.swap_literals.new.self; heads = c.unlink.new.self.heads; previous = c.unlink.new.self.previous })) l c.args.clause)) read c.link_first.ensures.linked in
    let value = pool_value-swap c.args.self.now (record { region = c.swap_literals.new.self; heads = c.unlink.new.self.heads; previous = c.unlink.new.self.previous }) c.link_first.new.self c.args.clause c.args.watched c.args.at ls w.found step
    (ap (λ r. r.used) c.swap_literals.ensures ∙ c.unlink.ensures.keeps.used) (ap (λ r. r.words) c.swap_literals.ensures ∙ c.unlink.ensures.keeps.words) is c.link_first.ensures.keeps in
    value

pub returns-clause-pool : goal.returns-clause-pool
returns-clause-pool c =
    let w = c.requires.watching in
    let ls = w.literals in
    let high : c.args.at < length ls = subst (λ o. c.args.at < length (or_empty o)) w.found c.requires.in_range in
    let lw : c.args.watched < length (watch_lists c.args.self.now) = watched_in_range c.args.self.now c.args.clause c.args.watched c.requires.pool w in
    let side : side_in ls c.args.watched ≡ Some c.side.result = ap (λ o. side_in (or_empty o) c.args.watched) (sym w.found) ∙ c.side.ensures in
    let at_place : c.place-place.result ≡ place_of ls c.args.watched = c.place-place.ensures ∙ place_on-side ls c.args.watched c.side.result w.watched side in
    let step = swap_step c.args.self.now c.unlink.new.self (record { region = c.swap_literals.new.self; heads = c.unlink.new.self.heads; previous = c.unlink.new.self.previous }) c.args.clause c.args.watched c.args.at c.place-place.result ls c.requires.pool lw w.found w.watched c.requires.behind high at_place c.unlink.ensures.linked c.unlink.ensures.keeps c.swap_literals.ensures refl refl in
    let lists = lists_are (record { region = c.swap_literals.new.self; heads = c.unlink.new.self.heads; previous = c.unlink.new.self.previous }) (without_in (watch_lists c.args.self.now) c.args.watched c.args.clause) step.linked in
    let read : get_or c.literals.result.now c.args.at 0 ≡ get_or ls c.args.at 0 = ap (λ xs. get_or xs c.args.at 0) (c.literals.ensures ∙ literals_of-clauses c.args.self.now.region.blocks c.args.clause ∙ ap or_empty w.found) in
    let is = subst (λ l. IsLinkedAs c.link_first.new.self (with_first (watch_lists (record { region = c.swap_literals.new.self; heads = c.unlink.new.self.heads; previous = c.unlink.new.self.previous })) l c.args.clause)) read c.link_first.ensures.linked in
    let value = pool_value-swap c.args.self.now (record { region = c.swap_literals.new.self; heads = c.unlink.new.self.heads; previous = c.unlink.new.self.previous }) c.link_first.new.self c.args.clause c.args.watched c.args.at ls w.found step
    (ap (λ r. r.used) c.swap_literals.ensures ∙ c.unlink.ensures.keeps.used) (ap (λ r. r.words) c.swap_literals.ensures ∙ c.unlink.ensures.keeps.words) is c.link_first.ensures.keeps in
    IsPool-from c.link_first.new.self _ (swap_watched (pool_value c.args.self.now) c.args.clause c.args.watched c.args.at) c.link_first.ensures.linked value
    (IsSound-swap (pool_value c.args.self.now) c.args.clause c.args.watched c.args.at ls c.requires.pool.sound
    (clause_in_range (clauses_of c.args.self.now.region.blocks) c.args.clause ls w.found) w.found w.watched c.requires.behind high)
