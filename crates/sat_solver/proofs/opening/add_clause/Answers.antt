use Rattle.std.proofs.Common.{◌≡◌, ◌*◌, ◌<◌, ◌∙◌, ap, arith, length, refl, subst, sym}
use Rattle.std.specs.Prelude.{All}
use Rattle.search_steps.specs.Adding.{clause_of}
use Rattle.search_log.specs.declared.name.Name.TheVariants.{Ruled, Unnamed}
use Rattle.search_log.specs.Names.{name_at, with_name}
use Rattle.logged_search.proofs.Used.{used-free}
use Rattle.sat_solver.proofs.Added.{added-to, apart-once}
use Rattle.sat_solver.proofs.opening.add_clause.Goals as goal

pub add-requires-clause-below : goal.add-requires-clause-below
add-requires-clause-below c =
    subst (λ n. All (λ x. x < 2 * n) c.in-Some.numbers.now) (sym c.requires.opened.sized.variables) c.in-Some.ensures.numbers.numbered.below

pub add-requires-clause-different : goal.add-requires-clause-different
add-requires-clause-different c = apart-once c.in-Some.numbers.now c.in-Some.ensures.numbers.apart

pub name_rule-requires-clause-within : goal.name_rule-requires-clause-within
name_rule-requires-clause-within c =
    let tied = c.requires.opened.tied in
    let low = c.in_ok-added.ensures.fresh.0 in
    subst (λ k. k < length c.args.search.now.log.names) (sym c.handle_of.ensures) (omega (arith, low, tied.handles, tied.slots))

pub name_rule-requires-clause-unnamed : goal.name_rule-requires-clause-unnamed
name_rule-requires-clause-unnamed c =
    let tied = c.requires.opened.tied in
    let fresh = c.in_ok-added.ensures.fresh in
    subst (λ k. name_at c.args.search.now.log.names k ≡ Unnamed) (sym c.handle_of.ensures) (tied.free (clause_of c.in_ok-added.added) (subst (λ n. clause_of c.in_ok-added.added < n) (sym tied.handles) fresh.0) fresh.1)

pub overflow_sub-search : goal.overflow_sub-search
overflow_sub-search c =
    let free = used-free c.args.search.now.state.pool (clause_of c.in_ok-added.added) c.in_ok-added.ensures.fresh in
    omega (arith, free, c.requires.opened.sized.spare)

pub returns : goal.returns
returns c =
    let s = c.args.search.now in
    let free = used-free s.state.pool (clause_of c.in_ok-added.added) c.in_ok-added.ensures.fresh in
    added-to c.args.formula.now s _ c.args.place c.in_ok-added.added c.in-Some.numbers.now c.requires.opened c.in-Some.ensures.numbers c.in_ok-added.ensures.added c.in_ok-added.ensures.fresh c.in_ok-added.ensures.put
    c.in_ok-added.ensures.undecided c.in_ok-added.ensures.grown (c.name_rule.ensures ∙ ap (λ k. with_name s.log k (Ruled c.args.place)) c.handle_of.ensures) refl refl (omega (arith, free, c.requires.opened.sized.spare))
