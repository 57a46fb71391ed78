use Rattle.std.proofs.Common.{◌≡◌, ◌<◌, length, slice_get, sym, ◌∙◌, ap, subst, arith}
use Rattle.clause_pool.specs.PoolValue.{list_at, rest_from}
use Rattle.propagation.proofs.Same.{IsSamePool-refl, IsSamePool-trans, IsExtended-refl, IsExtended-trans}
use Rattle.propagation.proofs.Visiting.{IsVisiting, visited, stopped, visiting_false}
use Rattle.propagation.proofs.Walk.{visiting_start, rest_head, rest_none, visiting_watched, visiting_next, visiting_left, visiting_end, step_known}
use Rattle.propagation.proofs.unit_propagation.visit_watches.Goals as goal

pub first_watch-at-requires : goal.first_watch-at-requires
first_watch-at-requires c =
    omega (arith, c.requires.fit.literals, c.opposite-literal.ensures.below c.args.trail.now.variables (step_known c.args.trail.now c.args.place c.step.result c.requires.fit.trail_sound c.step.ensures))

pub loop-at-init : goal.loop-at-init
loop-at-init c =
    let below : c.opposite-literal.result < length c.args.pool.now.watches = omega (arith, c.requires.fit.literals, c.opposite-literal.ensures.below c.args.trail.now.variables (step_known c.args.trail.now c.args.place c.step.result c.requires.fit.trail_sound c.step.ensures)) in
    record {
      rest = list_at c.args.pool.now.watches c.opposite-literal.result;
      at_rest = c.first_watch-at.ensures.first;
      visiting = visiting_start c.args.pool.now c.args.trail.now c.args.place c.opposite-literal.result c.step.result c.requires.fit c.requires.ready c.step.ensures c.opposite-literal.ensures.opposite below;
      same_pool = IsSamePool-refl c.args.pool.now;
      extended = IsExtended-refl c.args.trail.now;
    }

pub next_watch-next-requires : goal.next_watch-next-requires
next_watch-next-requires c =
    let i = c.loop-at.invariant in
    let head = rest_head i.rest c.in-Some.clause (sym i.at_rest ∙ c.in-Some.is) in
    let v = subst (λ r. IsVisiting c.loop-at.pool c.loop-at.trail c.args.place c.opposite-literal.result r) head.1 i.visiting in
    visiting_watched c.loop-at.pool c.loop-at.trail c.args.place c.opposite-literal.result c.in-Some.clause head.0 v

pub visit_clause-requires-clause-watching : goal.visit_clause-requires-clause-watching
visit_clause-requires-clause-watching c =
    let i = c.loop-at.invariant in
    let head = rest_head i.rest c.in-Some.clause (sym i.at_rest ∙ c.in-Some.is) in
    let v = subst (λ r. IsVisiting c.loop-at.pool c.loop-at.trail c.args.place c.opposite-literal.result r) head.1 i.visiting in
    visiting_watched c.loop-at.pool c.loop-at.trail c.args.place c.opposite-literal.result c.in-Some.clause head.0 v

pub visit_clause-requires-clause-is_false : goal.visit_clause-requires-clause-is_false
visit_clause-requires-clause-is_false c =
    visiting_false c.loop-at.pool c.loop-at.trail c.args.place c.opposite-literal.result c.loop-at.invariant.rest c.loop-at.invariant.visiting

pub returns-in-Conflict : goal.returns-in-Conflict
returns-in-Conflict c =
    let i = c.loop-at.invariant in
    let s = stopped c.loop-at.pool c.visit_clause.new.pool c.loop-at.trail c.visit_clause.new.trail c.in-Some.clause c.opposite-literal.result c.visit_clause.result i.visiting.fit c.visit_clause.ensures c.in-Conflict.is in
    record {
      fit = s.fit;
      ready = tt;
      conflict = s.conflict;
      same_pool = IsSamePool-trans c.args.pool.now c.loop-at.pool c.visit_clause.new.pool i.same_pool s.same_pool;
      extended = IsExtended-trans c.args.trail.now c.loop-at.trail c.visit_clause.new.trail i.extended s.extended;
    }

pub loop-at-smaller : goal.loop-at-smaller
loop-at-smaller c =
    let i = c.loop-at.invariant in
    let head = rest_head i.rest c.in-Some.clause (sym i.at_rest ∙ c.in-Some.is) in
    let v = subst (λ r. IsVisiting c.loop-at.pool c.loop-at.trail c.args.place c.opposite-literal.result r) head.1 i.visiting in
    let w = visited c.loop-at.pool c.visit_clause.new.pool c.loop-at.trail c.visit_clause.new.trail c.args.place c.opposite-literal.result c.in-Some.clause head.0 c.visit_clause.result v c.visit_clause.ensures c.in_default-visit_clause.not-Conflict in
    let next : c.next_watch-next.result ≡ slice_get head.0 0 = c.next_watch-next.ensures.next ∙ visiting_next c.loop-at.pool c.loop-at.trail c.args.place c.opposite-literal.result c.in-Some.clause head.0 v in
    let left : rest_from c.next_watch-next.result (list_at c.visit_clause.new.pool.watches c.opposite-literal.result) ≡ head.0 = ap (λ o. rest_from o (list_at c.visit_clause.new.pool.watches c.opposite-literal.result)) next ∙ visiting_left c.visit_clause.new.pool c.visit_clause.new.trail c.args.place c.opposite-literal.result head.0 w.visiting in
    let was : rest_from c.loop-at.at (list_at c.loop-at.pool.watches c.opposite-literal.result) ≡ i.rest = ap (λ o. rest_from o (list_at c.loop-at.pool.watches c.opposite-literal.result)) i.at_rest ∙ visiting_left c.loop-at.pool c.loop-at.trail c.args.place c.opposite-literal.result i.rest i.visiting in
    omega (arith, ap length left, ap length was, ap length head.1)

pub loop-at-preserved : goal.loop-at-preserved
loop-at-preserved c =
    let i = c.loop-at.invariant in
    let head = rest_head i.rest c.in-Some.clause (sym i.at_rest ∙ c.in-Some.is) in
    let v = subst (λ r. IsVisiting c.loop-at.pool c.loop-at.trail c.args.place c.opposite-literal.result r) head.1 i.visiting in
    let w = visited c.loop-at.pool c.visit_clause.new.pool c.loop-at.trail c.visit_clause.new.trail c.args.place c.opposite-literal.result c.in-Some.clause head.0 c.visit_clause.result v c.visit_clause.ensures c.in_default-visit_clause.not-Conflict in
    record {
      rest = head.0;
      at_rest = c.next_watch-next.ensures.next ∙ visiting_next c.loop-at.pool c.loop-at.trail c.args.place c.opposite-literal.result c.in-Some.clause head.0 v;
      visiting = w.visiting;
      same_pool = IsSamePool-trans c.args.pool.now c.loop-at.pool c.visit_clause.new.pool i.same_pool w.same_pool;
      extended = IsExtended-trans c.args.trail.now c.loop-at.trail c.visit_clause.new.trail i.extended w.extended;
    }

pub returns-clause-ready : goal.returns-clause-ready
returns-clause-ready c =
    let i = c.loop-at.invariant in
    let ended = rest_none i.rest (sym i.at_rest ∙ c.in_default.is) in
    visiting_end c.loop-at.pool c.loop-at.trail c.args.place c.opposite-literal.result (subst (λ r. IsVisiting c.loop-at.pool c.loop-at.trail c.args.place c.opposite-literal.result r) ended i.visiting)
