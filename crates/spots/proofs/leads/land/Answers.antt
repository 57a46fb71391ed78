-- All steps that land there.
use Rattle.std.proofs.Common.{◌≡◌, ◌↔◌, [], ◌∷◌, ◌++◌, true≢false, sym, ◌∙◌, subst, eqb-true}
use Rattle.std.proofs.lemmas.List.{nil_from_length}
use Rattle.spots.specs.Leading.{IsLandingOf}
use Rattle.spots.specs.declared.leads.Lead.{Lead}
use Rattle.spots.proofs.Landing.{first_of, lands_at_end, lands_once, lands_twice, pushed_one, pushed_two}
use Rattle.spots.proofs.leads.land.Goals as goal

pub returns-then-is_empty : goal.returns-then-is_empty
returns-then-is_empty c =
    let none = nil_from_length c.args.places.now (eqb-true _ _ (sym c.is_empty.ensures ∙ c.if-is_empty.true)) in
    pushed_one c.args.steps.now c.push.new.self c.ending.result (IsLandingOf c.args.program.now c.args.landing c.args.places.now) c.in_ok-push.ensures.ok
    (λ lead. subst (λ (l : Lead). (lead ≡ l) ↔ IsLandingOf c.args.program.now c.args.landing c.args.places.now lead) (sym c.ending.ensures)
    (lands_at_end c.args.program.now c.args.landing c.args.places.now none lead))

pub returns-in_ok-push-3 : goal.returns-in_ok-push-3
returns-in_ok-push-3 c =
    let first = first_of c.args.places.now (sym c.is_empty.ensures ∙ c.if-is_empty.false) in
    let both = lands_twice c.args.program.now c.args.landing c.args.places.now first.0 first.1 first.2 (c.asks.ensures.0 c.if-asks.true) in
    pushed_two c.args.steps.now c.push-2.new.self c.push-then-asks.new.self _ _
    (IsLandingOf c.args.program.now c.args.landing c.args.places.now)
    (subst (λ (l : Lead). c.push-2.new.self ≡ c.args.steps.now ++ l ∷ []) c.in_ok-standing.ensures c.in_ok-push-2.ensures.ok)
    (subst (λ (l : Lead). c.push-then-asks.new.self ≡ c.push-2.new.self ++ l ∷ []) c.in_ok-standing-2.ensures c.in_ok-push-3.ensures.ok)
    both

pub returns-else-asks : goal.returns-else-asks
returns-else-asks c =
    let first = first_of c.args.places.now (sym c.is_empty.ensures ∙ c.if-is_empty.false) in
    pushed_one c.args.steps.now c.push-2.new.self _
    (IsLandingOf c.args.program.now c.args.landing c.args.places.now)
    (subst (λ (l : Lead). c.push-2.new.self ≡ c.args.steps.now ++ l ∷ []) c.in_ok-standing.ensures c.in_ok-push-2.ensures.ok)
    (lands_once c.args.program.now c.args.landing c.args.places.now first.0 first.1 first.2 (λ asks. true≢false (sym (c.asks.ensures.1 asks) ∙ c.if-asks.false)))
