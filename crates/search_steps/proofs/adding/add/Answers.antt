use Rattle.std.proofs.Common.{inl, inr, length, get_or, refl, sym, subst, arith}
use Rattle.clause_pool.specs.PoolValue.{IsIn}
use Rattle.literals.specs.Propagation.{IsFalseIn}
use Rattle.trail.specs.Steps.{TrailValue, literals_of}
use Rattle.search_steps.specs.States.{IsState, IsGrown}
use Rattle.search_steps.proofs.Put.{state_put, state_put_one, only_one, first_conflict, zero_from, some_from, none_in}
use Rattle.search_steps.proofs.Keeping.{IsGrown-refl, IsGrown-clause}
use Rattle.search_steps.proofs.adding.add.Goals as goal

pub returns-then-literals-ge2-clause-added : goal.returns-then-literals-ge2-clause-added
returns-then-literals-ge2-clause-added c =
    state_put c.args.state.now c.put.new.self c.in_ok-clause.clause c.args.literals.now c.requires.state c.requires.undecided c.in_ok-clause.ensures.fresh c.in_ok-clause.ensures.put c.requires.below c.requires.different
    (λ few. absurd (omega (arith, few, c.if-literals-ge2.true)))

pub returns-then-is_empty-clause-added : goal.returns-then-is_empty-clause-added
returns-then-is_empty-clause-added c =
    first_conflict c.args.state.now c.put.new.self c.args.state.now.trail c.in_ok-clause.clause c.args.literals.now c.requires.state c.requires.undecided c.in_ok-clause.ensures.fresh c.in_ok-clause.ensures.put c.requires.below c.requires.different refl
    (λ x i. absurd (none_in x c.args.literals.now (zero_from (length c.args.literals.now) c.is_empty.result c.is_empty.ensures c.if-is_empty.true) i))

pub returns-then-make_true-clause-added : goal.returns-then-make_true-clause-added
returns-then-make_true-clause-added c =
    let ls = c.args.literals.now in
    let one = only_one ls c.if-literals-ge2.false (some_from (length ls) c.is_empty.result c.is_empty.ensures c.if-is_empty.false) in
    elim c.if-make_true.ensures [
      | inl kept ↦ subst (λ (v : TrailValue). IsState (record { pool = c.put.new.self; trail = v; order = c.args.state.now.order })) (sym kept.0)
          (state_put c.args.state.now c.put.new.self c.in_ok-clause.clause ls c.requires.state c.requires.undecided c.in_ok-clause.ensures.fresh c.in_ok-clause.ensures.put c.requires.below c.requires.different
          (λ few. record { literal = get_or ls 0 0; member = subst (IsIn (get_or ls 0 0)) (sym one) (inl refl); is_true = kept.1 }))
      | inr made ↦ state_put_one c.args.state.now c.put.new.self c.make_true.new.trail c.in_ok-clause.clause (get_or ls 0 0) ls c.requires.state c.requires.undecided c.in_ok-clause.ensures.fresh c.in_ok-clause.ensures.put c.requires.below c.requires.different one
          (c.requires.below 0 0 (some_from (length ls) c.is_empty.result c.is_empty.ensures c.if-is_empty.false)) made.0 made.1
    ]

pub returns-then-make_true-clause-grown : goal.returns-then-make_true-clause-grown
returns-then-make_true-clause-grown c = elim c.if-make_true.ensures [
  | inl kept ↦ subst (IsGrown c.args.state.now.trail) (sym kept.0) (IsGrown-refl c.args.state.now.trail)
  | inr made ↦ subst (IsGrown c.args.state.now.trail) (sym made.0) (IsGrown-clause c.args.state.now.trail (get_or c.args.literals.now 0 0) c.in_ok-clause.clause)
]

pub returns-else-make_true-clause-added : goal.returns-else-make_true-clause-added
returns-else-make_true-clause-added c =
    let ls = c.args.literals.now in
    let one = only_one ls c.if-literals-ge2.false (some_from (length ls) c.is_empty.result c.is_empty.ensures c.if-is_empty.false) in
    let f = c.if-make_true.ensures in
    first_conflict c.args.state.now c.put.new.self c.make_true.new.trail c.in_ok-clause.clause ls c.requires.state c.requires.undecided c.in_ok-clause.ensures.fresh c.in_ok-clause.ensures.put c.requires.below c.requires.different f.0
    (λ x i. elim (subst (IsIn x) one i) [ inl same ↦ subst (IsFalseIn (literals_of c.args.state.now.trail.steps)) (sym same) f.1 | inr none ↦ absurd none ])
