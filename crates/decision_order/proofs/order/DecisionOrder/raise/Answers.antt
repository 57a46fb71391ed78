use Rattle.std.proofs.Common.{◌≡◌, ◌<◌, None, length, sym, ◌∙◌, ap, subst, arith}
use Rattle.std.proofs.lemmas.List.{get_or_read}
use Rattle.std.proofs.lemmas.List.Sorted.{length_permutation}
use Rattle.clause_pool.specs.PoolValue.{IsIn}
use Rattle.decision_order.specs.Waiting.{OrderValue, place_at}
use Rattle.decision_order.proofs.Placing.{few_waiting}
use Rattle.decision_order.proofs.Members.{IsIn-permuted, refilled}
use Rattle.decision_order.proofs.order.DecisionOrder.raise.Goals as goal

pub sift_up-requires-clause-from : goal.sift_up-requires-clause-from
sift_up-requires-clause-from c =
    let lt : c.args.variable < length c.self.inside.places.items = omega (arith, c.requires, ap (λ (v : OrderValue). v.variables) c.self.view_is, c.self.inside.places.ok.0) in
    let read : c.index.result.now ≡ place_at c.self.inside.places.items c.args.variable = get_or_read c.self.inside.places.items c.args.variable _ lt c.index.ensures None in
    omega (arith, (c.self.invariant.placed.back c.args.variable c.in-Some.place (sym read ∙ c.in-Some.is)).0, ap length c.deref_mut.ensures.value)

pub sift_up-requires-clause-small : goal.sift_up-requires-clause-small
sift_up-requires-clause-small c = omega (arith, ap length c.deref_mut.ensures.value, few_waiting c.self.inside.heap.items c.self.inside.places.items c.self.invariant.placed, c.self.invariant.few)

pub returns-in-Some-clause-others : goal.returns-in-Some-clause-others
returns-in-Some-clause-others c = λ x i.
    (let size = length_permutation c.deref_mut.result.now c.sift_up.new.heap c.sift_up.ensures.permuted in
    let items = refilled c.self.inside.heap.len c.sift_up.new.heap c.self.inside.heap.items (omega (arith, size, ap length c.deref_mut.ensures.value, c.self.inside.heap.ok.0)) in
    let was : IsIn x c.self.inside.heap.items = subst (λ (v : OrderValue). IsIn x v.waiting) (sym c.self.view_is) i in
    subst (IsIn x) (sym items) (IsIn-permuted c.deref_mut.result.now c.sift_up.new.heap x c.sift_up.ensures.permuted (subst (IsIn x) (sym c.deref_mut.ensures.value) was)))
