use Rattle.std.proofs.Common.{◌≡◌, ◌<◌, [], ◌∷◌, ◌++◌, None, length, sym, ◌∙◌, ap, subst, arith}
use Rattle.std.proofs.lemmas.List.{get_or_read}
use Rattle.std.proofs.lemmas.List.Sorted.{length_permutation}
use Rattle.clause_pool.specs.PoolValue.{IsIn}
use Rattle.literals.proofs.Members.{IsIn-place}
use Rattle.decision_order.specs.Waiting.{OrderValue, place_at}
use Rattle.decision_order.proofs.Placing.{IsPlaced-push, few_waiting, fewer_waiting, length-end}
use Rattle.decision_order.proofs.Members.{IsIn-permuted, refilled, IsIn-end, IsIn-front, none_from, some_from}
use Rattle.decision_order.proofs.order.DecisionOrder.put_back.Goals as goal

pub returns-then-is_some-clause-waits : goal.returns-then-is_some-clause-waits
returns-then-is_some-clause-waits c =
    let lt : c.args.variable < length c.self.inside.places.items = omega (arith, c.requires, ap (λ (v : OrderValue). v.variables) c.self.view_is, c.self.inside.places.ok.0) in
    let read : c.index.result.now ≡ place_at c.self.inside.places.items c.args.variable = get_or_read c.self.inside.places.items c.args.variable _ lt c.index.ensures None in
    let some = some_from c.index.result.now (sym c.is_some.ensures ∙ c.if-is_some.true) in
    let b = c.self.invariant.placed.back c.args.variable some.0 (sym read ∙ some.1) in
    subst (λ x. IsIn x c.self.inside.heap.items) b.1 (IsIn-place c.self.inside.heap.items some.0 b.0)

pub overflow_cast-place : goal.overflow_cast-place
overflow_cast-place c = omega (arith, few_waiting c.self.inside.heap.items c.self.inside.places.items c.self.invariant.placed, c.self.invariant.few, c.len-place.ensures, c.self.inside.heap.ok.0)

pub push_reserved-requires : goal.push_reserved-requires
push_reserved-requires c =
    let lt : c.args.variable < length c.self.inside.places.items = omega (arith, c.requires, ap (λ (v : OrderValue). v.variables) c.self.view_is, c.self.inside.places.ok.0) in
    let read : c.index.result.now ≡ place_at c.self.inside.places.items c.args.variable = get_or_read c.self.inside.places.items c.args.variable _ lt c.index.ensures None in
    let none : place_at c.self.inside.places.items c.args.variable ≡ None = sym read ∙ none_from c.index.result.now (sym c.is_some.ensures ∙ c.if-is_some.false) in
    omega (arith, fewer_waiting c.self.inside.heap.items c.args.variable c.self.inside.places.items c.self.invariant.placed none lt, c.self.invariant.room, c.self.inside.heap.ok.0)

pub sift_up-requires-clause-placed : goal.sift_up-requires-clause-placed
sift_up-requires-clause-placed c =
    let lt : c.args.variable < length c.self.inside.places.items = omega (arith, c.requires, ap (λ (v : OrderValue). v.variables) c.self.view_is, c.self.inside.places.ok.0) in
    let read : c.index.result.now ≡ place_at c.self.inside.places.items c.args.variable = get_or_read c.self.inside.places.items c.args.variable _ lt c.index.ensures None in
    let none : place_at c.self.inside.places.items c.args.variable ≡ None = sym read ∙ none_from c.index.result.now (sym c.is_some.ensures ∙ c.if-is_some.false) in
    let p = IsPlaced-push c.self.inside.heap.items c.args.variable c.self.inside.places.items c.self.invariant.placed none lt in
    let at : c.len-place.result ≡ length c.self.inside.heap.items = omega (arith, c.len-place.ensures, c.self.inside.heap.ok.0) in
    rw (c.deref_mut.ensures.value, c.deref_mut-2.ensures.value, c.push_reserved.ensures.items, at) p

pub sift_up-requires-clause-small : goal.sift_up-requires-clause-small
sift_up-requires-clause-small c =
    let lt : c.args.variable < length c.self.inside.places.items = omega (arith, c.requires, ap (λ (v : OrderValue). v.variables) c.self.view_is, c.self.inside.places.ok.0) in
    let read : c.index.result.now ≡ place_at c.self.inside.places.items c.args.variable = get_or_read c.self.inside.places.items c.args.variable _ lt c.index.ensures None in
    let none : place_at c.self.inside.places.items c.args.variable ≡ None = sym read ∙ none_from c.index.result.now (sym c.is_some.ensures ∙ c.if-is_some.false) in
    omega (arith, fewer_waiting c.self.inside.heap.items c.args.variable c.self.inside.places.items c.self.invariant.placed none lt, c.self.invariant.few, ap length c.deref_mut.ensures.value, ap length c.push_reserved.ensures.items, length-end c.self.inside.heap.items c.args.variable)

pub returns-clause-waits : goal.returns-clause-waits
returns-clause-waits c =
    let size = length_permutation c.deref_mut.result.now c.sift_up.new.heap c.sift_up.ensures.permuted in
    let items = refilled c.push_reserved.new.self.len c.sift_up.new.heap c.push_reserved.new.self.items (omega (arith, size, ap length c.deref_mut.ensures.value, c.push_reserved.new.self.ok.0)) in
    let now : c.deref_mut.result.now ≡ c.self.inside.heap.items ++ c.args.variable ∷ [] = c.deref_mut.ensures.value ∙ c.push_reserved.ensures.items in
    subst (IsIn c.args.variable) (sym items) (IsIn-permuted c.deref_mut.result.now c.sift_up.new.heap c.args.variable c.sift_up.ensures.permuted (subst (IsIn c.args.variable) (sym now) (IsIn-end c.self.inside.heap.items c.args.variable)))

pub returns-clause-others : goal.returns-clause-others
returns-clause-others c = λ x i.
    (let size = length_permutation c.deref_mut.result.now c.sift_up.new.heap c.sift_up.ensures.permuted in
    let items = refilled c.push_reserved.new.self.len c.sift_up.new.heap c.push_reserved.new.self.items (omega (arith, size, ap length c.deref_mut.ensures.value, c.push_reserved.new.self.ok.0)) in
    let now : c.deref_mut.result.now ≡ c.self.inside.heap.items ++ c.args.variable ∷ [] = c.deref_mut.ensures.value ∙ c.push_reserved.ensures.items in
    let was : IsIn x c.self.inside.heap.items = subst (λ (v : OrderValue). IsIn x v.waiting) (sym c.self.view_is) i in
    subst (IsIn x) (sym items) (IsIn-permuted c.deref_mut.result.now c.sift_up.new.heap x c.sift_up.ensures.permuted (subst (IsIn x) (sym now) (IsIn-front c.self.inside.heap.items (c.args.variable ∷ []) x was))))
