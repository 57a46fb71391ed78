use Rattle.std.proofs.Common.{◌≡◌, ◌<◌, [], ◌∷◌, ◌++◌, length, sym, ◌∙◌, ap, subst, arith}
use Rattle.std.proofs.lemmas.List.Sorted.{length_permutation, IsPermutation-sym}
use Rattle.clause_pool.specs.PoolValue.{IsIn}
use Rattle.decision_order.specs.Waiting.{OrderValue, IsPlaced}
use Rattle.decision_order.proofs.Placing.{IsPlaced-pop, few_waiting, length-end, get_or-end}
use Rattle.decision_order.proofs.Members.{IsIn-permuted, refilled, IsIn-end, IsIn-but_end}
use Rattle.decision_order.proofs.order.DecisionOrder.next.Goals as goal

pub swap-requires-clause-small : goal.swap-requires-clause-small
swap-requires-clause-small c = omega (arith, ap length c.deref_mut.ensures.value, few_waiting c.self.inside.heap.items c.self.inside.places.items c.self.invariant.placed, c.self.invariant.few)

pub index_mut-requires : goal.index_mut-requires
index_mut-requires c =
    let size = length_permutation c.deref_mut.result.now c.swap.new.heap c.swap.ensures.permuted in
    let items = refilled c.self.inside.heap.len c.swap.new.heap c.self.inside.heap.items (omega (arith, size, ap length c.deref_mut.ensures.value, c.self.inside.heap.ok.0)) in
    let heap : c.swap.new.heap ≡ c.pop.new.self.items ++ c.in_ok-top.top ∷ [] = sym items ∙ c.in_ok-top.ensures.items in
    let length_places : length c.swap.new.places ≡ length c.self.inside.places.items = omega (arith, c.swap.auto.places, ap length c.deref_mut-2.ensures.value) in
    let places = refilled c.self.inside.places.len c.swap.new.places c.self.inside.places.items (omega (arith, length_places, c.self.inside.places.ok.0)) in
    let placed = subst (λ h. IsPlaced h c.swap.new.places) heap c.swap.ensures.placed in
    let top_below : c.in_ok-top.top < length c.swap.new.places = subst (λ x. x < length c.swap.new.places) (get_or-end c.pop.new.self.items c.in_ok-top.top) (placed.below (length c.pop.new.self.items) (omega (arith, length-end c.pop.new.self.items c.in_ok-top.top))) in
    omega (arith, top_below, length_places, c.self.inside.places.ok.0)

pub sift_down-requires-clause-placed : goal.sift_down-requires-clause-placed
sift_down-requires-clause-placed c =
    let size = length_permutation c.deref_mut.result.now c.swap.new.heap c.swap.ensures.permuted in
    let items = refilled c.self.inside.heap.len c.swap.new.heap c.self.inside.heap.items (omega (arith, size, ap length c.deref_mut.ensures.value, c.self.inside.heap.ok.0)) in
    let heap : c.swap.new.heap ≡ c.pop.new.self.items ++ c.in_ok-top.top ∷ [] = sym items ∙ c.in_ok-top.ensures.items in
    let length_places : length c.swap.new.places ≡ length c.self.inside.places.items = omega (arith, c.swap.auto.places, ap length c.deref_mut-2.ensures.value) in
    let places = refilled c.self.inside.places.len c.swap.new.places c.self.inside.places.items (omega (arith, length_places, c.self.inside.places.ok.0)) in
    let placed = subst (λ h. IsPlaced h c.swap.new.places) heap c.swap.ensures.placed in
    let top_below : c.in_ok-top.top < length c.swap.new.places = subst (λ x. x < length c.swap.new.places) (get_or-end c.pop.new.self.items c.in_ok-top.top) (placed.below (length c.pop.new.self.items) (omega (arith, length-end c.pop.new.self.items c.in_ok-top.top))) in
    rw (c.deref_mut-3.ensures.value, c.deref_mut-4.ensures.value, places) (IsPlaced-pop c.pop.new.self.items c.in_ok-top.top c.swap.new.places placed)

pub sift_down-requires-clause-small : goal.sift_down-requires-clause-small
sift_down-requires-clause-small c =
    let size = length_permutation c.deref_mut.result.now c.swap.new.heap c.swap.ensures.permuted in
    let items = refilled c.self.inside.heap.len c.swap.new.heap c.self.inside.heap.items (omega (arith, size, ap length c.deref_mut.ensures.value, c.self.inside.heap.ok.0)) in
    let heap : c.swap.new.heap ≡ c.pop.new.self.items ++ c.in_ok-top.top ∷ [] = sym items ∙ c.in_ok-top.ensures.items in
    let length_places : length c.swap.new.places ≡ length c.self.inside.places.items = omega (arith, c.swap.auto.places, ap length c.deref_mut-2.ensures.value) in
    let places = refilled c.self.inside.places.len c.swap.new.places c.self.inside.places.items (omega (arith, length_places, c.self.inside.places.ok.0)) in
    let placed = subst (λ h. IsPlaced h c.swap.new.places) heap c.swap.ensures.placed in
    let top_below : c.in_ok-top.top < length c.swap.new.places = subst (λ x. x < length c.swap.new.places) (get_or-end c.pop.new.self.items c.in_ok-top.top) (placed.below (length c.pop.new.self.items) (omega (arith, length-end c.pop.new.self.items c.in_ok-top.top))) in
    omega (arith, ap length c.deref_mut-3.ensures.value, ap length heap, length-end c.pop.new.self.items c.in_ok-top.top, size, ap length c.deref_mut.ensures.value, few_waiting c.self.inside.heap.items c.self.inside.places.items c.self.invariant.placed, c.self.invariant.few)

pub returns-clause-waited : goal.returns-clause-waited
returns-clause-waited c =
    let size = length_permutation c.deref_mut.result.now c.swap.new.heap c.swap.ensures.permuted in
    let items = refilled c.self.inside.heap.len c.swap.new.heap c.self.inside.heap.items (omega (arith, size, ap length c.deref_mut.ensures.value, c.self.inside.heap.ok.0)) in
    let heap : c.swap.new.heap ≡ c.pop.new.self.items ++ c.in_ok-top.top ∷ [] = sym items ∙ c.in_ok-top.ensures.items in
    let length_places : length c.swap.new.places ≡ length c.self.inside.places.items = omega (arith, c.swap.auto.places, ap length c.deref_mut-2.ensures.value) in
    let places = refilled c.self.inside.places.len c.swap.new.places c.self.inside.places.items (omega (arith, length_places, c.self.inside.places.ok.0)) in
    let placed = subst (λ h. IsPlaced h c.swap.new.places) heap c.swap.ensures.placed in
    let top_below : c.in_ok-top.top < length c.swap.new.places = subst (λ x. x < length c.swap.new.places) (get_or-end c.pop.new.self.items c.in_ok-top.top) (placed.below (length c.pop.new.self.items) (omega (arith, length-end c.pop.new.self.items c.in_ok-top.top))) in
    let in_swapped : IsIn c.in_ok-top.top c.swap.new.heap = subst (IsIn c.in_ok-top.top) (sym heap) (IsIn-end c.pop.new.self.items c.in_ok-top.top) in
    let in_old : IsIn c.in_ok-top.top c.deref_mut.result.now = IsIn-permuted c.swap.new.heap c.deref_mut.result.now c.in_ok-top.top (IsPermutation-sym c.deref_mut.result.now c.swap.new.heap c.swap.ensures.permuted) in_swapped in
    subst (λ (v : OrderValue). IsIn c.in_ok-top.top v.waiting) c.self.view_is (subst (IsIn c.in_ok-top.top) c.deref_mut.ensures.value in_old)

pub returns-clause-below : goal.returns-clause-below
returns-clause-below c =
    let size = length_permutation c.deref_mut.result.now c.swap.new.heap c.swap.ensures.permuted in
    let items = refilled c.self.inside.heap.len c.swap.new.heap c.self.inside.heap.items (omega (arith, size, ap length c.deref_mut.ensures.value, c.self.inside.heap.ok.0)) in
    let heap : c.swap.new.heap ≡ c.pop.new.self.items ++ c.in_ok-top.top ∷ [] = sym items ∙ c.in_ok-top.ensures.items in
    let length_places : length c.swap.new.places ≡ length c.self.inside.places.items = omega (arith, c.swap.auto.places, ap length c.deref_mut-2.ensures.value) in
    let places = refilled c.self.inside.places.len c.swap.new.places c.self.inside.places.items (omega (arith, length_places, c.self.inside.places.ok.0)) in
    let placed = subst (λ h. IsPlaced h c.swap.new.places) heap c.swap.ensures.placed in
    let top_below : c.in_ok-top.top < length c.swap.new.places = subst (λ x. x < length c.swap.new.places) (get_or-end c.pop.new.self.items c.in_ok-top.top) (placed.below (length c.pop.new.self.items) (omega (arith, length-end c.pop.new.self.items c.in_ok-top.top))) in
    omega (arith, top_below, length_places, c.self.inside.places.ok.0, ap (λ (v : OrderValue). v.variables) c.self.view_is)

pub returns-clause-others : goal.returns-clause-others
returns-clause-others c = λ x i ne.
    (let size = length_permutation c.deref_mut.result.now c.swap.new.heap c.swap.ensures.permuted in
    let items = refilled c.self.inside.heap.len c.swap.new.heap c.self.inside.heap.items (omega (arith, size, ap length c.deref_mut.ensures.value, c.self.inside.heap.ok.0)) in
    let heap : c.swap.new.heap ≡ c.pop.new.self.items ++ c.in_ok-top.top ∷ [] = sym items ∙ c.in_ok-top.ensures.items in
    let length_places : length c.swap.new.places ≡ length c.self.inside.places.items = omega (arith, c.swap.auto.places, ap length c.deref_mut-2.ensures.value) in
    let places = refilled c.self.inside.places.len c.swap.new.places c.self.inside.places.items (omega (arith, length_places, c.self.inside.places.ok.0)) in
    let placed = subst (λ h. IsPlaced h c.swap.new.places) heap c.swap.ensures.placed in
    let top_below : c.in_ok-top.top < length c.swap.new.places = subst (λ x. x < length c.swap.new.places) (get_or-end c.pop.new.self.items c.in_ok-top.top) (placed.below (length c.pop.new.self.items) (omega (arith, length-end c.pop.new.self.items c.in_ok-top.top))) in
    let was : IsIn x c.self.inside.heap.items = subst (λ (v : OrderValue). IsIn x v.waiting) (sym c.self.view_is) i in
    let in_swapped : IsIn x c.swap.new.heap = IsIn-permuted c.deref_mut.result.now c.swap.new.heap x c.swap.ensures.permuted (subst (IsIn x) (sym c.deref_mut.ensures.value) was) in
    let in_popped : IsIn x c.pop.new.self.items = IsIn-but_end c.pop.new.self.items c.in_ok-top.top x (subst (IsIn x) heap in_swapped) ne in
    let size_down = length_permutation c.deref_mut-3.result.now c.sift_down.new.heap c.sift_down.ensures.permuted in
    let items_down = refilled c.pop.new.self.len c.sift_down.new.heap c.pop.new.self.items (omega (arith, size_down, ap length c.deref_mut-3.ensures.value, c.pop.new.self.ok.0)) in
    subst (IsIn x) (sym items_down) (IsIn-permuted c.deref_mut-3.result.now c.sift_down.new.heap x c.sift_down.ensures.permuted (subst (IsIn x) (sym c.deref_mut-3.ensures.value) in_popped)))
