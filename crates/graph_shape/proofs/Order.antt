-- Edges and spots in order.
use Rattle.std.proofs.Common.{◌≡◌, ◌⊎◌, inl, inr, ◌<◌, ◌≤◌, ◌+◌, ℕ, zero, suc, Bool, true, false, List, [], ◌∷◌, Contains, Some, get_or, slice_get, length, refl, sym, ap, subst, ◌∙◌}
use native.Mathlib.Omega.{arith}
use Rattle.std.proofs.lemmas.List.Sorted.{searchable_from_sorted}
use Rattle.std.proofs.lemmas.Map.Keys.{sorted_tail}
use Rattle.std.proofs.lemmas.Map.Lookups.{exact_unsigned}
use Rattle.std.proofs.lemmas.Map.Views.{All-after_first}
use Rattle.std.specs.Cmp.{IsTotalOrder, bool_cmp_total, nat_cmp_total, on_total, then_total, tied_itself}
use Rattle.std.specs.List.Sorted.{IsNonDecreasingBy, IsPartitionPoint, IsStrictlySortedBy}
use Rattle.std.specs.Ordering.{bool_cmp, is_lt, ordering_index, ordering_reverse, ordering_then}
use Rattle.std.specs.declared.cmp.Ordering.{Ordering}
use Rattle.std.specs.declared.cmp.Ordering.TheVariants.{Less, Equal, Greater}
use Rattle.std.proofs.lemmas.Bool.{cases_lt}
use Rattle.std.proofs.lemmas.Option.{get_or_from_slice_get, slice_get-get_or, slice_get_within}
use Rattle.std.specs.List.{AllWithin}
use Rattle.spots.proofs.Same.{one_bool, one_spot, spot_total, then_equal}
use Rattle.spots.specs.Order.{spot_cmp}
use Rattle.spots.specs.declared.spot.Spot.{Spot}
use Rattle.graph_shape.specs.Edges.{edge_cmp}
use Rattle.graph_shape.specs.contracts.edge.EdgeOrd.TheImpl.{cmp-value}
use Rattle.graph_shape.specs.declared.edge.Edge.{Edge}

-- ---- Edges

pub edge_total : IsTotalOrder edge_cmp
edge_total = then_total (on_total (λ e. e.from) nat_cmp_total) (then_total (on_total (λ e. e.taken) bool_cmp_total) (on_total (λ e. e.to) nat_cmp_total))

pub one_edge : (x y : Edge) → edge_cmp x y ≡ Equal → x ≡ y
one_edge x y e =
    let from = then_equal _ _ e in
    let taken = then_equal _ _ from.1 in
    let a = exact_unsigned x.from y.from from.0 in
    let b = one_bool x.taken y.taken taken.0 in
    let d = exact_unsigned x.to y.to taken.1 in
    λ i. record { from = a i; taken = b i; to = d i }

pub one_edge_order : cmp-value.it ≡ edge_cmp
one_edge_order = refl

-- ---- Lists in order

module _ {K : Type 0} {R : K → K → Ordering} (total : IsTotalOrder R) where
  next_less : (xs : List K) → IsStrictlySortedBy R xs → (k : ℕ) (d : K) → k + 1 < length xs → R (get_or xs k d) (get_or xs (k + 1) d) ≡ Less
  next_less [] sorted k d within = absurd (omega arith)
  next_less (x ∷ xs) sorted zero d within = All-after_first R x xs sorted 0 d (omega arith)
  next_less (x ∷ xs) sorted (suc k) d within =
      subst (λ n. R (get_or xs k d) (get_or (x ∷ xs) n d) ≡ Less) (let e : suc (k + 1) ≡ suc k + 1 = omega arith in e)
      (next_less xs (sorted_tail R x xs sorted) k d (omega arith))

  not_back : (a b : K) → R a b ≡ Less → is_lt (R b a) ≡ false
  not_back a b e = ap is_lt (total.antisymm b a ∙ ap ordering_reverse e)

  pub searchable : (xs : List K) (x : K) → IsStrictlySortedBy R xs → IsNonDecreasingBy (λ y. ordering_index (R y x)) xs
  searchable xs x sorted = searchable_from_sorted total (λ y. y) xs x (λ k d low within. not_back (get_or xs k d) (get_or xs (k + 1) d) (next_less xs sorted k d within))

-- ---- Looking for a spot

module _ (spots : List Spot) (spot : Spot) where
  pub found : (place : ℕ) → place < length spots → ((d : Spot) → spot_cmp (get_or spots place d) spot ≡ Equal) → slice_get spots place ≡ Some spot
  found place within is = slice_get-get_or spots place spot within ∙ ap Some (one_spot (get_or spots place spot) spot (is spot))

  pub not_there : (place : ℕ) → (IsNonDecreasingBy (λ y. ordering_index (spot_cmp y spot)) spots → IsPartitionPoint (λ y. spot_cmp y spot ≡ Less) (λ y. spot_cmp y spot ≡ Greater) spots place) →
      IsStrictlySortedBy spot_cmp spots → Contains spots spot → ⊥
  not_there place position sorted there =
      let parts = position (searchable spot_total spots spot sorted) in
      by parts.0 parts.1 (cases_lt there.0 place)
    where
      itself : spot_cmp spot spot ≡ Equal
      itself = tied_itself spot_total spot

      by : AllWithin (λ y. spot_cmp y spot ≡ Less) spots 0 place → AllWithin (λ y. spot_cmp y spot ≡ Greater) spots place (length spots) → (there.0 < place) ⊎ (place ≤ there.0) → ⊥
      by below above (inl before) =
          let e : Less ≡ Equal = sym (below there.0 spot (omega arith) before) ∙ ap (λ (y : Spot). spot_cmp y spot) there.2 ∙ itself in
          cc
      by below above (inr behind) =
          let e : Greater ≡ Equal = sym (above there.0 spot behind there.1) ∙ ap (λ (y : Spot). spot_cmp y spot) there.2 ∙ itself in
          cc

  pub sorted_far : (xs : List Spot) → IsStrictlySortedBy spot_cmp xs → (i j : ℕ) (d : Spot) → i < j → j < length xs → spot_cmp (get_or xs i d) (get_or xs j d) ≡ Less
  sorted_far [] sorted i j d before within = absurd (omega arith)
  sorted_far (x ∷ xs) sorted i zero d before within = absurd (omega arith)
  sorted_far (x ∷ xs) sorted zero (suc j) d before within = All-after_first spot_cmp x xs sorted j d (omega arith)
  sorted_far (x ∷ xs) sorted (suc i) (suc j) d before within = sorted_far xs (sorted_tail spot_cmp x xs sorted) i j d (omega arith) (omega arith)

  -- a spot stands at one place alone
  pub once : IsStrictlySortedBy spot_cmp spots → (i j : ℕ) → slice_get spots i ≡ Some spot → slice_get spots j ≡ Some spot → i ≡ j
  once sorted i j first second = by (cases_lt i j) (cases_lt j i)
    where
      apart : (a b : ℕ) → slice_get spots a ≡ Some spot → slice_get spots b ≡ Some spot → a < b → ⊥
      apart a b at_a at_b before =
          let x = get_or_from_slice_get spots a spot spot at_a in
          let y = get_or_from_slice_get spots b spot spot at_b in
          let within = slice_get_within spots b spot at_b in
          let e : Less ≡ Equal = sym (sorted_far spots sorted a b spot before within) ∙ (λ t. spot_cmp (x t) (y t)) ∙ tied_itself spot_total spot in
          cc

      by : (i < j) ⊎ (j ≤ i) → (j < i) ⊎ (i ≤ j) → i ≡ j
      by (inl less) more = absurd (apart i j first second less)
      by (inr least) (inl less) = absurd (apart j i second first less)
      by (inr least) (inr most) = omega arith

-- a later spot stands at a later place
pub sorted_at : (spots : List Spot) → IsStrictlySortedBy spot_cmp spots → (i j : ℕ) (a b : Spot) → slice_get spots i ≡ Some a → slice_get spots j ≡ Some b → spot_cmp a b ≡ Less → i < j
sorted_at spots sorted i j a b first second less = by (cases_lt i j)
  where
    x : get_or spots i a ≡ a
    x = get_or_from_slice_get spots i a a first

    y : get_or spots j a ≡ b
    y = get_or_from_slice_get spots j b a second

    behind : (j < i) ⊎ (i ≤ j) → j ≤ i → ⊥
    behind (inl before) least =
        let e : Less ≡ Greater = sym (sorted_far spots a spots sorted j i a before (slice_get_within spots i a first)) ∙ (λ t. spot_cmp (y t) (x t)) ∙ spot_total.antisymm b a ∙ ap ordering_reverse less in
        cc
    behind (inr most) least =
        let same : i ≡ j = omega arith in
        let one : a ≡ b = sym x ∙ ap (λ n. get_or spots n a) same ∙ y in
        let e : Less ≡ Equal = sym less ∙ ap (spot_cmp a) (sym one) ∙ tied_itself spot_total a in
        cc

    by : (i < j) ⊎ (j ≤ i) → i < j
    by (inl before) = before
    by (inr least) = absurd (behind (cases_lt j i) least)
