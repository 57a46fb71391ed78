-- The marked spots of a list.
use Rattle.std.proofs.Common.{zero, suc, take, get_or, slice_get, ◌≡◌, ◌<◌, ◌≤◌, inl, inr, ℕ, Bool, true, false, cond, List, [], ◌∷◌, ◌++◌, Contains, Some, length, refl, sym, ap, ap₂, subst, ◌∙◌, true≢false}
use native.Mathlib.Omega.{arith}
use Rattle.std.proofs.Math.Seq.{take-length}
use Rattle.std.proofs.lemmas.Option.{none-some, same_Some}
use Rattle.std.specs.List.{AllByRecursion}
use Rattle.std.specs.List.Sorted.{IsStrictlySortedBy}
use Rattle.std.specs.declared.cmp.Ordering.TheVariants.{Less}
use Rattle.program.proofs.Lists.{contains_cases, contains_here, contains_later, contains_nil}
use Rattle.spots.specs.Order.{spot_cmp}
use Rattle.spots.specs.declared.spot.Spot.{Spot}
use Rattle.pruned_graph.specs.Pruned.{IsMarkedThere}

abbrev pub marked_of : List Spot → List Bool → List Spot
marked_of [] marks = []
marked_of (x ∷ xs) [] = []
marked_of (x ∷ xs) (true ∷ marks) = x ∷ marked_of xs marks
marked_of (x ∷ xs) (false ∷ marks) = marked_of xs marks

-- ---- Place by place

pub one_more : (xs : List Spot) (marks : List Bool) (k : ℕ) (x : Spot) (m : Bool) → k < length xs → k < length marks →
    marked_of (take (suc k) xs) (take (suc k) marks) ≡ marked_of (take k xs) (take k marks) ++ cond (get_or marks k m)
    (get_or xs k x ∷ []) []
one_more [] marks k x m within also = absurd (omega arith)
one_more (y ∷ xs) [] k x m within also = absurd (omega arith)
one_more (y ∷ xs) (true ∷ marks) zero x m within also = refl
one_more (y ∷ xs) (false ∷ marks) zero x m within also = refl
one_more (y ∷ xs) (true ∷ marks) (suc k) x m within also =
    ap (λ (ys : List Spot). y ∷ ys) (one_more xs marks k x m (omega arith) (omega arith))
one_more (y ∷ xs) (false ∷ marks) (suc k) x m within also = one_more xs marks k x m (omega arith) (omega arith)

pub all_marked : (kept xs : List Spot) (marks : List Bool) (k : ℕ) → kept ≡ marked_of (take k xs) (take k marks) →
    k ≡ length xs → length marks ≡ length xs → kept ≡ marked_of xs marks
all_marked kept xs marks k is e same =
    is ∙ ap₂ marked_of (ap (λ n. take n xs) e ∙ take-length xs) (ap (λ n. take n marks) (e ∙ sym same) ∙
    take-length marks)

-- ---- In their order

others_kept : (P : Spot → Type 0) (xs : List Spot) (marks : List Bool) → AllByRecursion P xs →
    AllByRecursion P (marked_of xs marks)
others_kept P [] marks all = all
others_kept P (x ∷ xs) [] all = tt
others_kept P (x ∷ xs) (true ∷ marks) all = (all.0, others_kept P xs marks all.1)
others_kept P (x ∷ xs) (false ∷ marks) all = others_kept P xs marks all.1

pub still_sorted : (xs : List Spot) (marks : List Bool) → IsStrictlySortedBy spot_cmp xs →
    IsStrictlySortedBy spot_cmp (marked_of xs marks)
unfolding IsStrictlySortedBy
still_sorted [] marks sorted = sorted
still_sorted (x ∷ xs) [] sorted = tt
still_sorted (x ∷ xs) (true ∷ marks) sorted =
    (others_kept (λ y. spot_cmp x y ≡ Less) xs marks sorted.0, still_sorted xs marks sorted.1)
still_sorted (x ∷ xs) (false ∷ marks) sorted = still_sorted xs marks sorted.1

pub few_kept : (xs : List Spot) (marks : List Bool) → length (marked_of xs marks) ≤ length xs
few_kept [] marks = omega arith
few_kept (x ∷ xs) [] = omega arith
few_kept (x ∷ xs) (true ∷ marks) = (let few = few_kept xs marks in omega arith)
few_kept (x ∷ xs) (false ∷ marks) = (let few = few_kept xs marks in omega arith)

-- ---- Which they are

later : (x s : Spot) (xs : List Spot) (m : Bool) (marks : List Bool) → IsMarkedThere xs marks s →
    IsMarkedThere (x ∷ xs) (m ∷ marks) s
later x s xs m marks is = record { place = suc is.place; stands = is.stands; marked = is.marked }

pub is_marked : (xs : List Spot) (marks : List Bool) (s : Spot) → Contains (marked_of xs marks) s →
    IsMarkedThere xs marks s
is_marked [] marks s there = absurd (contains_nil s there)
is_marked (x ∷ xs) [] s there = absurd (contains_nil s there)
is_marked (x ∷ xs) (true ∷ marks) s there = elim (contains_cases x s (marked_of xs marks) there) [
  | inl e ↦ record { place = 0; stands = ap Some e; marked = refl }
  | inr rest ↦ later x s xs true marks (is_marked xs marks s rest)
]
is_marked (x ∷ xs) (false ∷ marks) s there = later x s xs false marks (is_marked xs marks s there)

kept_at : (xs : List Spot) (marks : List Bool) (k : ℕ) (s : Spot) → slice_get xs k ≡ Some s →
    slice_get marks k ≡ Some true → Contains (marked_of xs marks) s
kept_at [] marks k s stands marked = absurd (none-some s stands)
kept_at (x ∷ xs) [] k s stands marked = absurd (none-some true marked)
kept_at (x ∷ xs) (true ∷ marks) zero s stands marked =
    subst (Contains (x ∷ marked_of xs marks)) (same_Some x s stands) (contains_here x (marked_of xs marks))
kept_at (x ∷ xs) (true ∷ marks) (suc k) s stands marked =
    contains_later x s (marked_of xs marks) (kept_at xs marks k s stands marked)
kept_at (x ∷ xs) (false ∷ marks) zero s stands marked = absurd (true≢false (sym (same_Some false true marked)))
kept_at (x ∷ xs) (false ∷ marks) (suc k) s stands marked = kept_at xs marks k s stands marked

pub kept : (xs : List Spot) (marks : List Bool) (s : Spot) → IsMarkedThere xs marks s →
    Contains (marked_of xs marks) s
kept xs marks s is = kept_at xs marks is.place s is.stands is.marked
