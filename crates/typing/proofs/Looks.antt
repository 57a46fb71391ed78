-- The search for the first fault among places.
use Rattle.std.proofs.Common.{◌≡◌, ◌<◌, ◌+◌, ℕ, List, Option, Some, None, Contains, length, slice_index, inl, inr, sym, ap, subst, ◌∙◌, arith}
use Rattle.std.proofs.lemmas.Option.{same_Some, none-some}
use Rattle.std.proofs.lemmas.List.{get_or_default}
use Rattle.typing.specs.Levels.{DoesAt, kept_at, ShowsAt, IsFirstAt, IsLeastFound, IsSooner, IsUnlooked, IsLevel, StandsOn}
use Rattle.typing.specs.Paths.{IsRefusal}
use Rattle.typing.specs.Summaries.{summary_of, Shows, IsFirstShown}
use Rattle.typing.specs.declared.deed.Deed.{Deed}
use Rattle.typing.specs.declared.joined.Joined.{Joined}
use Rattle.typing.specs.declared.look.Found.{Found}
use Rattle.typing.specs.declared.refusal.TypeKind.{TypeKind}
use Rattle.typing.specs.declared.untyped.UntypedMethod.{UntypedMethod}
use Rattle.typing.proofs.Arrivals.{at_or_before}
use Rattle.typing.proofs.Steps.{one_deed, looked, first_refused}

shown_same : (m : UntypedMethod) (states : List (Option Joined)) (p : ℕ) (j : Joined) (d : Deed) → kept_at states p ≡ Some j → DoesAt m p d → (k : TypeKind) → ShowsAt m states p k → Shows m.frame d (summary_of j) k
shown_same m states p j d kept does k h =
    let P : Joined → Type 0 = λ x. Shows m.frame d (summary_of x) k in
    let Q : Deed → Type 0 = λ x. Shows m.frame x (summary_of h.state) k in
    subst P (same_Some h.state j (sym h.kept ∙ kept)) (subst Q (one_deed m p h.deed d h.does does) h.shows)

-- the first fault of what is kept is that of the place
pub first_at : (m : UntypedMethod) (states : List (Option Joined)) (p : ℕ) (j : Joined) (d : Deed) (r : Option TypeKind) → kept_at states p ≡ Some j → DoesAt m p d →
    IsFirstShown m.frame d (summary_of j) r → IsFirstAt m states p r
first_at m states p j d None kept does h = λ k shows. h k (shown_same m states p j d kept does k shows)
first_at m states p j d (Some k) kept does h = (j, d, kept, does, h)

pub none_at : (m : UntypedMethod) (states : List (Option Joined)) (p : ℕ) → kept_at states p ≡ None → IsFirstAt m states p None
none_at m states p none = λ k shows. none-some shows.state (sym none ∙ shows.kept)

-- one place more
pub one_looked : (m : UntypedMethod) (states : List (Option Joined)) (changed : List ℕ) (i : ℕ) (best : Option Found) (fault : Option TypeKind) (r : Option Found) →
    slice_index changed i < length m.listing → IsFirstAt m states (slice_index changed i) fault → IsSooner best (slice_index changed i) fault r →
    IsLeastFound m states changed i best → IsLeastFound m states changed (i + 1) r
one_looked m states changed i None None r inside here s before =
    subst (IsLeastFound m states changed (i + 1)) (sym s) (λ n k lt shows. elim (at_or_before n i lt) [
      | inl same ↦ (let P : ℕ → Type 0 = λ x. ShowsAt m states (slice_index changed x) k in here k (subst P same shows))
      | inr earlier ↦ before n k earlier shows
    ])
one_looked m states changed i (Some f) None r inside here s before =
    subst (IsLeastFound m states changed (i + 1)) (sym s) (
      before.0,
      before.1,
      λ n k lt less shows. elim (at_or_before n i lt) [
        | inl same ↦ (let P : ℕ → Type 0 = λ x. ShowsAt m states (slice_index changed x) k in here k (subst P same shows))
        | inr earlier ↦ before.2 n k earlier less shows
      ],
    )
one_looked m states changed i None (Some l) r inside here s before =
    subst (IsLeastFound m states changed (i + 1)) (sym s) (
      inside,
      here,
      λ n k lt less shows. elim (at_or_before n i lt) [
        | inl same ↦ (let e : slice_index changed n ≡ slice_index changed i = ap (slice_index changed) same in absurd (omega arith))
        | inr earlier ↦ before n k earlier shows
      ],
    )
one_looked m states changed i (Some f) (Some l) r inside here (inl keep) before =
    subst (IsLeastFound m states changed (i + 1)) (sym keep.1) (
      before.0,
      before.1,
      λ n k lt less shows. elim (at_or_before n i lt) [
        | inl same ↦ (let e : slice_index changed n ≡ slice_index changed i = ap (slice_index changed) same in absurd (omega (arith, keep.0)))
        | inr earlier ↦ before.2 n k earlier less shows
      ],
    )
one_looked m states changed i (Some f) (Some l) r inside here (inr take) before =
    subst (IsLeastFound m states changed (i + 1)) (sym take.1) (
      inside,
      here,
      λ n k lt less shows. elim (at_or_before n i lt) [
        | inl same ↦ (let e : slice_index changed n ≡ slice_index changed i = ap (slice_index changed) same in absurd (omega arith))
        | inr earlier ↦ before.2 n k earlier (omega (arith, take.0)) shows
      ],
    )

at_index : (changed : List ℕ) (q : ℕ) → (h : Contains changed q) → slice_index changed h.0 ≡ q
at_index changed q h = get_or_default changed h.0 0 q h.1 ∙ h.2

pub none_found : (m : UntypedMethod) (states : List (Option Joined)) (changed : List ℕ) → IsLeastFound m states changed (length changed) None →
    (most : ℕ) → IsUnlooked m most states changed → IsLevel m most states changed
none_found m states changed none most u = looked m most states changed u
    (λ q h k shows. let P : ℕ → Type 0 = λ n. ShowsAt m states n k in none h.0 k h.1 (subst P (sym (at_index changed q h)) shows))

pub found_refused : (m : UntypedMethod) (states : List (Option Joined)) (changed : List ℕ) (f : Found) (pc most : ℕ) → IsLeastFound m states changed (length changed) (Some f) →
    StandsOn m.listing f.place pc → IsUnlooked m most states changed → IsRefusal m f.kind pc
found_refused m states changed f pc most found at u =
    let P : ℕ → Type 0 = λ n. IsRefusal m f.kind n in
    subst P (sym at.2) (first_refused m most states changed f.place f.kind at.0 at.3 u at.1 found.1
    (λ q h lt l shows. let Q : ℕ → Type 0 = λ n. ShowsAt m states n l in
    let R : ℕ → Type 0 = λ n. n < f.place in
    found.2 h.0 l h.1 (subst R (sym (at_index changed q h)) lt) (subst Q (sym (at_index changed q h)) shows)))
