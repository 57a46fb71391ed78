-- A path, and a list whose neighbours are related.
use Rattle.std.proofs.Common.{◌≡◌, ◌≤◌, ◌+◌, ◌-◌, ◌↔◌, ℕ, zero, suc, List, [], ◌∷◌, Some, slice_get, length, refl, sym, ap, subst, ◌∙◌, arith}
use Rattle.relations.specs.Path.{Path, edge, more, IsListed}
use Rattle.action_orders.specs.HappensBefore.{IsEdge}
use Rattle.sequence_laws.specs.Laws.{HappensBeforeByList}

-- from a by each of the list to b
abbrev Links : {A : Type 0} (R : A → A → Type 0) → A → List A → A → Type 0
Links R a [] b = a ≡ b
Links R a (x ∷ xs) b = R a x × Links R x xs b

last_of : {A : Type 0} (R : A → A → Type 0) (a : A) (xs : List A) (b : A) → Links R a xs b → slice_get (a ∷ xs) (length xs) ≡ Some b
last_of R a [] b links = ap (λ x. Some x) links
last_of R a (x ∷ xs) b links = last_of R x xs b links.1

neighbours_of : {A : Type 0} (R : A → A → Type 0) (a : A) (xs : List A) (b : A) → Links R a xs b → (i : ℕ) (x y : A) →
    slice_get (a ∷ xs) i ≡ Some x → slice_get (a ∷ xs) (suc i) ≡ Some y → R x y
neighbours_of R a [] b links i x y first second = cc
neighbours_of R a (c ∷ xs) b links zero x y first second =
    let is_x : a ≡ x = cc in
    let is_y : c ≡ y = cc in
    subst (λ z. R z y) is_x (subst (R a) is_y links.0)
neighbours_of R a (c ∷ xs) b links (suc i) x y first second = neighbours_of R c xs b links.1 i x y first second

listed : {A : Type 0} (R : A → A → Type 0) (a x : A) (xs : List A) (b : A) → Links R a (x ∷ xs) b → IsListed R a b
listed {A} R a x xs b links = record {
  path = a ∷ x ∷ xs;
  two = omega arith;
  first = refl;
  last = (let same : length (a ∷ x ∷ xs) - 1 ≡ length (x ∷ xs) = omega arith in ap (slice_get (a ∷ x ∷ xs)) same ∙ last_of R a (x ∷ xs) b links);
  neighbours = λ i y z first second.
      (let same : i + 1 ≡ suc i = omega arith in neighbours_of R a (x ∷ xs) b links i y z first (ap (slice_get (a ∷ x ∷ xs)) (sym same) ∙ second));
}

links_of : {A : Type 0} (R : A → A → Type 0) (a b : A) → Path R a b → (x : A) × (xs : List A) × Links R a (x ∷ xs) b
links_of R a b (edge r) = (b, [], (r, refl))
links_of R a b (more {b = m} r path) = (let rest = links_of R m b path in (m, rest.0 ∷ rest.1, (r, rest.2)))

to_list : {A : Type 0} (R : A → A → Type 0) (a b : A) → Path R a b → IsListed R a b
to_list R a b path = (let links = links_of R a b path in listed R a links.0 links.1 b links.2)

-- the path along a list of two or more
along : {A : Type 0} (R : A → A → Type 0) (x y : A) (zs : List A) (b : A) → slice_get (x ∷ y ∷ zs) (suc (length zs)) ≡ Some b →
    ((i : ℕ) (v w : A) → slice_get (x ∷ y ∷ zs) i ≡ Some v → slice_get (x ∷ y ∷ zs) (suc i) ≡ Some w → R v w) → Path R x b
along R x y [] b last neighbours = (let is : y ≡ b = cc in subst (Path R x) is (edge (neighbours 0 x y refl refl)))
along R x y (z ∷ zs) b last neighbours = more (neighbours 0 x y refl refl) (along R y z zs b last (λ i v w first second. neighbours (suc i) v w first second))

from_path : {A : Type 0} (R : A → A → Type 0) (a b : A) (path : List A) → 2 ≤ length path → slice_get path 0 ≡ Some a → slice_get path (length path - 1) ≡ Some b →
    ((i : ℕ) (x y : A) → slice_get path i ≡ Some x → slice_get path (i + 1) ≡ Some y → R x y) → Path R a b
from_path R a b [] two first last neighbours = absurd (omega (arith, two))
from_path R a b (x ∷ []) two first last neighbours = absurd (omega (arith, two))
from_path R a b (x ∷ y ∷ zs) two first last neighbours =
    let is_a : x ≡ a = cc in
    let same : suc (length zs) ≡ length (x ∷ y ∷ zs) - 1 = omega arith in
    subst (λ c. Path R c b) is_a
    (along R x y zs b (ap (slice_get (x ∷ y ∷ zs)) same ∙ last)
    (λ i v w here next. (let step : i + 1 ≡ suc i = omega arith in neighbours i v w here (ap (slice_get (x ∷ y ∷ zs)) step ∙ next))))

pub by_list : HappensBeforeByList
by_list p e a b = (to_list (IsEdge p e) a b, λ l. from_path (IsEdge p e) a b l.path l.two l.first l.last l.neighbours)
