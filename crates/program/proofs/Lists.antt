-- What stands in a list.
use Rattle.std.proofs.Common.{◌≡◌, ◌<◌, ◌++◌, ℕ, zero, suc, List, [], ◌∷◌, map, get_or, length, Some, slice_get, arith, refl, ◌∙◌, ◌≢◌, ap, subst, sym, inl, inr, ◌⊎◌, All, Contains}
use Rattle.std.specs.List.{AllPairs}
use Rattle.std.proofs.lemmas.Bool.{cases_lt}
use Rattle.std.proofs.lemmas.List.{get_or_default}
use Rattle.std.proofs.lemmas.Option.{slice_get-get_or, get_or_from_slice_get, slice_get_within, none-some, same_Some}
use Rattle.std.specs.Option.{option_map}

pub contains_nil : {X : Type 0} (y : X) → Contains [] y → ⊥
contains_nil y (k, within, is) = omega arith

pub contains_here : {X : Type 0} (x : X) (xs : List X) → Contains (x ∷ xs) x
contains_here x xs = (0, omega arith, refl)

pub contains_later : {X : Type 0} (x y : X) (xs : List X) → Contains xs y → Contains (x ∷ xs) y
contains_later x y xs (k, within, is) = (suc k, omega arith, is)

pub contains_cases : {X : Type 0} (x y : X) (xs : List X) → Contains (x ∷ xs) y → (x ≡ y) ⊎ Contains xs y
contains_cases x y xs (zero, within, is) = inl is
contains_cases x y xs (suc k, within, is) = inr (k, omega arith, is)

pub contains_one : {X : Type 0} (x y : X) → Contains (x ∷ []) y → x ≡ y
contains_one x y h = elim (contains_cases x y [] h) [ inl e ↦ e | inr never ↦ absurd (contains_nil y never) ]

-- a member of a list stands at some place of it
pub place_of : {X : Type 0} (xs : List X) (y : X) → Contains xs y → (k : ℕ) × (slice_get xs k ≡ Some y)
place_of xs y (k, within, is) = (k, slice_get-get_or xs k y within ∙ ap Some is)

pub contains_at : {X : Type 0} (xs : List X) (k : ℕ) (y : X) → slice_get xs k ≡ Some y → Contains xs y
contains_at xs k y is = (k, slice_get_within xs k y is, get_or_from_slice_get xs k y y is)

pub contains_map : {X Y : Type 0} (f : X → Y) (xs : List X) (y : Y) → Contains (map f xs) y → (x : X) × Contains xs x × (f x ≡ y)
contains_map f [] y h = absurd (contains_nil y h)
contains_map {X} f (x ∷ xs) y h = go (λ t. contains_map f xs y t) (contains_cases (f x) y (map f xs) h)
  where
    later : (x' : X) × Contains xs x' × (f x' ≡ y) → (x' : X) × Contains (x ∷ xs) x' × (f x' ≡ y)
    later (z, inside, is) = (z, contains_later x z xs inside, is)

    go : (Contains (map f xs) y → (x' : X) × Contains xs x' × (f x' ≡ y)) → (f x ≡ y) ⊎ Contains (map f xs) y → (x' : X) × Contains (x ∷ xs) x' × (f x' ≡ y)
    go rest (inl e) = (x, contains_here x xs, e)
    go rest (inr t) = later (rest t)

pub contains_mapped : {X Y : Type 0} (f : X → Y) (xs : List X) (x : X) → Contains xs x → Contains (map f xs) (f x)
contains_mapped f [] x h = absurd (contains_nil x h)
contains_mapped f (z ∷ xs) x h = elim (contains_cases z x xs h) [
  | inl e ↦ subst (λ w. Contains (map f (z ∷ xs)) (f w)) e (contains_here (f z) (map f xs))
  | inr t ↦ contains_later (f z) (f x) (map f xs) (contains_mapped f xs x t)
]

-- what holds of each element holds of the first, and of the others
pub all_head : {X : Type 0} (P : X → Type 0) (x : X) (xs : List X) → All P (x ∷ xs) → P x
all_head P x xs h = h 0 x (omega arith)

pub all_tail : {X : Type 0} (P : X → Type 0) (x : X) (xs : List X) → All P (x ∷ xs) → All P xs
all_tail P x xs h k d within = h (suc k) d (omega arith)

pub all_cons : {X : Type 0} (P : X → Type 0) (x : X) (xs : List X) → P x → All P xs → All P (x ∷ xs)
all_cons P x xs here later zero d within = here
all_cons P x xs here later (suc k) d within = later k d (omega arith)

pub all_of : {X : Type 0} (P : X → Type 0) (xs : List X) (x : X) → All P xs → Contains xs x → P x
all_of P xs x h (k, within, is) = subst P is (h k x within)

pub all_from : {X : Type 0} (P : X → Type 0) (xs : List X) → ((x : X) → Contains xs x → P x) → All P xs
all_from P xs h k d within = h (get_or xs k d) (contains_at xs k (get_or xs k d) (slice_get-get_or xs k d within))

-- what a list of images has at a place
pub slice_get_mapped : {X Y : Type 0} (f : X → Y) (xs : List X) (k : ℕ) (y : Y) → slice_get (map f xs) k ≡ Some y → (x : X) × (slice_get xs k ≡ Some x) × (f x ≡ y)
slice_get_mapped f [] k y is = absurd (none-some y is)
slice_get_mapped f (x ∷ xs) zero y is = (x, refl, same_Some (f x) y is)
slice_get_mapped f (x ∷ xs) (suc k) y is = slice_get_mapped f xs k y is

pub slice_get_of : {X Y : Type 0} (f : X → Y) (xs : List X) (k : ℕ) (x : X) → slice_get xs k ≡ Some x → slice_get (map f xs) k ≡ Some (f x)
slice_get_of f [] k x is = absurd (none-some x is)
slice_get_of f (z ∷ xs) zero x is = ap (λ o. option_map f o) is
slice_get_of f (z ∷ xs) (suc k) x is = slice_get_of f xs k x is

-- of elements that are pairwise different by something, two with the same are one
pub one_of : {X Y : Type 0} (f : X → Y) (xs : List X) (x y : X) → AllPairs (λ a b. f a ≢ f b) xs → Contains xs x → Contains xs y → f x ≡ f y → x ≡ y
one_of {X} f xs x y apart (k, within, is) (l, within', is') same = elim (cases_lt k l) [
  | inl before ↦ absurd (apart k l x before within' (ap f is ∙ same ∙ ap f (sym there)))
  | inr rest ↦ elim (cases_lt l k) [
    | inl behind ↦ absurd (apart l k x behind within (ap f there ∙ sym same ∙ ap f (sym is)))
    | inr back ↦ sym is ∙ ap (λ (i : ℕ). get_or xs i x) (omega (arith, rest, back)) ∙ there
  ]
]
  where
    there : get_or xs l x ≡ y
    there = get_or_default xs l x y within' ∙ is'

-- a list has an element at each place below its length
pub there_is : {X : Type 0} (xs : List X) (k : ℕ) → k < length xs → (x : X) × (slice_get xs k ≡ Some x)
there_is [] k within = absurd (omega (arith, within))
there_is (x ∷ xs) zero within = (x, refl)
there_is (x ∷ xs) (suc k) within = there_is xs k (omega (arith, within))

-- two lists with the same elements at the same places are one
pub same_at_places : {X : Type 0} (xs ys : List X) → length xs ≡ length ys → ((k : ℕ) (x y : X) → slice_get xs k ≡ Some x → slice_get ys k ≡ Some y → x ≡ y) → xs ≡ ys
same_at_places [] [] size each = refl
same_at_places [] (y ∷ ys) size each = absurd (omega (arith, size))
same_at_places (x ∷ xs) [] size each = absurd (omega (arith, size))
same_at_places (x ∷ xs) (y ∷ ys) size each =
    let first = each 0 x y refl refl in
    let rest = same_at_places xs ys (omega (arith, size)) (λ k a b a_there b_there. each (suc k) a b a_there b_there) in
    cc

-- an element of a list with one more at the end
pub pushed : {X : Type 0} (xs : List X) (x a : X) (k : ℕ) → slice_get (xs ++ x ∷ []) k ≡ Some a → (slice_get xs k ≡ Some a) ⊎ ((k ≡ length xs) × (x ≡ a))
pushed [] x a zero is = inr (refl, same_Some x a is)
pushed [] x a (suc k) is = absurd (none-some a is)
pushed (y ∷ xs) x a zero is = inl is
pushed (y ∷ xs) x a (suc k) is = elim (pushed xs x a k is) [
  | inl early ↦ inl early
  | inr last ↦ (let e = last.0 in inr (omega arith, last.1))
]
