-- Paths of a relation.
use Rattle.std.specs.Prelude.{◌≡◌, ◌≤◌, ◌+◌, ◌-◌, ℕ, List, Some, slice_get, length}

-- a path of one edge or more
pub data Path {A : Type 0} (R : A → A → Type 0) : A → A → Type 0 where
  edge : {a b : A} → R a b → Path R a b
  more : {a b c : A} → R a b → Path R b c → Path R a c

-- a path of no edge or more
pub data Walk {A : Type 0} (R : A → A → Type 0) : A → A → Type 0 where
  here : {a : A} → Walk R a a
  on : {a b c : A} → R a b → Walk R b c → Walk R a c

-- a list of at least two from a to b whose neighbours are related
pub record IsListed {A : Type 0} (R : A → A → Type 0) (a b : A) : Type 0 where
  pub path : List A
  pub two : 2 ≤ length path
  pub first : slice_get path 0 ≡ Some a
  pub last : slice_get path (length path - 1) ≡ Some b
  pub neighbours : (i : ℕ) (x y : A) → slice_get path i ≡ Some x → slice_get path (i + 1) ≡ Some y → R x y
