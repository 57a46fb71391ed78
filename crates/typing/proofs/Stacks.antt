-- Stacks of types.
use Rattle.std.proofs.Common.{◌≡◌, ◌<◌, ◌-◌, ℕ, zero, suc, List, [], ◌∷◌, None, map, reverse, refl, sym, ap, ◌∙◌, subst, arith}
use Rattle.std.proofs.lemmas.List.{reverse-reverse}
use mathlib.Core.List.{reverse_aux}
use Rattle.program.specs.declared.value_type.ValueType.{ValueType}
use Rattle.program.specs.declared.value_type.ValueType.TheVariants.{Int, Out, Args, This, Lock, Fresh, Thread, FreshTarget, Target}
use Rattle.typing.specs.Changes.{below_ints}

-- an int above others is taken
pub below_more : (n : ℕ) (stack : List ValueType) → 0 < n → below_ints n (Int ∷ stack) ≡ below_ints (n - 1) stack
below_more zero stack lt = absurd (omega arith)
below_more (suc n) stack lt =
    let e : suc n - 1 ≡ n = omega arith in
    let P : ℕ → Type 0 = λ k. below_ints (suc n) (Int ∷ stack) ≡ below_ints k stack in
    subst P (sym e) refl

-- where one int can't be taken, more can't
pub below_none : (n : ℕ) (stack : List ValueType) → 0 < n → below_ints 1 stack ≡ None → below_ints n stack ≡ None
below_none zero stack lt e = absurd (omega arith)
below_none (suc n) [] lt e = refl
below_none (suc n) (Int ∷ stack) lt e = cc
below_none (suc n) (Out ∷ stack) lt e = refl
below_none (suc n) (Args ∷ stack) lt e = refl
below_none (suc n) (This ∷ stack) lt e = refl
below_none (suc n) (Lock m ∷ stack) lt e = refl
below_none (suc n) (Fresh k ∷ stack) lt e = refl
below_none (suc n) (Thread k ∷ stack) lt e = refl
below_none (suc n) (FreshTarget k ∷ stack) lt e = refl
below_none (suc n) (Target k ∷ stack) lt e = refl

-- a list is the only one with its reverse
pub reverse_once : {A : Type 0} (xs ys : List A) → reverse xs ≡ reverse ys → xs ≡ ys
reverse_once xs ys e = sym (reverse-reverse xs) ∙ ap reverse e ∙ reverse-reverse ys

map-reverse_aux : (f : ValueType → ValueType) (xs ys : List ValueType) → map f (reverse_aux xs ys) ≡ reverse_aux (map f xs) (map f ys)
map-reverse_aux f [] ys = refl
map-reverse_aux f (x ∷ xs) ys = map-reverse_aux f xs (x ∷ ys)

pub map-reverse : (f : ValueType → ValueType) (xs : List ValueType) → map f (reverse xs) ≡ reverse (map f xs)
map-reverse f xs = map-reverse_aux f xs []
