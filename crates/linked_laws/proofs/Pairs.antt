-- Lists of which each two elements are apart.
use Rattle.std.proofs.Common.{◌≡◌, ◌<◌, ◌++◌, ℕ, suc, List, [], ◌∷◌, All, AllPairs, Some, slice_get, sym, ap, ◌∙◌, inl, inr, arith}
use Rattle.std.proofs.lemmas.Bool.{cases_lt}
use Rattle.std.proofs.lemmas.List.Elements.{All-append, All-head, All-tail}
use Rattle.std.proofs.lemmas.List.Kept.{AllPairs-cons}
use Rattle.std.proofs.lemmas.Option.{get_or_from_slice_get, slice_get_within}
use Rattle.program.specs.Straight.{AreApart}
use Rattle.program.specs.declared.program.Variable.{Variable}

pub pairs_head : {X : Type 0} (R : X → X → Type 0) (x : X) (xs : List X) → AllPairs R (x ∷ xs) → All (R x) xs
pairs_head R x xs pairs k d within = pairs 0 (suc k) d (omega arith) (omega (arith, within))

pub pairs_tail : {X : Type 0} (R : X → X → Type 0) (x : X) (xs : List X) → AllPairs R (x ∷ xs) → AllPairs R xs
pairs_tail R x xs pairs i j d before within = pairs (suc i) (suc j) d (omega (arith, before)) (omega (arith, within))

pub pairs_append : {X : Type 0} (R : X → X → Type 0) (xs ys : List X) → AllPairs R xs → AllPairs R ys → All (λ x. All (R x) ys) xs → AllPairs R (xs ++ ys)
pairs_append R [] ys first second across = second
pairs_append R (x ∷ xs) ys first second across =
    AllPairs-cons R x (xs ++ ys) (All-append (R x) xs ys (pairs_head R x xs first) (All-head (λ z. All (R z) ys) x xs across))
    (pairs_append R xs ys (pairs_tail R x xs first) second (All-tail (λ z. All (R z) ys) x xs across))

-- two variables with one name are none
abbrev pub Apart : Variable → Variable → Type 0
Apart v w = v.class ≡ w.class → v.name ≡ w.name → ⊥

pub are_apart : (vs : List Variable) → AllPairs Apart vs → AreApart vs
are_apart vs pairs i j v w v_there w_there class name = elim (cases_lt i j) [
  | inl before ↦ absurd (earlier i j v w before v_there w_there class name)
  | inr rest ↦ elim (cases_lt j i) [
    | inl behind ↦ absurd (earlier j i w v behind w_there v_there (sym class) (sym name))
    | inr back ↦ omega (arith, rest, back)
  ]
]
  where
    earlier : (k l : ℕ) (a b : Variable) → k < l → slice_get vs k ≡ Some a → slice_get vs l ≡ Some b → a.class ≡ b.class → a.name ≡ b.name → ⊥
    earlier k l a b before a_there b_there class name =
        let apart = pairs k l a before (slice_get_within vs l b b_there) in
        let first = get_or_from_slice_get vs k a a a_there in
        let second = get_or_from_slice_get vs l b a b_there in
        apart (ap (λ (z : Variable). z.class) first ∙ class ∙ ap (λ (z : Variable). z.class) (sym second)) (ap (λ (z : Variable). z.name) first ∙ name ∙ ap (λ (z : Variable). z.name) (sym second))
