-- The opposite of a literal.
use Rattle.std.proofs.Common.{◌≡◌, ◌≢◌, ℕ, ◌+◌, ◌-◌, ◌*◌, ◌%◌, ◌<◌, ◌⊎◌, inl, inr, Bool, true, false, cond, not, refl, sym, ◌∙◌, ap, arith}
use Rattle.std.proofs.lemmas.Bool.Decides.{eqb_tells}
use Rattle.literals.specs.Literal.{variable_of, is_positive, opposite_of}
use Rattle.literals.specs.Truth.{holds}

-- the two forms of a literal
pub opposite_cases : (l : ℕ) → ((l % 2 ≡ 0) × (opposite_of l ≡ l + 1)) ⊎ ((l % 2 ≡ 1) × (opposite_of l + 1 ≡ l))
unfolding opposite_of
opposite_cases l = elim (eqb_tells (l % 2) 0) [
  | inl even ↦ inl (even.1, ap (λ b. cond b (l + 1) (l - 1)) even.0)
  | inr odd ↦ inr (omega (arith, odd.1), omega (arith, odd.1, ap (λ b. cond b (l + 1) (l - 1)) odd.0))
]

pub even_opposite : (l : ℕ) → l % 2 ≡ 0 → opposite_of l ≡ l + 1
even_opposite l e = elim (opposite_cases l) [ inl even ↦ even.1 | inr odd ↦ absurd (omega (arith, e, odd)) ]

pub odd_opposite : (l : ℕ) → l % 2 ≢ 0 → opposite_of l ≡ l - 1
odd_opposite l ne = elim (opposite_cases l) [ inl even ↦ absurd (ne even.0) | inr odd ↦ omega (arith, odd) ]

pub opposite-opposite : (l : ℕ) → opposite_of (opposite_of l) ≡ l
opposite-opposite l = elim (opposite_cases l) [
  | inl even ↦ elim (opposite_cases (opposite_of l)) [ inl e ↦ omega (arith, even, e) | inr o ↦ omega (arith, even, o) ]
  | inr odd ↦ elim (opposite_cases (opposite_of l)) [ inl e ↦ omega (arith, odd, e) | inr o ↦ omega (arith, odd, o) ]
]

pub opposite-other : (l : ℕ) → opposite_of l ≢ l
opposite-other l e = elim (opposite_cases l) [ inl even ↦ omega (arith, even, e) | inr odd ↦ omega (arith, odd, e) ]

pub opposite-below : (l count : ℕ) → l < 2 * count → opposite_of l < 2 * count
opposite-below l count lt = elim (opposite_cases l) [ inl even ↦ omega (arith, even, lt) | inr odd ↦ omega (arith, odd, lt) ]

pub variable-below : (l count : ℕ) → l < 2 * count → variable_of l < count
unfolding variable_of
variable-below l count lt = omega (arith, lt)

pub opposite-variable : (l : ℕ) → variable_of (opposite_of l) ≡ variable_of l
unfolding variable_of
opposite-variable l = elim (opposite_cases l) [ inl even ↦ omega (arith, even) | inr odd ↦ omega (arith, odd) ]

pub opposite-injective : (l m : ℕ) → opposite_of l ≡ opposite_of m → l ≡ m
opposite-injective l m e = sym (opposite-opposite l) ∙ ap opposite_of e ∙ opposite-opposite m

-- literals of one variable are equal or opposite
pub same_variable : (l m : ℕ) → variable_of l ≡ variable_of m → (l ≡ m) ⊎ (l ≡ opposite_of m)
unfolding variable_of
same_variable l m e = elim (opposite_cases m) [
  | inl even ↦ elim (opposite_cases l) [ inl f ↦ inl (omega (arith, even, f, e)) | inr f ↦ inr (omega (arith, even, f, e)) ]
  | inr odd ↦ elim (opposite_cases l) [ inl f ↦ inr (omega (arith, odd, f, e)) | inr f ↦ inl (omega (arith, odd, f, e)) ]
]

pub positive_from : (l : ℕ) → l % 2 ≡ 0 → is_positive l ≡ true
unfolding is_positive
positive_from l e = elim (eqb_tells (l % 2) 0) [ inl same ↦ same.0 | inr differ ↦ absurd (differ.1 e) ]

pub negative_from : (l : ℕ) → l % 2 ≡ 1 → is_positive l ≡ false
unfolding is_positive
negative_from l e = elim (eqb_tells (l % 2) 0) [ inl same ↦ absurd (omega (arith, e, same.1)) | inr differ ↦ differ.0 ]

pub opposite-positive : (l : ℕ) → is_positive (opposite_of l) ≡ not (is_positive l)
opposite-positive l = elim (opposite_cases l) [
  | inl even ↦
      (let n : is_positive l ≡ true = positive_from l even.0 in
      let o : is_positive (opposite_of l) ≡ false = negative_from (opposite_of l) (omega (arith, even)) in
      rw (n, o) refl)
  | inr odd ↦
      (let n : is_positive l ≡ false = negative_from l odd.0 in
      let o : is_positive (opposite_of l) ≡ true = positive_from (opposite_of l) (omega (arith, odd)) in
      rw (n, o) refl)
]

cond_not : (b v : Bool) → cond (not b) v (not v) ≡ not (cond b v (not v))
cond_not true v = refl
cond_not false true = refl
cond_not false false = refl

pub holds-opposite : (value : ℕ → Bool) (l : ℕ) → holds value (opposite_of l) ≡ not (holds value l)
unfolding holds
holds-opposite value l =
    ap (λ b. cond b (value (variable_of (opposite_of l))) (not (value (variable_of (opposite_of l))))) (opposite-positive l)
    ∙ ap (λ v. cond (not (is_positive l)) (value v) (not (value v))) (opposite-variable l)
    ∙ cond_not (is_positive l) (value (variable_of l))
