-- Listings with the same instructions are equal, since both are by place.
use Rattle.std.proofs.Common.{◌≡◌, ◌<◌, ℕ, zero, suc, List, [], ◌∷◌, Contains, length, slice_index_or, ◌⊎◌, inl, inr, refl, sym, ap, ap₂, subst, arith}
use Rattle.opcodes.specs.declared.listed.Listed.{Listed}
use Rattle.opcodes.specs.Reached.{IsListingOf}
use Rattle.opcodes.specs.Listing.{IsByPc}

contains_head : (x : Listed) (xs : List Listed) → Contains (x ∷ xs) x
contains_head x xs = (zero, omega arith, refl)

contains_tail : (x z : Listed) (xs : List Listed) → Contains xs z → Contains (x ∷ xs) z
contains_tail x z xs c = (suc c.0, omega (arith, c.1), c.2)

cons_cases_at : (x z : Listed) (xs : List Listed) (k : ℕ) → k < length (x ∷ xs) → slice_index_or (x ∷ xs) k z ≡ z → (x ≡ z) ⊎ Contains xs z
cons_cases_at x z xs zero lt e = inl e
cons_cases_at x z xs (suc k) lt e = inr (k, omega (arith, lt), e)

cons_cases : (x z : Listed) (xs : List Listed) → Contains (x ∷ xs) z → (x ≡ z) ⊎ Contains xs z
cons_cases x z xs c = cons_cases_at x z xs c.0 c.1 c.2

-- the first is before all others
head_below : (x z : Listed) (xs : List Listed) → IsByPc (x ∷ xs) → Contains xs z → x.pc < z.pc
head_below x z xs by_pc c =
    let P : Listed → Type 0 = λ y. x.pc < y.pc in
    subst P c.2 (by_pc 0 (suc c.0) z (omega arith) (omega (arith, c.1)))

tail_by_pc : (x : Listed) (xs : List Listed) → IsByPc (x ∷ xs) → IsByPc xs
tail_by_pc x xs by_pc = λ i j d lt inside. by_pc (suc i) (suc j) d (omega (arith, lt)) (omega (arith, inside))

-- an instruction of the list that is not its first
in_tail : (x z : Listed) (xs ys : List Listed) → IsByPc (x ∷ xs) → Contains xs z → Contains (x ∷ ys) z → Contains ys z
in_tail x z xs ys by_pc c d =
    elim (cons_cases x z ys d) [
      | inl same ↦ absurd (omega (arith, head_below x z xs by_pc c, ap (λ y. y.pc) same))
      | inr later ↦ later
    ]

heads_equal : (x y : Listed) (xs ys : List Listed) → IsByPc (x ∷ xs) → IsByPc (y ∷ ys) → Contains (y ∷ ys) x → Contains (x ∷ xs) y → x ≡ y
heads_equal x y xs ys by_x by_y in_y in_x =
    elim (cons_cases y x ys in_y) [
      | inl same ↦ sym same
      | inr after_y ↦ elim (cons_cases x y xs in_x) [
        | inl same ↦ same
        | inr after_x ↦ absurd (omega (arith, head_below y x ys by_y after_y, head_below x y xs by_x after_x))
      ]
    ]

same_members : (l m : List Listed) → IsByPc l → IsByPc m → ((z : Listed) → Contains l z → Contains m z) → ((z : Listed) → Contains m z → Contains l z) → l ≡ m
same_members [] [] by_l by_m to from = refl
same_members [] (y ∷ ys) by_l by_m to from = let c = from y (contains_head y ys) in absurd (omega (arith, c.1))
same_members (x ∷ xs) [] by_l by_m to from = let c = to x (contains_head x xs) in absurd (omega (arith, c.1))
same_members (x ∷ xs) (y ∷ ys) by_l by_m to from =
    let same = heads_equal x y xs ys by_l by_m (to x (contains_head x xs)) (from y (contains_head y ys)) in
    let P : Listed → Type 0 = λ h. (z : Listed) → Contains xs z → Contains (h ∷ ys) z in
    let Q : Listed → Type 0 = λ h. (z : Listed) → Contains ys z → Contains (h ∷ xs) z in
    let rest = same_members xs ys (tail_by_pc x xs by_l) (tail_by_pc y ys by_m)
    (λ z c. in_tail x z xs ys by_l c (subst P (sym same) (λ w d. to w (contains_tail x w xs d)) z c))
    (λ z c. in_tail y z ys xs by_m c (subst Q same (λ w d. from w (contains_tail y w ys d)) z c)) in
    ap₂ (λ h t. h ∷ t) same rest

pub one_listing : (code : List ℕ) (first second : List Listed) → IsListingOf code first → IsListingOf code second → first ≡ second
one_listing code first second f s =
    same_members first second f.by_pc s.by_pc
    (λ z c. s.whole z.pc z.instr (f.reached z.pc z.instr c) (f.decodes z.pc z.instr c))
    (λ z c. f.whole z.pc z.instr (s.reached z.pc z.instr c) (s.decodes z.pc z.instr c))
