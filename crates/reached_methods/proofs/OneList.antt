-- A program has at most one list of its reached methods.
use Rattle.std.proofs.Common.{◌≡◌, ◌<◌, ◌⊎◌, inl, inr, ℕ, zero, suc, List, [], ◌∷◌, Contains, get_or, length, map, refl, sym, ap, ap₂, subst, ◌∙◌, arith}
use Rattle.std.specs.Prelude.{AllPairs}
use Rattle.std.proofs.lemmas.List.Elements.{All-contains}
use Rattle.class_format.specs.declared.record.ClassRecord.{ClassRecord}
use Rattle.class_format.specs.declared.record.CodeBody.{CodeBody}
use Rattle.opcodes.specs.Reached.{IsListingOf}
use Rattle.opcodes.specs.declared.listed.Listed.{Listed}
use Rattle.opcodes.proofs.SameListing.{one_listing}
use Rattle.program.proofs.Lists.{contains_map}
use Rattle.program.specs.declared.method.MethodId.{MethodId}
use Rattle.resolution.specs.Resolution.{Names}
use Rattle.resolution.specs.declared.target.Target.{Target}
use Rattle.reached_methods.specs.Reached.{AreReachedMethods, HasCodeAt, IsBefore, IsReachedMethod, resolved_of}
use Rattle.reached_methods.specs.declared.method.ReachedMethod.{ReachedMethod}
use Rattle.reached_methods.proofs.ByPlace.{before_trans}
use Rattle.reached_methods.proofs.Codes.{same_class, same_code}

-- ---- One method

names_apart : (xs ys : List Target) → map Names xs ≡ map Names ys → xs ≡ ys
names_apart [] [] e = refl
names_apart [] (y ∷ ys) e = absurd (cc)
names_apart (x ∷ xs) [] e = absurd (cc)
names_apart (x ∷ xs) (y ∷ ys) e =
    let head : x ≡ y = cc in
    let rest : map Names xs ≡ map Names ys = cc in
    ap₂ (λ (z : Target) (zs : List Target). z ∷ zs) head (names_apart xs ys rest)

same_parts : (a b : ReachedMethod) → a.id ≡ b.id → a.listing ≡ b.listing → a.targets ≡ b.targets → a ≡ b
same_parts a b id listing targets =
    ap (λ (i : MethodId). let m : ReachedMethod = record { id = i; listing = a.listing; targets = a.targets } in m) id
    ∙ ap₂ (λ (l : List Listed) (t : List Target). let m : ReachedMethod = record { id = b.id; listing = l; targets = t } in m) listing targets

same_method_of : (classes : List ClassRecord) (main : MethodId) (a b : ReachedMethod) → IsReachedMethod classes main a → IsReachedMethod classes main b → a.id ≡ b.id → a ≡ b
same_method_of classes main a b r s id =
    let P : MethodId → Type 0 = λ i. HasCodeAt classes i r.class r.body in
    let code = subst P id r.code in
    let class = same_class classes b.id r.class s.class r.body s.body code s.code in
    let body = same_code classes b.id r.class s.class r.body s.body code s.code in
    let Q : CodeBody → Type 0 = λ c. IsListingOf c.code a.listing in
    let listing = one_listing s.body.code a.listing b.listing (subst Q body r.listing) s.listing in
    let resolved = ap (λ (i : MethodId). resolved_of classes main i r.class a.listing) id ∙ ap₂ (λ (c : ClassRecord) (l : List Listed). resolved_of classes main b.id c l) class listing in
    same_parts a b id listing (names_apart a.targets b.targets (sym r.targets ∙ resolved ∙ s.targets))

-- ---- Lists in order with the same methods

never_itself : (a : MethodId) → IsBefore a a → ⊥
never_itself a (inl lt) = omega arith
never_itself a (inr h) = omega (arith, h.1)

contains_head : (x : ReachedMethod) (xs : List ReachedMethod) → Contains (x ∷ xs) x
contains_head x xs = (zero, omega arith, refl)

contains_tail : (x z : ReachedMethod) (xs : List ReachedMethod) → Contains xs z → Contains (x ∷ xs) z
contains_tail x z xs c = (suc c.0, omega (arith, c.1), c.2)

cons_cases_at : (x z : ReachedMethod) (xs : List ReachedMethod) (k : ℕ) → k < length (x ∷ xs) → get_or (x ∷ xs) k z ≡ z → (x ≡ z) ⊎ Contains xs z
cons_cases_at x z xs zero lt e = inl e
cons_cases_at x z xs (suc k) lt e = inr (k, omega (arith, lt), e)

cons_cases : (x z : ReachedMethod) (xs : List ReachedMethod) → Contains (x ∷ xs) z → (x ≡ z) ⊎ Contains xs z
cons_cases x z xs c = cons_cases_at x z xs c.0 c.1 c.2

-- the first is before all others
head_before : (x z : ReachedMethod) (xs : List ReachedMethod) → AllPairs (λ a b. IsBefore a.id b.id) (x ∷ xs) → Contains xs z → IsBefore x.id z.id
head_before x z xs in_order c =
    let P : ReachedMethod → Type 0 = λ y. IsBefore x.id y.id in
    subst P c.2 (in_order 0 (suc c.0) z (omega arith) (omega (arith, c.1)))

tail_in_order : (x : ReachedMethod) (xs : List ReachedMethod) → AllPairs (λ a b. IsBefore a.id b.id) (x ∷ xs) → AllPairs (λ a b. IsBefore a.id b.id) xs
tail_in_order x xs in_order = λ i j d lt inside. in_order (suc i) (suc j) d (omega (arith, lt)) (omega (arith, inside))

in_tail : (x z : ReachedMethod) (xs ys : List ReachedMethod) → AllPairs (λ a b. IsBefore a.id b.id) (x ∷ xs) → Contains xs z → Contains (x ∷ ys) z → Contains ys z
in_tail x z xs ys in_order c d =
    elim (cons_cases x z ys d) [
      | inl same ↦ (let P : ReachedMethod → Type 0 = λ y. IsBefore x.id y.id in absurd (never_itself x.id (subst P (sym same) (head_before x z xs in_order c))))
      | inr later ↦ later
    ]

heads_equal : (x y : ReachedMethod) (xs ys : List ReachedMethod) → AllPairs (λ a b. IsBefore a.id b.id) (x ∷ xs) → AllPairs (λ a b. IsBefore a.id b.id) (y ∷ ys) →
    Contains (y ∷ ys) x → Contains (x ∷ xs) y → x ≡ y
heads_equal x y xs ys by_x by_y in_y in_x =
    elim (cons_cases y x ys in_y) [
      | inl same ↦ sym same
      | inr after_y ↦ elim (cons_cases x y xs in_x) [
        | inl same ↦ same
        | inr after_x ↦ absurd (never_itself x.id (before_trans x.id y.id x.id (head_before x y xs by_x after_x) (head_before y x ys by_y after_y)))
      ]
    ]

same_members : (l m : List ReachedMethod) → AllPairs (λ a b. IsBefore a.id b.id) l → AllPairs (λ a b. IsBefore a.id b.id) m →
    ((z : ReachedMethod) → Contains l z → Contains m z) → ((z : ReachedMethod) → Contains m z → Contains l z) → l ≡ m
same_members [] [] by_l by_m to from = refl
same_members [] (y ∷ ys) by_l by_m to from = let c = from y (contains_head y ys) in absurd (omega (arith, c.1))
same_members (x ∷ xs) [] by_l by_m to from = let c = to x (contains_head x xs) in absurd (omega (arith, c.1))
same_members (x ∷ xs) (y ∷ ys) by_l by_m to from =
    let same = heads_equal x y xs ys by_l by_m (to x (contains_head x xs)) (from y (contains_head y ys)) in
    let P : ReachedMethod → Type 0 = λ h. (z : ReachedMethod) → Contains xs z → Contains (h ∷ ys) z in
    let Q : ReachedMethod → Type 0 = λ h. (z : ReachedMethod) → Contains ys z → Contains (h ∷ xs) z in
    let rest = same_members xs ys (tail_in_order x xs by_l) (tail_in_order y ys by_m)
    (λ z c. in_tail x z xs ys by_l c (subst P (sym same) (λ w d. to w (contains_tail x w xs d)) z c))
    (λ z c. in_tail y z ys xs by_m c (subst Q same (λ w d. from w (contains_tail y w ys d)) z c)) in
    ap₂ (λ (h : ReachedMethod) (t : List ReachedMethod). h ∷ t) same rest

-- a method of the one list is in the other
in_other : (classes : List ClassRecord) (main : MethodId) (first second : List ReachedMethod) → AreReachedMethods classes main first → AreReachedMethods classes main second →
    (z : ReachedMethod) → Contains first z → Contains second z
in_other classes main first second f s z c =
    let here_is = All-contains (IsReachedMethod classes main) first z f.each c in
    let found = contains_map (λ (m : ReachedMethod). m.id) second z.id (s.whole z.id here_is.reached) in
    let there = All-contains (IsReachedMethod classes main) second found.0 s.each found.1 in
    subst (Contains second) (same_method_of classes main found.0 z there here_is found.2) found.1

pub one_list_of : (classes : List ClassRecord) (main : MethodId) (first second : List ReachedMethod) → AreReachedMethods classes main first → AreReachedMethods classes main second →
    first ≡ second
one_list_of classes main first second f s =
    same_members first second f.by_place s.by_place (in_other classes main first second f s) (in_other classes main second first s f)
