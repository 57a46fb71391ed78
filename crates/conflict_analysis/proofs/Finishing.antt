-- The clause that is learned at the end.
use Rattle.std.proofs.Common.{◌≡◌, ◌≢◌, ℕ, suc, ◌-◌, ◌≤◌, ◌<◌, inl, inr, List, [], ◌∷◌, ◌++◌, Bool, false, map, length, take, drop, get_or, eqb, refl, sym, ◌∙◌, ap, subst, arith}
use Rattle.std.specs.List.{IsDistinct, AllByRecursion, swap}
use Rattle.std.specs.List.Sorted.{IsPermutation}
use Rattle.std.proofs.lemmas.Bool.{cases_eq}
use Rattle.std.proofs.lemmas.Bool.Decides.{eqb_tells, leb_tells}
use Rattle.std.proofs.lemmas.List.{take-append-le}
use Rattle.std.proofs.lemmas.List.Sorted.{IsPermutation-sym, length_permutation}
use Rattle.std.proofs.lemmas.List.Edits.{swapped_from_swap}
use Rattle.std.proofs.lemmas.Map.Keys.{IsDistinct-IsPermutation}
use Rattle.clause_pool.specs.PoolValue.{IsIn, NoneTwice}
use Rattle.clause_pool.proofs.Chains.{IsDistinct-NoneTwice}
use Rattle.literals.specs.Literal.{opposite_of, variable_of}
use Rattle.literals.specs.Propagation.{IsFalseIn, IsFalseClause, FollowsFrom}
use Rattle.literals.proofs.Members.{map-IsIn, IsIn-map, place-IsIn}
use Rattle.literals.proofs.Opposites.{opposite-opposite, opposite-injective, opposite-variable}
use Rattle.trail.specs.Steps.{TrailValue, IsSoundFor, back_to, literals_of, level_of, level_at, is_decision}
use Rattle.trail.specs.declared.step.Step.{Step}
use Rattle.trail.proofs.Back.{back_to-here, back_to-older}
use Rattle.propagation.proofs.Swapping.{IsIn-permuted}
use Rattle.conflict_analysis.specs.Learned.{IsAsserting, IsBackLevel}
use Rattle.conflict_analysis.specs.Marks.{mark_at, IsMarked, newest_of, one_if, pending_in, EndsWith}
use Rattle.conflict_analysis.specs.Resolvents.{IsResolvent, IsHighestBehind, IsFinished, left_of}
use Rattle.conflict_analysis.specs.declared.resolvent.Resolvent.{Resolvent}
use Rattle.conflict_analysis.proofs.Newest.{bool_cases, true_not_false, newest_level, newest_on, newest_end, pending_on, pending_positive, level_at_most, level_here, level_later, other_variable}
use Rattle.conflict_analysis.proofs.Left.{among_left, sound_left}
use Rattle.conflict_analysis.proofs.Resolving.{is_newest, level_of_false}

-- two marked literals of the last decision are two that are pending
pending_two : (marks : List Bool) (steps : List Step) (x y : ℕ) → IsMarked marks x → IsMarked marks y → x ≢ y → IsIn (opposite_of x) (newest_of steps) → IsIn (opposite_of y) (newest_of steps) → 2 ≤ pending_in marks steps
pending_two marks [] x y mx my ne ix iy = absurd ix
pending_two marks (s ∷ older) x y mx my ne ix iy =
    let on : (z : ℕ) → IsMarked marks z → opposite_of z ≡ s.literal → one_if (mark_at marks (opposite_of s.literal)) ≡ 1 = λ z m e. ap (λ w. one_if (mark_at marks w)) (ap opposite_of (sym e) ∙ opposite-opposite z) ∙ ap one_if m in
    elim (bool_cases (is_decision s.reason)) [
      | inl is ↦ elim (subst (IsIn (opposite_of x)) (newest_end s older is) ix) [
        | inr none ↦ absurd none
        | inl ex ↦ elim (subst (IsIn (opposite_of y)) (newest_end s older is) iy) [
          | inr none ↦ absurd none
          | inl ey ↦ absurd (ne (opposite-injective x y (ex ∙ sym ey)))
        ]
      ]
      | inr not_one ↦ elim (subst (IsIn (opposite_of x)) (newest_on s older not_one) ix) [
        | inl ex ↦ elim (subst (IsIn (opposite_of y)) (newest_on s older not_one) iy) [
          | inl ey ↦ absurd (ne (opposite-injective x y (ex ∙ sym ey)))
          | inr ly ↦ omega (arith, pending_on marks s older not_one, on x mx ex, pending_positive marks older y my ly)
        ]
        | inr lx ↦ elim (subst (IsIn (opposite_of y)) (newest_on s older not_one) iy) [
          | inl ey ↦ omega (arith, pending_on marks s older not_one, on y my ey, pending_positive marks older x mx lx)
          | inr ly ↦ omega (arith, pending_on marks s older not_one, pending_two marks older x y mx my ne lx ly)
        ]
      ]
    ]

-- the marked literals at the end
pub all_marked : (r : Resolvent) (trail : TrailValue) (u x : ℕ) → (is : IsResolvent r trail) → r.pending ≡ 1 → IsMarked r.marks.items u → IsIn (opposite_of u) (newest_of (left_of r trail)) → IsMarked r.marks.items x → IsIn x (u ∷ is.earlier)
all_marked r trail u x is one mu nu mx = elim (is.marks.listed x mx) [
  | inr there ↦ inr there
  | inl newest ↦ elim (cases_eq x u) [
    | inl same ↦ inl same
    | inr ne ↦ absurd (omega (arith, one, is.marks.is_pending, pending_two r.marks.items (left_of r trail) x u mx mu ne newest nu))
  ]
]

-- what ended with a false clause from the marks does so from the clause
pub follows_marked : (marks : List Bool) (left : List Step) (learned : List ℕ) (hints : List (List ℕ)) → ((x : ℕ) → IsMarked marks x → IsIn x learned) → ((x : ℕ) → IsIn x learned → IsFalseIn (literals_of left) x) → EndsWith marks left hints → FollowsFrom learned hints
follows_marked marks left learned hints all falses ends =
    ends (map opposite_of learned)
    (λ x i. (let p = map-IsIn opposite_of x learned i in subst (λ y. IsIn y (literals_of left)) (sym p.2) (falses p.0 p.1)))
    (λ x m. IsIn-map opposite_of x learned (all x m))

absent_by_tests : (x : ℕ) (xs : List ℕ) → AllByRecursion (λ y. eqb x y ≡ false) xs → IsIn x xs → ⊥
absent_by_tests x [] a i = i
absent_by_tests x (y ∷ ys) a i = elim i [
  | inl is ↦ elim (eqb_tells x y) [ inl same ↦ true_not_false (eqb x y) same.0 a.0 | inr differ ↦ differ.1 is ]
  | inr later ↦ absent_by_tests x ys a.1 later
]

NoneTwice-IsDistinct : (xs : List ℕ) → IsDistinct eqb xs → NoneTwice xs
unfolding IsDistinct
NoneTwice-IsDistinct [] d = tt
NoneTwice-IsDistinct (x ∷ xs) d = (absent_by_tests x xs d.0, NoneTwice-IsDistinct xs d.1)

eqb-flips : (x y : ℕ) → eqb x y ≡ eqb y x
eqb-flips x y = elim (eqb_tells x y) [
  | inl same ↦ elim (eqb_tells y x) [ inl back ↦ same.0 ∙ sym back.0 | inr differ ↦ absurd (differ.1 (sym same.1)) ]
  | inr differ ↦ elim (eqb_tells y x) [ inl back ↦ absurd (differ.1 (sym back.1)) | inr both ↦ differ.0 ∙ sym both.0 ]
]

pub NoneTwice-permuted : (xs ys : List ℕ) → IsPermutation xs ys → NoneTwice xs → NoneTwice ys
NoneTwice-permuted xs ys p once = NoneTwice-IsDistinct ys (IsDistinct-IsPermutation eqb eqb-flips xs ys p (IsDistinct-NoneTwice xs once))

-- a list with its first member
first_of : (xs : List ℕ) → 1 ≤ length xs → (rest : List ℕ) × (xs ≡ get_or xs 0 0 ∷ rest)
first_of [] le = absurd (omega (arith, le))
first_of (x ∷ xs) le = (xs, refl)

back_of : (steps : List Step) (u : ℕ) (rest : List ℕ) (back : ℕ) → IsHighestBehind steps (u ∷ rest) back → IsBackLevel steps rest back
back_of steps u [] back h = h.alone (omega arith)
back_of steps u (second ∷ rest) back h = h.second (omega arith)

below_back : (steps : List Step) (u : ℕ) (rest : List ℕ) (back : ℕ) (earlier : List ℕ) → IsHighestBehind steps (u ∷ rest) back → ((x : ℕ) → IsIn x rest → IsIn x earlier) → ((x : ℕ) → IsIn x earlier → level_at steps (variable_of x) < level_of steps) → 0 < level_of steps → back < level_of steps
below_back steps u [] back earlier h within lower some = omega (arith, h.alone (omega arith), some)
below_back steps u (second ∷ rest) back earlier h within lower some = omega (arith, h.second (omega arith), lower second (within second (inl refl)))

-- the literals behind the first
pub asserting : (steps : List Step) (old new earlier : List ℕ) (u back : ℕ) → old ≡ u ∷ earlier → NoneTwice old → IsPermutation old new → get_or new 0 0 ≡ u → IsHighestBehind steps new back → level_at steps (variable_of u) ≡ level_of steps → ((x : ℕ) → IsIn x earlier → level_at steps (variable_of x) < level_of steps) → 0 < level_of steps → IsAsserting steps new back
asserting steps old new earlier u back is once p first h level lower some =
    let size : length new ≡ length old = length_permutation old new p in
    let f = first_of new (omega (arith, size, ap length is)) in
    let splits : new ≡ u ∷ f.0 = f.1 ∙ ap (λ y. y ∷ f.0) first in
    let once_new = subst NoneTwice splits (NoneTwice-permuted old new p once) in
    let h' = subst (λ ys. IsHighestBehind steps ys back) splits h in
    let in_earlier : (x : ℕ) → IsIn x f.0 → IsIn x earlier = λ x i.
    elim (subst (IsIn x) is (IsIn-permuted old new x p (subst (IsIn x) (sym splits) (inr i)))) [
      | inl same ↦ absurd (once_new.0 (subst (λ y. IsIn y f.0) same i))
      | inr there ↦ there
    ] in
    record {
      first = u;
      rest = f.0;
      splits = splits;
      newest = level;
      earlier = λ x i. (let at = place-IsIn f.0 x i in
          subst (λ y. level_at steps (variable_of y) ≤ back) at.2 (h'.highest (suc at.0) (omega arith) (omega (arith, at.1))));
      is_back = back_of steps u f.0 back h';
      below = below_back steps u f.0 back earlier h' in_earlier lower some;
    }

-- at the end, with one literal of the last decision
pub finished : (r one : Resolvent) (trail : TrailValue) (old new : List ℕ) (u back : ℕ) → (is : IsResolvent one trail) → one.pending ≡ 1 → IsMarked one.marks.items u → IsIn (opposite_of u) (newest_of (left_of one trail)) → ((hints : List (List ℕ)) → EndsWith r.marks.items (left_of r trail) hints → EndsWith one.marks.items (left_of one trail) hints) → old ≡ u ∷ is.earlier → IsPermutation old new → get_or new 0 0 ≡ get_or old 0 0 → IsHighestBehind trail.steps new back → 0 < level_of trail.steps → IsFinished r new trail back
finished r one trail old new u back is count mu nu kept is_old p first h some =
    let once : NoneTwice old = subst NoneTwice (sym is_old) ((λ i. is.marks.not_newest u i nu), is.marks.once) in
    let marked : (x : ℕ) → IsIn x new → IsMarked one.marks.items x = λ x i. elim (subst (IsIn x) is_old (IsIn-permuted old new x p i)) [
      | inl same ↦ subst (IsMarked one.marks.items) (sym same) mu
      | inr there ↦ is.marks.marked x there
    ] in
    let all : (x : ℕ) → IsMarked one.marks.items x → IsIn x new = λ x m. IsIn-permuted new old x (IsPermutation-sym old new p) (subst (IsIn x) (sym is_old) (all_marked one trail u x is count mu nu m)) in
    let falses : (x : ℕ) → IsIn x new → IsFalseIn (literals_of (left_of one trail)) x = λ x i. is.marks.all_false x (marked x i) in
    let level : level_at trail.steps (variable_of u) ≡ level_of trail.steps =
    level_of_false one trail u is (is.marks.all_false u mu) ∙ newest_level trail.variables (left_of one trail) (opposite_of u) (sound_left trail one.place is.sound is.within) nu ∙ is.newest in
    let lower : (x : ℕ) → IsIn x is.earlier → level_at trail.steps (variable_of x) < level_of trail.steps = λ x i.
    (let ne : level_at trail.steps (variable_of x) ≢ level_of trail.steps = λ e. is.marks.not_newest x i (is_newest one trail x is (is.marks.all_false x (is.marks.marked x i)) e) in
    omega (arith, level_at_most trail.steps (variable_of x))) in
    record {
      follows = λ hints ends. follows_marked one.marks.items (left_of one trail) new hints all falses (kept hints ends);
      different = NoneTwice-permuted old new p once;
      all_false = λ x i. among_left trail.steps one.place (opposite_of x) is.within (falses x i);
      empty = λ e. absurd (omega (arith, e, some));
      asserting = λ positive. asserting trail.steps old new is.earlier u back is_old once p (first ∙ ap (λ ys. get_or ys 0 0) is_old) h level lower some;
    }

-- with no decision nothing is marked at the end
pub none_marked : (r : Resolvent) (trail : TrailValue) (x : ℕ) → IsResolvent r trail → level_of trail.steps ≡ 0 → r.pending ≡ 0 → IsMarked r.marks.items x → ⊥
none_marked r trail x is none zero_pending m = elim (is.marks.listed x m) [
  | inl newest ↦ omega (arith, zero_pending, is.marks.is_pending, pending_positive r.marks.items (left_of r trail) x m newest)
  | inr there ↦ is.marks.not_newest x there (is_newest r trail x is (is.marks.all_false x m) (let e : level_at trail.steps (variable_of x) ≡ level_of trail.steps = omega (arith, level_at_most trail.steps (variable_of x), none) in e))
]

pub finished_empty : (r : Resolvent) (trail : TrailValue) (learned : List ℕ) → IsResolvent r trail → level_of trail.steps ≡ 0 → r.pending ≡ 0 → learned ≡ [] → IsFinished r learned trail 0
finished_empty r trail learned is none zero_pending e =
    subst (λ ls. IsFinished r ls trail 0) (sym e) (record {
      follows = λ hints ends. follows_marked r.marks.items (left_of r trail) [] hints (λ x m. absurd (none_marked r trail x is none zero_pending m)) (λ x i. absurd i) ends;
      different = tt;
      all_false = λ x i. absurd i;
      empty = λ zero_level. refl;
      asserting = λ some. absurd (omega (arith, some, none));
    })

-- the items of a vector that were all written
take_length : {A : Type 0} (xs : List A) → take (length xs) xs ≡ xs
take_length [] = refl
take_length {A} (x ∷ xs) = ap (λ ys. x ∷ ys) (take_length {A = A} xs)

take_whole : {A : Type 0} (xs : List A) (n : ℕ) → n ≡ length xs → take n xs ≡ xs
take_whole {A} xs n e = ap (λ k. take k xs) e ∙ take_length {A = A} xs

pub refilled : {A : Type 0} (n : ℕ) (ws items : List A) → n ≡ length ws → take n (ws ++ drop (length ws) items) ≡ ws
refilled {A} n ws items e = take-append-le n ws (drop (length ws) items) (omega (arith, e)) ∙ take_whole {A = A} ws n e

-- the highest level behind the first, after it was put there
pub highest_swapped : (steps : List Step) (old new : List ℕ) (at back : ℕ) → 2 ≤ length old → 1 ≤ at → at < length old → ((k : ℕ) → 1 ≤ k → k < length old → level_at steps (variable_of (get_or old k 0)) ≤ level_at steps (variable_of (get_or old at 0))) → new ≡ swap old 1 at → length new ≡ length old → back ≡ level_at steps (variable_of (get_or new 1 0)) → (get_or new 0 0 ≡ get_or old 0 0) × IsHighestBehind steps new back
highest_swapped steps old new at back two behind within highest is size back_is =
    let s = swapped_from_swap old new 1 at 0 (omega arith) within is in
    let top : back ≡ level_at steps (variable_of (get_or old at 0)) = back_is ∙ ap (λ x. level_at steps (variable_of x)) s.0 in (
      s.2 0 (omega arith) (omega arith),
      record {
        alone = λ lt. absurd (omega (arith, lt, size, two));
        second = λ le. sym back_is;
        highest = λ k low high. elim (cases_eq k 1) [
          | inl first ↦ omega (arith, back_is, ap (λ j. level_at steps (variable_of (get_or new j 0))) first)
          | inr not_first ↦ elim (cases_eq k at) [
            | inl there ↦ omega (arith, top, ap (λ j. level_at steps (variable_of (get_or new j 0))) there, ap (λ x. level_at steps (variable_of x)) s.1, highest 1 (omega arith) (omega (arith, two)))
            | inr apart ↦ omega (arith, top, ap (λ x. level_at steps (variable_of x)) (s.2 k not_first apart), highest k low (omega (arith, high, size)))
          ]
        ];
      },
    )

-- a literal whose level is low is false in the steps up to that level
false_back : (n m : ℕ) (steps : List Step) (x : ℕ) → IsSoundFor n steps → IsFalseIn (literals_of steps) x → level_at steps (variable_of x) ≤ m → IsFalseIn (literals_of (back_to m steps)) x
false_back n m [] x sound i le = i
false_back n m (s ∷ older) x sound i le = elim (leb_tells (level_of (s ∷ older)) m) [
  | inl within ↦ subst (λ ys. IsFalseIn (literals_of ys) x) (sym (back_to-here m (s ∷ older) within.1)) i
  | inr above ↦ elim i [
    | inl here ↦ absurd (omega (arith, above.1, le, level_here s older (variable_of x) (ap variable_of (sym here) ∙ opposite-variable x)))
    | inr later ↦
        (let apart : variable_of s.literal ≢ variable_of x = λ e. other_variable (literals_of older) s.literal (opposite_of x) sound.1 later (e ∙ sym (opposite-variable x)) in
        subst (λ ys. IsFalseIn (literals_of ys) x) (sym (back_to-older m s older above.1))
        (false_back n m older x sound.2 later (omega (arith, le, level_later s older (variable_of x) apart))))
  ]
]

-- a clause that wasn't false before the last decision has a pending literal
pub some_pending : (r : Resolvent) (trail : TrailValue) (clause : List ℕ) → IsResolvent r trail → ((x : ℕ) → IsIn x clause → IsMarked r.marks.items x) → IsFalseClause (literals_of trail.steps) clause → (IsFalseClause (literals_of (back_to (level_of trail.steps - 1) trail.steps)) clause → ⊥) → 0 < r.pending
some_pending r trail clause is marked falses newly = elim (cases_eq r.pending 0) [
  | inr some ↦ omega (arith, some)
  | inl none ↦ absurd (newly (λ x i.
      (let m = marked x i in
      let ne : level_at trail.steps (variable_of x) ≢ level_of trail.steps = λ e. (let p = pending_positive r.marks.items (left_of r trail) x m (is_newest r trail x is (is.marks.all_false x m) e) in omega (arith, none, is.marks.is_pending, p)) in
      false_back trail.variables (level_of trail.steps - 1) trail.steps x is.sound.steps (falses x i) (omega (arith, level_at_most trail.steps (variable_of x))))))
]
