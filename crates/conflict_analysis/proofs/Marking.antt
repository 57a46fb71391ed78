-- What a mark, a step without a mark and a step that is resolved make of the marks.
use Rattle.std.proofs.Common.{◌≡◌, ◌≢◌, ℕ, ◌+◌, ◌-◌, ◌<◌, ◌⊎◌, inl, inr, List, [], ◌∷◌, ◌++◌, Bool, true, false, length, set, refl, sym, ◌∙◌, ap, subst, arith}
use Rattle.std.proofs.lemmas.Bool.{cases_eq}
use Rattle.std.proofs.lemmas.List.{get_or-set_same, get_or-set_other}
use Rattle.clause_pool.specs.PoolValue.{IsIn, NoneTwice}
use Rattle.literals.specs.Literal.{opposite_of}
use Rattle.literals.specs.Propagation.{IsFalseIn}
use Rattle.literals.proofs.Opposites.{opposite-opposite}
use Rattle.trail.specs.Steps.{literals_of, is_decision, IsSoundFor}
use Rattle.trail.specs.declared.step.Step.{Step}
use Rattle.conflict_analysis.specs.Marks.{mark_at, IsMarked, newest_of, one_if, pending_in, AreMarks}
use Rattle.conflict_analysis.proofs.Newest.{true_not_false, newest_on, newest_among, pending_on, pending_same, pending_more}

-- which literals are marked after a mark was set or taken
pub marked_after : (marks : List Bool) (x y : ℕ) → IsMarked (set marks x true) y → (y ≡ x) ⊎ IsMarked marks y
marked_after marks x y m = elim (cases_eq y x) [
  | inl same ↦ inl same
  | inr ne ↦ inr (sym (get_or-set_other marks x y true false ne) ∙ m)
]

pub marked_kept : (marks : List Bool) (x y : ℕ) → x < length marks → IsMarked marks y → IsMarked (set marks x true) y
marked_kept marks x y lt m = elim (cases_eq y x) [
  | inl same ↦ ap (mark_at (set marks x true)) same ∙ get_or-set_same marks x true false lt
  | inr ne ↦ get_or-set_other marks x y true false ne ∙ m
]

pub unmarked_other : (marks : List Bool) (x y : ℕ) → x < length marks → IsMarked (set marks x false) y → (y ≢ x) × IsMarked marks y
unmarked_other marks x y lt m = elim (cases_eq y x) [
  | inl same ↦ absurd (true_not_false (mark_at (set marks x false) x) (ap (mark_at (set marks x false)) (sym same) ∙ m) (get_or-set_same marks x false false lt))
  | inr ne ↦ (ne, sym (get_or-set_other marks x y false false ne) ∙ m)
]

pub marked_still : (marks : List Bool) (x y : ℕ) → y ≢ x → IsMarked marks y → IsMarked (set marks x false) y
marked_still marks x y ne m = get_or-set_other marks x y false false ne ∙ m

IsIn-end : (xs : List ℕ) (x y : ℕ) → IsIn y (xs ++ x ∷ []) → IsIn y xs ⊎ (y ≡ x)
IsIn-end [] x y i = elim i [ inl e ↦ inr e | inr none ↦ absurd none ]
IsIn-end (z ∷ xs) x y i = elim i [
  | inl e ↦ inl (inl e)
  | inr later ↦ elim (IsIn-end xs x y later) [ inl in_xs ↦ inl (inr in_xs) | inr e ↦ inr e ]
]

IsIn-before : (xs : List ℕ) (x y : ℕ) → IsIn y xs → IsIn y (xs ++ x ∷ [])
IsIn-before [] x y i = absurd i
IsIn-before (z ∷ xs) x y i = elim i [ inl e ↦ inl e | inr later ↦ inr (IsIn-before xs x y later) ]

IsIn-last : (xs : List ℕ) (x : ℕ) → IsIn x (xs ++ x ∷ [])
IsIn-last [] x = inl refl
IsIn-last (z ∷ xs) x = inr (IsIn-last xs x)

NoneTwice-end : (xs : List ℕ) (x : ℕ) → NoneTwice xs → (IsIn x xs → ⊥) → NoneTwice (xs ++ x ∷ [])
NoneTwice-end [] x once out = ((λ i. i), tt)
NoneTwice-end (z ∷ xs) x once out = (
  λ i. elim (IsIn-end xs x z i) [ inl in_xs ↦ once.0 in_xs | inr e ↦ out (inl (sym e)) ],
  NoneTwice-end xs x once.1 (λ i. out (inr i)),
)

-- a literal of the last decision
pub AreMarks-newest : (n : ℕ) (marks : List Bool) (left : List Step) (earlier : List ℕ) (pending x : ℕ) → IsSoundFor n left → AreMarks marks left earlier pending → x < length marks → mark_at marks x ≡ false → IsIn (opposite_of x) (newest_of left) → AreMarks (set marks x true) left earlier (pending + 1)
AreMarks-newest n marks left earlier pending x sound a lt off i = record {
  all_false = λ y m. elim (marked_after marks x y m) [
    | inl same ↦ subst (IsFalseIn (literals_of left)) (sym same) (newest_among left (opposite_of x) i)
    | inr old ↦ a.all_false y old
  ];
  is_pending = ap (λ k. k + 1) a.is_pending ∙ sym (pending_more n marks left x sound lt off i);
  listed = λ y m. elim (marked_after marks x y m) [
    | inl same ↦ inl (subst (λ z. IsIn (opposite_of z) (newest_of left)) (sym same) i)
    | inr old ↦ a.listed y old
  ];
  marked = λ y j. marked_kept marks x y lt (a.marked y j);
  not_newest = a.not_newest;
  once = a.once;
}

-- a literal that was false before the last decision
pub AreMarks-earlier : (marks : List Bool) (left : List Step) (earlier : List ℕ) (pending x : ℕ) → AreMarks marks left earlier pending → x < length marks → mark_at marks x ≡ false → IsFalseIn (literals_of left) x → (IsIn (opposite_of x) (newest_of left) → ⊥) → AreMarks (set marks x true) left (earlier ++ x ∷ []) pending
AreMarks-earlier marks left earlier pending x a lt off is_false out = record {
  all_false = λ y m. elim (marked_after marks x y m) [
    | inl same ↦ subst (IsFalseIn (literals_of left)) (sym same) is_false
    | inr old ↦ a.all_false y old
  ];
  is_pending = a.is_pending ∙ sym (pending_same marks left x true out);
  listed = λ y m. elim (marked_after marks x y m) [
    | inl same ↦ inr (subst (λ z. IsIn z (earlier ++ x ∷ [])) (sym same) (IsIn-last earlier x))
    | inr old ↦ elim (a.listed y old) [ inl newest ↦ inl newest | inr there ↦ inr (IsIn-before earlier x y there) ]
  ];
  marked = λ y j. elim (IsIn-end earlier x y j) [
    | inl there ↦ marked_kept marks x y lt (a.marked y there)
    | inr same ↦ ap (mark_at (set marks x true)) same ∙ get_or-set_same marks x true false lt
  ];
  not_newest = λ y j. elim (IsIn-end earlier x y j) [
    | inl there ↦ a.not_newest y there
    | inr same ↦ subst (λ z. IsIn (opposite_of z) (newest_of left) → ⊥) (sym same) out
  ];
  once = NoneTwice-end earlier x a.once (λ j. true_not_false (mark_at marks x) (a.marked x j) off);
}

not_head : (s : Step) (y : ℕ) → y ≢ opposite_of s.literal → opposite_of y ≢ s.literal
not_head s y ne e = ne (sym (opposite-opposite y) ∙ ap opposite_of e)

-- a step whose opposite isn't marked
pub AreMarks-skip : (marks : List Bool) (s : Step) (older : List Step) (earlier : List ℕ) (pending : ℕ) → AreMarks marks (s ∷ older) earlier pending → mark_at marks (opposite_of s.literal) ≡ false → is_decision s.reason ≡ false → AreMarks marks older earlier pending
AreMarks-skip marks s older earlier pending a off on =
    let apart : (y : ℕ) → IsMarked marks y → opposite_of y ≢ s.literal = λ y m e. not_head s y (λ same. true_not_false (mark_at marks (opposite_of s.literal)) (ap (mark_at marks) (sym same) ∙ m) off) e in
    record {
      all_false = λ y m. elim (a.all_false y m) [ inl here ↦ absurd (apart y m here) | inr later ↦ later ];
      is_pending = a.is_pending ∙ pending_on marks s older on ∙ ap (λ b. one_if b + pending_in marks older) off ∙ (let e : 0 + pending_in marks older ≡ pending_in marks older = omega arith in e);
      listed = λ y m. elim (a.listed y m) [
        | inl newest ↦ elim (subst (IsIn (opposite_of y)) (newest_on s older on) newest) [ inl here ↦ absurd (apart y m here) | inr later ↦ inl later ]
        | inr there ↦ inr there
      ];
      marked = a.marked;
      not_newest = λ y j i. a.not_newest y j (subst (IsIn (opposite_of y)) (sym (newest_on s older on)) (inr i));
      once = a.once;
    }

-- a step whose opposite is taken out of the marks
pub AreMarks-unmark : (n : ℕ) (marks : List Bool) (s : Step) (older : List Step) (earlier : List ℕ) (pending : ℕ) → IsSoundFor n (s ∷ older) → AreMarks marks (s ∷ older) earlier pending → opposite_of s.literal < length marks → IsMarked marks (opposite_of s.literal) → is_decision s.reason ≡ false → AreMarks (set marks (opposite_of s.literal) false) older earlier (pending - 1)
AreMarks-unmark n marks s older earlier pending sound a lt is_marked on =
    let u : ℕ = opposite_of s.literal in
    let out : IsIn (opposite_of u) (newest_of older) → ⊥ = λ i. sound.1.not_true (subst (λ z. IsIn z (literals_of older)) (opposite-opposite s.literal) (newest_among older (opposite_of u) i)) in
    record {
      all_false = λ y m. (let w = unmarked_other marks u y lt m in
          elim (a.all_false y w.1) [ inl here ↦ absurd (not_head s y w.0 here) | inr later ↦ later ]);
      is_pending = omega (arith, a.is_pending, pending_on marks s older on, ap one_if is_marked, pending_same marks older u false out);
      listed = λ y m. (let w = unmarked_other marks u y lt m in
          elim (a.listed y w.1) [
            | inl newest ↦ elim (subst (IsIn (opposite_of y)) (newest_on s older on) newest) [ inl here ↦ absurd (not_head s y w.0 here) | inr later ↦ inl later ]
            | inr there ↦ inr there
          ]);
      marked = λ y j. marked_still marks u y (λ e. a.not_newest y j (inl (ap opposite_of e ∙ opposite-opposite s.literal))) (a.marked y j);
      not_newest = λ y j i. a.not_newest y j (subst (IsIn (opposite_of y)) (sym (newest_on s older on)) (inr i));
      once = a.once;
    }
