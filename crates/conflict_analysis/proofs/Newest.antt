-- The steps of the last decision, and the levels of literals.
use Rattle.std.proofs.Common.{◌≡◌, ◌≢◌, ℕ, ◌+◌, ◌≤◌, ◌<◌, ◌⊎◌, inl, inr, List, [], ◌∷◌, ◌++◌, Bool, true, false, cond, length, set, refl, sym, ◌∙◌, ap, subst, arith}
use Rattle.std.proofs.lemmas.Bool.{cases_eq}
use Rattle.std.proofs.lemmas.Bool.Decides.{eqb_tells}
use Rattle.std.proofs.lemmas.List.{get_or-set_same, get_or-set_other}
use Rattle.clause_pool.specs.PoolValue.{IsIn}
use Rattle.literals.specs.Literal.{opposite_of, variable_of}
use Rattle.literals.specs.Propagation.{HasNoValueIn}
use Rattle.literals.proofs.Opposites.{same_variable, opposite-opposite}
use Rattle.trail.specs.Steps.{literals_of, level_of, level_at, rise_of, is_decision, IsSoundFor}
use Rattle.trail.specs.declared.step.Reason.{Reason}
use Rattle.trail.specs.declared.step.Reason.TheVariants.{Decision, Clause, Decisions}
use Rattle.trail.specs.declared.step.Step.{Step}
use Rattle.propagation.proofs.Consistency.{IsIn-append, literals_of-append}
use Rattle.conflict_analysis.specs.Marks.{mark_at, IsMarked, newest_of, one_if, pending_in}

pub bool_cases : (b : Bool) → (b ≡ true) ⊎ (b ≡ false)
bool_cases true = inl refl
bool_cases false = inr refl

pub true_not_false : (b : Bool) → b ≡ true → b ≡ false → ⊥
true_not_false b t f = cc

pub newest_on : (s : Step) (older : List Step) → is_decision s.reason ≡ false → newest_of (s ∷ older) ≡ s.literal ∷ newest_of older
newest_on s older e = ap (λ b. s.literal ∷ cond b [] (newest_of older)) e

pub newest_end : (s : Step) (older : List Step) → is_decision s.reason ≡ true → newest_of (s ∷ older) ≡ s.literal ∷ []
newest_end s older e = ap (λ b. s.literal ∷ cond b [] (newest_of older)) e

pub rise_on : (reason : Reason) → is_decision reason ≡ false → rise_of reason ≡ 0
rise_on Decision e = absurd (true_not_false true refl e)
rise_on (Clause clause) e = refl
rise_on Decisions e = refl

pub rise_end : (reason : Reason) → is_decision reason ≡ true → rise_of reason ≡ 1
rise_end Decision e = refl
rise_end (Clause clause) e = absurd (true_not_false false e refl)
rise_end Decisions e = absurd (true_not_false false e refl)

pub newest_among : (steps : List Step) (x : ℕ) → IsIn x (newest_of steps) → IsIn x (literals_of steps)
newest_among [] x i = i
newest_among (s ∷ older) x i = elim (bool_cases (is_decision s.reason)) [
  | inl is ↦ elim (subst (IsIn x) (newest_end s older is) i) [ inl here ↦ inl here | inr none ↦ absurd none ]
  | inr not_one ↦ elim (subst (IsIn x) (newest_on s older not_one) i) [ inl here ↦ inl here | inr later ↦ inr (newest_among older x later) ]
]

pub level_at_most : (steps : List Step) (variable : ℕ) → level_at steps variable ≤ level_of steps
level_at_most [] variable = omega arith
level_at_most (s ∷ older) variable = elim (eqb_tells (variable_of s.literal) variable) [
  | inl same ↦ omega (arith, ap (λ b. cond b (level_of (s ∷ older)) (level_at older variable)) same.0)
  | inr differ ↦ omega (arith, ap (λ b. cond b (level_of (s ∷ older)) (level_at older variable)) differ.0, level_at_most older variable)
]

pub level_here : (s : Step) (older : List Step) (variable : ℕ) → variable_of s.literal ≡ variable → level_at (s ∷ older) variable ≡ level_of (s ∷ older)
level_here s older variable e = elim (eqb_tells (variable_of s.literal) variable) [
  | inl same ↦ ap (λ b. cond b (level_of (s ∷ older)) (level_at older variable)) same.0
  | inr differ ↦ absurd (differ.1 e)
]

pub level_later : (s : Step) (older : List Step) (variable : ℕ) → variable_of s.literal ≢ variable → level_at (s ∷ older) variable ≡ level_at older variable
level_later s older variable ne = elim (eqb_tells (variable_of s.literal) variable) [
  | inl same ↦ absurd (ne same.1)
  | inr differ ↦ ap (λ b. cond b (level_of (s ∷ older)) (level_at older variable)) differ.0
]

-- a literal of the newest steps has the level of all of them
pub newest_level : (n : ℕ) (steps : List Step) (l : ℕ) → IsSoundFor n steps → IsIn l (newest_of steps) → level_at steps (variable_of l) ≡ level_of steps
newest_level n [] l sound i = absurd i
newest_level n (s ∷ older) l sound i = elim (eqb_tells (variable_of s.literal) (variable_of l)) [
  | inl same ↦ level_here s older (variable_of l) same.1
  | inr differ ↦ elim (bool_cases (is_decision s.reason)) [
    | inl is ↦ elim (subst (IsIn l) (newest_end s older is) i) [ inl here ↦ absurd (differ.1 (ap variable_of (sym here))) | inr none ↦ absurd none ]
    | inr not_one ↦ elim (subst (IsIn l) (newest_on s older not_one) i) [
      | inl here ↦ absurd (differ.1 (ap variable_of (sym here)))
      | inr later ↦ omega (arith, level_later s older (variable_of l) differ.1, newest_level n older l sound.2 later, rise_on s.reason not_one)
    ]
  ]
]

-- a literal of an older step is one of another variable
pub other_variable : (trail : List ℕ) (l m : ℕ) → HasNoValueIn trail l → IsIn m trail → variable_of l ≢ variable_of m
other_variable trail l m none i e = elim (same_variable l m e) [
  | inl same ↦ none.not_true (subst (λ x. IsIn x trail) (sym same) i)
  | inr other ↦ none.not_false (subst (λ x. IsIn x trail) (sym (ap opposite_of other ∙ opposite-opposite m)) i)
]

-- and no other literal of the trail has
pub level_newest : (n : ℕ) (steps : List Step) (l : ℕ) → IsSoundFor n steps → IsIn l (literals_of steps) → level_at steps (variable_of l) ≡ level_of steps → IsIn l (newest_of steps)
level_newest n [] l sound i e = i
level_newest n (s ∷ older) l sound i e = elim i [
  | inl here ↦ inl here
  | inr later ↦
      (let apart = other_variable (literals_of older) s.literal l sound.1 later in
      elim (bool_cases (is_decision s.reason)) [
        | inl is ↦ absurd (omega (arith, level_later s older (variable_of l) apart, level_at_most older (variable_of l), rise_end s.reason is, e))
        | inr not_one ↦ subst (IsIn l) (sym (newest_on s older not_one)) (inr (level_newest n older l sound.2 later (omega (arith, level_later s older (variable_of l) apart, rise_on s.reason not_one, e))))
      ])
]

-- the level of a literal of the older steps
pub level_older : (n : ℕ) (newer older : List Step) (l : ℕ) → IsSoundFor n (newer ++ older) → IsIn l (literals_of older) → level_at (newer ++ older) (variable_of l) ≡ level_at older (variable_of l)
level_older n [] older l sound i = refl
level_older n (s ∷ newer) older l sound i =
    level_later s (newer ++ older) (variable_of l) (other_variable (literals_of (newer ++ older)) s.literal l sound.1 (subst (IsIn l) (sym (literals_of-append newer older)) (IsIn-append l (literals_of newer) (literals_of older) i)))
    ∙ level_older n newer older l sound.2 i

pub sound_older : (n : ℕ) (newer older : List Step) → IsSoundFor n (newer ++ older) → IsSoundFor n older
sound_older n [] older sound = sound
sound_older n (s ∷ newer) older sound = sound_older n newer older sound.2

-- the count of pending literals
pub pending_on : (marks : List Bool) (s : Step) (older : List Step) → is_decision s.reason ≡ false → pending_in marks (s ∷ older) ≡ one_if (mark_at marks (opposite_of s.literal)) + pending_in marks older
pending_on marks s older e = ap (λ b. one_if (mark_at marks (opposite_of s.literal)) + cond b 0 (pending_in marks older)) e

pub pending_end : (marks : List Bool) (s : Step) (older : List Step) → is_decision s.reason ≡ true → pending_in marks (s ∷ older) ≡ one_if (mark_at marks (opposite_of s.literal)) + 0
pending_end marks s older e = ap (λ b. one_if (mark_at marks (opposite_of s.literal)) + cond b 0 (pending_in marks older)) e

mark-other : (marks : List Bool) (x y : ℕ) (b : Bool) → y ≢ x → mark_at (set marks x b) y ≡ mark_at marks y
mark-other marks x y b ne = get_or-set_other marks x y b false ne

pub pending_same : (marks : List Bool) (steps : List Step) (x : ℕ) (b : Bool) → (IsIn (opposite_of x) (newest_of steps) → ⊥) → pending_in (set marks x b) steps ≡ pending_in marks steps
pending_same marks [] x b out = refl
pending_same marks (s ∷ older) x b out =
    let here : mark_at (set marks x b) (opposite_of s.literal) ≡ mark_at marks (opposite_of s.literal) = mark-other marks x (opposite_of s.literal) b (λ e. out (inl (ap opposite_of (sym e) ∙ opposite-opposite s.literal))) in
    elim (bool_cases (is_decision s.reason)) [
      | inl is ↦ pending_end (set marks x b) s older is ∙ ap (λ m. one_if m + 0) here ∙ sym (pending_end marks s older is)
      | inr not_one ↦
          pending_on (set marks x b) s older not_one
          ∙ ap (λ m. one_if m + pending_in (set marks x b) older) here
          ∙ ap (λ n. one_if (mark_at marks (opposite_of s.literal)) + n) (pending_same marks older x b (λ i. out (subst (IsIn (opposite_of x)) (sym (newest_on s older not_one)) (inr i))))
          ∙ sym (pending_on marks s older not_one)
    ]

out_of_older : (n : ℕ) (s : Step) (older : List Step) (x : ℕ) → IsSoundFor n (s ∷ older) → opposite_of x ≡ s.literal → IsIn (opposite_of x) (newest_of older) → ⊥
out_of_older n s older x sound e i = sound.1.not_true (subst (λ y. IsIn y (literals_of older)) e (newest_among older (opposite_of x) i))

pub pending_more : (n : ℕ) (marks : List Bool) (steps : List Step) (x : ℕ) → IsSoundFor n steps → x < length marks → mark_at marks x ≡ false → IsIn (opposite_of x) (newest_of steps) → pending_in (set marks x true) steps ≡ pending_in marks steps + 1
pending_more n marks [] x sound lt off i = absurd i
pending_more n marks (s ∷ older) x sound lt off i = elim (cases_eq (opposite_of x) s.literal) [
  | inl same ↦
      (let is_x : opposite_of s.literal ≡ x = ap opposite_of (sym same) ∙ opposite-opposite x in
      let on : one_if (mark_at (set marks x true) (opposite_of s.literal)) ≡ 1 = ap (λ y. one_if (mark_at (set marks x true) y)) is_x ∙ ap one_if (get_or-set_same marks x true false lt) in
      let was : one_if (mark_at marks (opposite_of s.literal)) ≡ 0 = ap (λ y. one_if (mark_at marks y)) is_x ∙ ap one_if off in
      elim (bool_cases (is_decision s.reason)) [
        | inl is ↦ omega (arith, pending_end (set marks x true) s older is, pending_end marks s older is, on, was)
        | inr not_one ↦ omega (arith, pending_on (set marks x true) s older not_one, pending_on marks s older not_one, on, was, pending_same marks older x true (out_of_older n s older x sound same))
      ])
  | inr ne ↦
      (let here : one_if (mark_at (set marks x true) (opposite_of s.literal)) ≡ one_if (mark_at marks (opposite_of s.literal)) = ap one_if (mark-other marks x (opposite_of s.literal) true (λ e. ne (ap opposite_of (sym e) ∙ opposite-opposite s.literal))) in
      elim (bool_cases (is_decision s.reason)) [
        | inl is ↦ elim (subst (IsIn (opposite_of x)) (newest_end s older is) i) [ inl same ↦ absurd (ne same) | inr none ↦ absurd none ]
        | inr not_one ↦ elim (subst (IsIn (opposite_of x)) (newest_on s older not_one) i) [
          | inl same ↦ absurd (ne same)
          | inr later ↦ omega (arith, pending_on (set marks x true) s older not_one, pending_on marks s older not_one, here, pending_more n marks older x sound.2 lt off later)
        ]
      ])
]

-- where one is pending and this one is marked, no other is
pub pending_positive : (marks : List Bool) (steps : List Step) (x : ℕ) → IsMarked marks x → IsIn (opposite_of x) (newest_of steps) → 0 < pending_in marks steps
pending_positive marks [] x m i = absurd i
pending_positive marks (s ∷ older) x m i = elim (cases_eq (opposite_of x) s.literal) [
  | inl same ↦
      (let on : one_if (mark_at marks (opposite_of s.literal)) ≡ 1 = ap (λ y. one_if (mark_at marks y)) (ap opposite_of (sym same) ∙ opposite-opposite x) ∙ ap one_if m in
      elim (bool_cases (is_decision s.reason)) [
        | inl is ↦ omega (arith, pending_end marks s older is, on)
        | inr not_one ↦ omega (arith, pending_on marks s older not_one, on)
      ])
  | inr ne ↦ elim (bool_cases (is_decision s.reason)) [
    | inl is ↦ elim (subst (IsIn (opposite_of x)) (newest_end s older is) i) [ inl same ↦ absurd (ne same) | inr none ↦ absurd none ]
    | inr not_one ↦ elim (subst (IsIn (opposite_of x)) (newest_on s older not_one) i) [
      | inl same ↦ absurd (ne same)
      | inr later ↦ omega (arith, pending_on marks s older not_one, pending_positive marks older x m later)
    ]
  ]
]
