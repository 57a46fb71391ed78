-- Straight code from one place on and from the next one.
use Rattle.std.proofs.Common.{◌≡◌, ◌≤◌, ◌<◌, ◌+◌, ◌↔◌, IsTrue, ℕ, Bool, false, List, [], ◌∷◌, length, drop, get_or, length-drop, add-one, arith, sym, ap, ◌∙◌, subst}
use Rattle.std.proofs.Math.Seq.{drop-cons}
use Rattle.std.proofs.lemmas.List.{nil_from_length}
use Rattle.opcodes.specs.Instructions.{length_of}
use Rattle.opcodes.specs.declared.listed.Listed.{Listed}
use Rattle.program.specs.Straight.{IsStraightStep, IsStraightEnd, IsStraightFrom}
use Rattle.program.specs.declared.method.Operand.{Operand}
use Rattle.program.specs.declared.stack_type.StackType.{StackType}
use Rattle.straight_check.specs.Telling.{StepsTo}

false_never : IsTrue false → ⊥
false_never t = cc

-- what is not so is exactly what the answer false says
pub never : {A : Type 0} → (A → ⊥) → IsTrue false ↔ A
never not = (λ t. absurd (false_never t), λ a. absurd (not a))

module _ (variables max_stack : ℕ) where
  -- behind a step the rest is straight exactly where all was
  steps : (pc : ℕ) (stack after : List StackType) (item next : Listed) (items : List Listed) (o : Operand) (names : List Operand) →
      StepsTo variables max_stack pc item o stack after →
      IsStraightFrom variables max_stack pc stack (item ∷ next ∷ items) (o ∷ names) ↔ IsStraightFrom variables max_stack (pc + length_of item.instr) after (next ∷ items) names
  steps pc stack after item next items o names told = (
    λ (other, step, rest). subst (λ (s : List StackType). IsStraightFrom variables max_stack (pc + length_of item.instr) s (next ∷ items) names) (told.only other step) rest,
    λ rest. (after, told.step, rest),
  )

  abbrev pub Same : List Listed → List Operand → ℕ → List StackType → ℕ → Type 0
  Same listing operands pc stack k =
      IsStraightFrom variables max_stack 0 [] listing operands ↔ IsStraightFrom variables max_stack pc stack (drop k listing) (drop k operands)

  -- what stands from a place on
  cut : {X : Type 0} (xs : List X) (k : ℕ) (d : X) → k < length xs → drop k xs ≡ get_or xs k d ∷ drop (k + 1) xs
  cut xs k d within = drop-cons xs k d within ∙ ap (λ n. get_or xs k d ∷ drop n xs) (sym (add-one k))

  past : {X : Type 0} (xs : List X) (k : ℕ) → length xs ≤ k → drop k xs ≡ []
  past xs k end = nil_from_length (drop k xs) (omega (arith, length-drop k xs))

  moves : (pc : ℕ) (stack after : List StackType) (item next : Listed) (items xs ys : List Listed) (o : Operand) (names os : List Operand) →
      xs ≡ item ∷ next ∷ items → ys ≡ next ∷ items → os ≡ o ∷ names → StepsTo variables max_stack pc item o stack after →
      IsStraightFrom variables max_stack pc stack xs os ↔ IsStraightFrom variables max_stack (pc + length_of item.instr) after ys names
  moves pc stack after item next items xs ys o names os are rest named told = rw (are, rest, named) (steps pc stack after item next items o names told)

  ends : (pc : ℕ) (stack : List StackType) (item : Listed) (xs : List Listed) (o : Operand) (os : List Operand) → xs ≡ item ∷ [] → os ≡ o ∷ [] →
      IsStraightFrom variables max_stack pc stack xs os ↔ IsStraightEnd pc item o
  ends pc stack item xs o os are named = rw (are, named) (λ h. h, λ h. h)

  misfits : (pc : ℕ) (stack : List StackType) (item next : Listed) (items xs : List Listed) (o : Operand) (names os : List Operand) →
      xs ≡ item ∷ next ∷ items → os ≡ o ∷ names → ((other : List StackType) → IsStraightStep variables max_stack pc item o stack other → ⊥) →
      IsStraightFrom variables max_stack pc stack xs os → ⊥
  misfits pc stack item next items xs o names os are named unfit = rw (are, named) (λ (other, step, rest). unfit other step)

  nothing_left : (pc : ℕ) (stack : List StackType) (xs : List Listed) (os : List Operand) → xs ≡ [] → IsStraightFrom variables max_stack pc stack xs os → ⊥
  nothing_left pc stack xs os none = rw none (λ h. h)

  module _ (listing : List Listed) (operands : List Operand) (as_many : length operands ≡ length listing) where
    pub starts : Same listing operands 0 [] 0
    starts = (λ h. h, λ h. h)

    pub goes_on_at : (k pc : ℕ) (stack after : List StackType) (d : Listed) (e : Operand) → k + 1 < length listing →
        StepsTo variables max_stack pc (get_or listing k d) (get_or operands k e) stack after → Same listing operands pc stack k →
        Same listing operands (pc + length_of (get_or listing k d).instr) after (k + 1)
    goes_on_at k pc stack after d e within told so_far =
        let two : drop k listing ≡ get_or listing k d ∷ get_or listing (k + 1) d ∷ drop (k + 1 + 1) listing =
        cut listing k d (omega arith) ∙ ap (λ (xs : List Listed). get_or listing k d ∷ xs) (cut listing (k + 1) d within) in
        let step = moves pc stack after (get_or listing k d) (get_or listing (k + 1) d) (drop (k + 1 + 1) listing) (drop k listing) (drop (k + 1) listing)
        (get_or operands k e) (drop (k + 1) operands) (drop k operands) two (cut listing (k + 1) d within) (cut operands k e (omega arith)) told in
        (λ h. step.0 (so_far.0 h), λ h. so_far.1 (step.1 h))

    pub ends_at : (b : Bool) (k pc : ℕ) (stack : List StackType) (d : Listed) (e : Operand) → k + 1 ≡ length listing →
        IsTrue b ↔ IsStraightEnd pc (get_or listing k d) (get_or operands k e) → Same listing operands pc stack k →
        IsTrue b ↔ IsStraightFrom variables max_stack 0 [] listing operands
    ends_at b k pc stack d e last told so_far =
        let one = cut listing k d (omega arith) ∙ ap (λ (xs : List Listed). get_or listing k d ∷ xs) (past listing (k + 1) (omega arith)) in
        let named = cut operands k e (omega arith) ∙ ap (λ (os : List Operand). get_or operands k e ∷ os) (past operands (k + 1) (omega arith)) in
        let end = ends pc stack (get_or listing k d) (drop k listing) (get_or operands k e) (drop k operands) one named in
        (λ t. so_far.1 (end.1 (told.0 t)), λ h. told.1 (end.0 (so_far.0 h)))

    pub misfits_at : (k pc : ℕ) (stack : List StackType) (d : Listed) (e : Operand) → k + 1 < length listing →
        ((other : List StackType) → IsStraightStep variables max_stack pc (get_or listing k d) (get_or operands k e) stack other → ⊥) → Same listing operands pc stack k →
        IsStraightFrom variables max_stack 0 [] listing operands → ⊥
    misfits_at k pc stack d e within unfit so_far all =
        let two : drop k listing ≡ get_or listing k d ∷ get_or listing (k + 1) d ∷ drop (k + 1 + 1) listing =
        cut listing k d (omega arith) ∙ ap (λ (xs : List Listed). get_or listing k d ∷ xs) (cut listing (k + 1) d within) in
        misfits pc stack (get_or listing k d) (get_or listing (k + 1) d) (drop (k + 1 + 1) listing) (drop k listing) (get_or operands k e) (drop (k + 1) operands) (drop k operands)
        two (cut operands k e (omega arith)) unfit (so_far.0 all)

    pub never_ends : (k pc : ℕ) (stack : List StackType) → length listing ≤ k → Same listing operands pc stack k → IsStraightFrom variables max_stack 0 [] listing operands → ⊥
    never_ends k pc stack end so_far all = nothing_left pc stack (drop k listing) (drop k operands) (past listing k end) (so_far.0 all)
