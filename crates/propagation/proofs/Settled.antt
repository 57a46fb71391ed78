-- What follows from the watches.
use Rattle.std.proofs.Common.{◌≡◌, ◌≢◌, ℕ, ◌+◌, ◌-◌, ◌≤◌, ◌<◌, inl, inr, List, [], ◌∷◌, Option, Some, length, get_or, refl, sym, ◌∙◌, subst, arith}
use Rattle.std.proofs.lemmas.Bool.{cases_eq}
use Rattle.std.proofs.lemmas.Bool.Decides.{leb_tells}
use Rattle.clause_pool.specs.PoolValue.{PoolValue, clause_at, IsIn, IsWatched, IsSound, NoneTwice}
use Rattle.clause_pool.proofs.Swapped.{differ_at}
use Rattle.literals.specs.Propagation.{IsTrueIn, IsConsistent, IsFalseClause, IsUnit}
use Rattle.literals.proofs.Members.{IsIn-place}
use Rattle.trail.specs.Steps.{TrailValue, IsSoundFor, literals_of, level_of, rise_of, back_to}
use Rattle.trail.specs.declared.step.Reason.{Reason}
use Rattle.trail.specs.declared.step.Reason.TheVariants.{Decision, Clause, Decisions}
use Rattle.trail.specs.declared.step.Step.{Step}
use Rattle.trail.proofs.Back.{back_to-here, back_to-older}
use Rattle.propagation.specs.Ready.{IsFit}
use Rattle.propagation.proofs.Consistency.{consistent}
use Rattle.propagation.specs.Watches.{WatchesHold, AreWatched, WereWatched, AreWatchedBelow, HaveReasons, NothingFollows}

-- the first two literals of a clause of two or more
first_two : (ls : List ℕ) → 2 ≤ length ls → NoneTwice ls → IsWatched ls (get_or ls 0 0) × IsWatched ls (get_or ls 1 0) × (get_or ls 0 0 ≢ get_or ls 1 0)
first_two ls two once = (
  record { two = two; side = inl refl },
  record { two = two; side = inr refl },
  differ_at ls 0 1 once (omega arith) (omega arith) (omega arith),
)

not_all_false : (trail ls : List ℕ) → IsConsistent trail → 2 ≤ length ls → NoneTwice ls → WatchesHold trail trail ls → IsFalseClause trail ls → ⊥
not_all_false trail ls fine two once h all =
    let w = first_two ls two once in
    fine (get_or ls 1 0) (h (get_or ls 0 0) (get_or ls 1 0) w.0 w.1 w.2 (all (get_or ls 0 0) (IsIn-place ls 0 (omega arith)))) (all (get_or ls 1 0) (IsIn-place ls 1 (omega arith)))

unit_at : (trail ls : List ℕ) (l a b : ℕ) → IsConsistent trail → WatchesHold trail trail ls → IsUnit trail ls l → IsWatched ls a → IsWatched ls b → a ≢ b → IsIn a ls → IsIn b ls → a ≢ l → ⊥
unit_at trail ls l a b fine h u wa wb ne ia ib differ =
    let b_true : IsTrueIn trail b = h a b wa wb ne (u.unit.others_false a ia differ) in
    elim (cases_eq b l) [
      | inl same ↦ u.open_value.not_true (subst (IsTrueIn trail) same b_true)
      | inr apart ↦ fine b b_true (u.unit.others_false b ib apart)
    ]

not_unit : (trail ls : List ℕ) (l : ℕ) → IsConsistent trail → 2 ≤ length ls → NoneTwice ls → WatchesHold trail trail ls → IsUnit trail ls l → ⊥
not_unit trail ls l fine two once h u =
    let w = first_two ls two once in
    let i0 = IsIn-place ls 0 (omega arith) in
    let i1 = IsIn-place ls 1 (omega arith) in
    elim (cases_eq (get_or ls 0 0) l) [
      | inl same ↦ unit_at trail ls l (get_or ls 1 0) (get_or ls 0 0) fine h u w.1 w.0 (λ e. w.2 (sym e)) i1 i0 (λ e. w.2 (same ∙ sym e))
      | inr apart ↦ unit_at trail ls l (get_or ls 0 0) (get_or ls 1 0) fine h u w.0 w.1 w.2 i0 i1 apart
    ]

pub nothing_follows : (pool : PoolValue) (trail : List ℕ) → IsSound pool → IsConsistent trail → AreWatched trail trail pool.clauses → NothingFollows pool.clauses trail
nothing_follows pool trail sound fine all clause ls found two = (
  not_all_false trail ls fine two (sound.different clause ls found) (all clause ls found),
  λ l u. not_unit trail ls l fine two (sound.different clause ls found) (all clause ls found) u,
)

-- decisions that are taken back
at_decision : (clauses : List (Option (List ℕ))) (reason : Reason) (older : List ℕ) (n level : ℕ) → n ≤ level → level < n + rise_of reason → WereWatched clauses reason older → AreWatched older older clauses
at_decision clauses Decision older n level le lt w = w
at_decision clauses (Clause clause) older n level le lt w = absurd (omega arith)
at_decision clauses Decisions older n level le lt w = absurd (omega arith)

pub back_is_watched : (clauses : List (Option (List ℕ))) (steps : List Step) (level : ℕ) → level < level_of steps → AreWatchedBelow clauses steps → AreWatched (literals_of (back_to level steps)) (literals_of (back_to level steps)) clauses
back_is_watched clauses [] level lt w = absurd (omega arith)
back_is_watched clauses (s ∷ older) level lt w = elim (leb_tells (level_of older) level) [
  | inl within ↦ subst (λ ys. AreWatched (literals_of ys) (literals_of ys) clauses) (sym (back_to-older level s older lt ∙ back_to-here level older within.1))
      (at_decision clauses s.reason (literals_of older) (level_of older) level within.1 lt w.0)
  | inr above ↦ subst (λ ys. AreWatched (literals_of ys) (literals_of ys) clauses) (sym (back_to-older level s older lt)) (back_is_watched clauses older level above.1 w.1)
]

pub back_keeps : (clauses : List (Option (List ℕ))) (steps : List Step) (level : ℕ) → AreWatchedBelow clauses steps → HaveReasons clauses steps → AreWatchedBelow clauses (back_to level steps) × HaveReasons clauses (back_to level steps)
back_keeps clauses [] level w r = (tt, tt)
back_keeps clauses (s ∷ older) level w r = elim (leb_tells (level_of (s ∷ older)) level) [
  | inl within ↦ subst (λ ys. AreWatchedBelow clauses ys × HaveReasons clauses ys) (sym (back_to-here level (s ∷ older) within.1)) (w, r)
  | inr above ↦ subst (λ ys. AreWatchedBelow clauses ys × HaveReasons clauses ys) (sym (back_to-older level s older above.1)) (back_keeps clauses older level w.1 r.1)
]

sound_back : (n : ℕ) (steps : List Step) (level : ℕ) → IsSoundFor n steps → IsSoundFor n (back_to level steps)
sound_back n [] level sound = tt
sound_back n (s ∷ older) level sound = elim (leb_tells (level_of (s ∷ older)) level) [
  | inl within ↦ subst (IsSoundFor n) (sym (back_to-here level (s ∷ older) within.1)) sound
  | inr above ↦ subst (IsSoundFor n) (sym (back_to-older level s older above.1)) (sound_back n older level sound.2)
]

-- a clause of two or more literals wasn't false before the last decision
pub not_false_before : (pool : PoolValue) (trail : TrailValue) (clause : ℕ) (ls : List ℕ) → IsFit pool trail → clause_at pool.clauses clause ≡ Some ls → 2 ≤ length ls → 0 < level_of trail.steps → IsFalseClause (literals_of (back_to (level_of trail.steps - 1) trail.steps)) ls → ⊥
not_false_before pool trail clause ls fit found two some all =
    let watched = back_is_watched pool.clauses trail.steps (level_of trail.steps - 1) (omega (arith, some)) fit.below in
    let fine = consistent trail.variables (back_to (level_of trail.steps - 1) trail.steps) (sound_back trail.variables trail.steps (level_of trail.steps - 1) fit.trail_sound.steps) in
    not_all_false (literals_of (back_to (level_of trail.steps - 1) trail.steps)) ls fine two (fit.sound.different clause ls found) (watched clause ls found) all
