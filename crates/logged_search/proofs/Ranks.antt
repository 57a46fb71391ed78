-- A step that was not decided in place of a decision makes a trail come later, whatever follows.
use Rattle.std.proofs.Common.{◌≡◌, ◌+◌, ◌-◌, ◌*◌, ◌^◌, ◌<◌, ◌≤◌, ◌∙◌, ℕ, zero, suc, List, [], ◌∷◌, ◌++◌, add-one, cond, true, false, inl, inr, ap, arith, length}
use Rattle.std.proofs.Math.Nat.{pow-suc}
use Rattle.std.proofs.lemmas.Bool.Decides.{leb_tells}
use Rattle.trail.specs.Steps.{IsSoundFor, back_to, is_decision, level_of}
use Rattle.trail.specs.declared.step.Step.{Step}
use Rattle.trail.proofs.Back.{back_to-here, back_to-older}
use Rattle.trail.proofs.Soundness.{few_steps}
use Rattle.conflict_analysis.proofs.Newest.{bool_cases}
use Rattle.search_steps.proofs.Returning.{decides}
use Rattle.logged_search.specs.Ranks.{next_rank, rank_of, trails_after}

pub pow-double : (m : ℕ) → 2 ^ (m + 1) ≡ 2 ^ m + 2 ^ m
pow-double m = ap (λ x. 2 ^ x) (add-one m) ∙ pow-suc 2 m ∙ twice (2 ^ m)
  where
    twice : (x : ℕ) → x * 2 ≡ x + x
    twice x = omega arith

pub pow-some : (m : ℕ) → 0 < 2 ^ m
pow-some zero = omega arith
pow-some (suc m) = let e = pow-suc 2 m in let p = pow-some m in omega (arith, e, p)

-- one step more, and half as many trails
halves : (n k : ℕ) → k < n → trails_after n k ≡ trails_after n (k + 1) + trails_after n (k + 1)
unfolding trails_after
halves n k lt =
    let e : n - k ≡ (n - (k + 1)) + 1 = omega (arith, lt) in
    ap (λ x. 2 ^ x) e ∙ pow-double (n - (k + 1))

some-after : (n k : ℕ) → 0 < trails_after n k
unfolding trails_after
some-after n k = pow-some (n - k)

rank-more : (n : ℕ) (s : Step) (older : List Step) → rank_of n older ≤ rank_of n (s ∷ older)
rank-more n s older = omega arith

rank-decided : (n : ℕ) (s : Step) (older : List Step) → is_decision s.reason ≡ true → rank_of n (s ∷ older) ≡ rank_of n older + 1
rank-decided n s older is = ap (λ b. rank_of n older + cond b 1 (trails_after n (length older))) is

pub rank-propagated : (n : ℕ) (s : Step) (older : List Step) → is_decision s.reason ≡ false → rank_of n (s ∷ older) ≡ next_rank n older
rank-propagated n s older is = ap (λ b. rank_of n older + cond b 1 (trails_after n (length older))) is

-- more steps
pub rank-grown : (n : ℕ) (newer older : List Step) → rank_of n older ≤ rank_of n (newer ++ older)
rank-grown n [] older = omega arith
rank-grown n (s ∷ newer) older = omega (arith, rank-grown n newer older, rank-more n s (newer ++ older))

-- every trail of so many steps, and those that go on from it, come before the end
rank-bounded : (n : ℕ) (steps : List Step) → length steps ≤ n → rank_of n steps + trails_after n (length steps) + trails_after n (length steps) ≤ trails_after n 0 + trails_after n 0
rank-bounded n [] few = omega arith
rank-bounded n (s ∷ older) few =
    let before = rank-bounded n older (omega (arith, few)) in
    let half = halves n (length older) (omega (arith, few)) in
    let some = some-after n (length older) in
    let count : length (s ∷ older) ≡ length older + 1 = omega arith in
    let same = ap (trails_after n) count in
    elim (bool_cases (is_decision s.reason)) [
      | inl is ↦ (let here = rank-decided n s older is in omega (arith, before, half, some, same, here))
      | inr not_one ↦ (let here = rank-propagated n s older not_one in omega (arith, before, half, some, same, here))
    ]

-- a trail, and all that go on from it, come before the one with a step that was not decided in place of the decision above a level
rank-below : (n : ℕ) (steps : List Step) (back : ℕ) → length steps ≤ n → back < level_of steps → rank_of n steps + trails_after n (length steps) + trails_after n (length steps) ≤ next_rank n (back_to back steps) + 1
rank-below n [] back few lower = absurd (omega (arith, lower))
rank-below n (s ∷ older) back few lower =
    let half = halves n (length older) (omega (arith, few)) in
    let count : length (s ∷ older) ≡ length older + 1 = omega arith in
    let same = ap (trails_after n) count in
    let some = some-after n (length older) in
    let at = back_to-older back s older lower in
    elim (leb_tells (level_of older) back) [
      | inl within ↦ elim (decides s.reason) [
        | inl one ↦
            (let here = rank-decided n s older one.0 in
            let stays = at ∙ back_to-here back older within.1 in
            let next = ap (next_rank n) stays in
            omega (arith, half, same, some, here, next))
        | inr not_one ↦ absurd (omega (arith, not_one.1, within.1, lower))
      ]
      | inr above ↦
          (let before = rank-below n older back (omega (arith, few)) above.1 in
          let next = ap (next_rank n) at in
          elim (bool_cases (is_decision s.reason)) [
            | inl is ↦ (let here = rank-decided n s older is in omega (arith, half, same, some, here, before, next))
            | inr not_one ↦ (let here = rank-propagated n s older not_one in omega (arith, half, same, some, here, before, next))
          ])
    ]

whole : (m : ℕ) → trails_after m 0 + trails_after m 0 ≡ 2 ^ (m + 1)
unfolding trails_after
whole m = let e : m - 0 ≡ m = omega arith in let f = ap (λ x. 2 ^ x) e in let d = pow-double m in omega (arith, f, d)

pub rank-next : (n : ℕ) (steps : List Step) (back : ℕ) → IsSoundFor n steps → back < level_of steps → rank_of n steps + 1 ≤ next_rank n (back_to back steps)
rank-next n steps back sound lower =
    let below = rank-below n steps back (few_steps n steps sound) lower in
    let some = some-after n (length steps) in
    omega (arith, below, some)

-- there are fewer trails than twice the assignments
pub rank-few : (n : ℕ) (steps : List Step) → IsSoundFor n steps → rank_of n steps + 1 < 2 ^ (n + 1)
rank-few n steps sound =
    let bounded = rank-bounded n steps (few_steps n steps sound) in
    let some = some-after n (length steps) in
    let all = whole n in
    omega (arith, bounded, some, all)
