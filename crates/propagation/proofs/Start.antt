-- Before anything was propagated.
use Rattle.std.proofs.Common.{◌≡◌, ℕ, ◌-◌, ◌*◌, ◌≤◌, ◌<◌, List, [], ◌∷◌, length, drop, refl, sym, ◌∙◌, ap, subst, arith}
use Rattle.clause_pool.specs.PoolValue.{PoolValue, IsSound}
use Rattle.literals.specs.Propagation.{HasNoValueIn}
use Rattle.trail.specs.Steps.{TrailValue, literals_of, with_step, IsSoundTrail, IsSoundFor}
use Rattle.trail.specs.declared.step.Reason.TheVariants.{Decision}
use Rattle.trail.proofs.Soundness.{few_steps}
use Rattle.propagation.specs.Watches.{AreWatched, AreWatchedBelow, HaveReasons}
use Rattle.propagation.specs.Ready.{IsFit, IsReady}

drop_all : (xs : List ℕ) → drop (length xs) xs ≡ []
drop_all [] = refl
drop_all (x ∷ xs) = drop_all xs

-- no literal was handled
pub ready_from_none : (pool : PoolValue) (trail : TrailValue) → IsReady pool trail 0
ready_from_none pool trail = record {
  within = omega arith;
  watched = subst (λ xs. AreWatched xs (literals_of trail.steps) pool.clauses)
      (sym (ap (λ k. drop k (literals_of trail.steps)) (let e : length (literals_of trail.steps) - 0 ≡ length (literals_of trail.steps) = omega arith in e) ∙ drop_all (literals_of trail.steps)))
      (λ k ks e one other wo wt ne is_false. absurd is_false);
}

-- no step, or a first decision
pub fit_from_none : (pool : PoolValue) (trail : TrailValue) → IsSound pool → IsSoundTrail trail → length pool.watches ≡ 2 * trail.variables → trail.steps ≡ [] → IsFit pool trail
fit_from_none pool trail sound trail_sound lens none = record {
  sound = sound;
  trail_sound = trail_sound;
  literals = lens;
  below = subst (λ ys. AreWatchedBelow pool.clauses ys) (sym none) tt;
  reasons = subst (λ ys. HaveReasons pool.clauses ys) (sym none) tt;
}

-- a decision, once all that follows is true
pub fit_decided : (pool : PoolValue) (trail : TrailValue) (literal : ℕ) → IsFit pool trail → AreWatched (literals_of trail.steps) (literals_of trail.steps) pool.clauses → IsSoundTrail (with_step trail literal Decision) → IsFit pool (with_step trail literal Decision)
fit_decided pool trail literal fit watched sound = record {
  sound = fit.sound;
  trail_sound = sound;
  literals = fit.literals;
  below = (watched, fit.below);
  reasons = (tt, fit.reasons);
}

-- a first decision
pub fit_first : (pool : PoolValue) (trail : TrailValue) (literal : ℕ) → IsSound pool → IsSoundTrail trail → length pool.watches ≡ 2 * trail.variables → trail.steps ≡ [] → literal < 2 * trail.variables → HasNoValueIn (literals_of trail.steps) literal → IsFit pool (with_step trail literal Decision)
fit_first pool trail literal sound trail_sound lens none lt open_value =
    let s : IsSoundFor trail.variables (with_step trail literal Decision).steps = (lt, open_value, trail_sound.steps) in
    fit_decided pool trail literal (fit_from_none pool trail sound trail_sound lens none)
    (subst (λ ys. AreWatched (literals_of ys) (literals_of ys) pool.clauses) (sym none) (λ k ks e one other wo wt ne is_false. absurd is_false))
    (record { steps = s; few_steps = few_steps trail.variables (with_step trail literal Decision).steps s })
