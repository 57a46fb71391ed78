-- A clause that is put in after decisions.
use Rattle.std.proofs.Common.{◌≡◌, ℕ, ◌+◌, ◌-◌, ◌*◌, ◌<◌, ◌≤◌, ◌⊎◌, inl, inr, List, [], ◌∷◌, Option, Some, length, set, drop, refl, sym, ◌∙◌, ap, subst, arith}
use Rattle.std.specs.List.{All}
use Rattle.std.proofs.lemmas.Bool.Decides.{leb_tells}
use Rattle.std.proofs.lemmas.List.{length-map}
use Rattle.clause_pool.specs.PoolValue.{IsIn, IsWatched, NoneTwice, IsFree, put_clause}
use Rattle.clause_pool.proofs.Sound.{clause_at-set_same, IsSound-put}
use Rattle.clause_pool.proofs.InUse.{length-put}
use Rattle.literals.specs.Literal.{opposite_of}
use Rattle.literals.specs.Propagation.{IsFalseIn, HasNoValueIn}
use Rattle.trail.specs.Steps.{TrailValue, literal_of, literals_of, level_of, rise_of, back_to, with_step}
use Rattle.trail.specs.declared.step.Reason.{Reason}
use Rattle.trail.specs.declared.step.Reason.TheVariants.{Decision, Clause, Decisions}
use Rattle.trail.specs.declared.step.Step.{Step}
use Rattle.trail.proofs.Back.{back_to-here, back_to-older}
use Rattle.propagation.specs.Ready.{IsFit, IsReady}
use Rattle.propagation.specs.Watches.{AreWatched, WereWatched, AreWatchedBelow, oldest}
use Rattle.propagation.proofs.Swapping.{clause_after}
use Rattle.search_steps.specs.States.{IsState}
use Rattle.search_steps.specs.declared.state.State.{State}
use Rattle.search_steps.proofs.Keeping.{sound_with, first_kept, back_among}
use Rattle.search_steps.proofs.Put.{reasons_more, units_put}
use Rattle.search_steps.proofs.Values.{waiting_grown}
use Rattle.learning_steps.specs.Reasons.{IsNextReason, IsNewlyFalse, IsSettled}

-- what is true up to a level stays so with one more step
back_more : (level : ℕ) (s : Step) (older : List Step) (x : ℕ) → IsIn x (literals_of (back_to level older)) → IsIn x (literals_of (back_to level (s ∷ older)))
back_more level s older x i = elim (leb_tells (level_of (s ∷ older)) level) [
  | inl within ↦ subst (λ (ys : List Step). IsIn x (literals_of ys)) (sym (back_to-here level (s ∷ older) within.1)) (inr (back_among level older x i))
  | inr above ↦ subst (λ (ys : List Step). IsIn x (literals_of ys)) (sym (back_to-older level s older above.1)) i
]

-- the watches of a clause, where its first literal is open and its second is not false before the last decision
module _ (clauses : List (Option (List ℕ))) (c : ℕ) (ls : List ℕ) (first second level : ℕ) (lt : c < length clauses)
    (watches : (m : ℕ) → IsWatched ls m → (m ≡ first) ⊎ (m ≡ second)) where
  -- where neither is false
  watched_none : (done : List ℕ) → (IsFalseIn done first → ⊥) → (IsFalseIn done second → ⊥) → AreWatched done done clauses → AreWatched done done (set clauses c (Some ls))
  watched_none done one two old k ks found w o w-is o-is differ is_false = elim (clause_after clauses c k ls ks lt found) [
    | inl here ↦ elim (watches w (subst (λ (xs : List ℕ). IsWatched xs w) here.1 w-is)) [
      | inl is ↦ absurd (one (subst (IsFalseIn done) is is_false))
      | inr is ↦ absurd (two (subst (IsFalseIn done) is is_false))
    ]
    | inr other ↦ old k ks other.1 w o w-is o-is differ is_false
  ]

  at_decision : (reason : Reason) (older : List ℕ) → (rise_of reason ≡ 1 → (IsFalseIn older first → ⊥) × (IsFalseIn older second → ⊥)) → WereWatched clauses reason older → WereWatched (set clauses c (Some ls)) reason older
  at_decision Decision older none was = let both = none refl in watched_none older both.0 both.1 was
  at_decision (Clause k) older none was = tt
  at_decision Decisions older none was = tt

  pub watched_put : (steps : List Step) → HasNoValueIn (literals_of steps) first → level_of steps ≤ level + 1 → (0 < level_of steps → IsFalseIn (literals_of (back_to level steps)) second → ⊥)
      → AreWatchedBelow clauses steps → AreWatchedBelow (set clauses c (Some ls)) steps
  watched_put [] none few late below = tt
  watched_put (s ∷ older) none few late below = (
    at_decision s.reason (literals_of older)
        (λ rises. (
          λ f. none.not_false (inr f),
          λ f. late (omega (arith, rises)) (back_more level s older (opposite_of second) (subst (λ (ys : List Step). IsIn (opposite_of second) (literals_of ys)) (sym (back_to-here level older (omega (arith, rises, few)))) f)),
        ))
        below.0,
    watched_put older (record { not_true = λ i. none.not_true (inr i); not_false = λ i. none.not_false (inr i) }) (omega (arith, few))
        (λ some f. late (omega (arith, some)) (back_more level s older (opposite_of second) f)) below.1,
  )

  -- with the first literal true, where nothing was left to propagate
  pub settled_put : (done : List ℕ) → (IsFalseIn done first → ⊥) → AreWatched done done clauses → AreWatched done (first ∷ done) (set clauses c (Some ls))
  settled_put done one old k ks found w o w-is o-is differ is_false = elim (clause_after clauses c k ls ks lt found) [
    | inl here ↦ elim (watches o (subst (λ (xs : List ℕ). IsWatched xs o) here.1 o-is)) [
      | inl is ↦ inl is
      | inr is ↦ elim (watches w (subst (λ (xs : List ℕ). IsWatched xs w) here.1 w-is)) [
        | inl first-is ↦ absurd (one (subst (IsFalseIn done) first-is is_false))
        | inr second-is ↦ absurd (differ (second-is ∙ sym is))
      ]
    ]
    | inr other ↦ inr (old k ks other.1 w o w-is o-is differ is_false)
  ]

drop_one : (l : ℕ) (trail : List ℕ) → oldest (length trail) (l ∷ trail) ≡ trail
drop_one l trail = ap (λ k. drop k (l ∷ trail)) (let e : length (l ∷ trail) - length trail ≡ 1 = omega arith in e)

second_of : List ℕ → ℕ
second_of [] = 0
second_of (second ∷ more) = second

watches_of : (first : ℕ) (rest : List ℕ) (m : ℕ) → IsWatched (first ∷ rest) m → (m ≡ first) ⊎ (m ≡ second_of rest)
unfolding second_of
watches_of first [] m is = absurd (let two = is.two in omega (arith, two))
watches_of first (second ∷ more) m is = elim is.side [ inl here ↦ inl (sym here) | inr here ↦ inr (sym here) ]

late_of : (steps : List Step) (rest : List ℕ) → IsNewlyFalse steps rest → 0 < level_of steps → IsFalseIn (literals_of (back_to (level_of steps - 1) steps)) (second_of rest) → ⊥
unfolding second_of
late_of steps [] newly some f = omega (arith, newly, some)
late_of steps (second ∷ more) newly some f = newly some f

one_alone : (steps : List Step) (rest : List ℕ) → IsNewlyFalse steps rest → length rest < 1 → level_of steps ≡ 0
one_alone steps [] newly few = newly
one_alone steps (second ∷ more) newly few = absurd (omega (arith, few))

module _ (state : State) (c : ℕ) (ls : List ℕ) (is : IsState state) (free : IsFree state.pool c) (settled : IsSettled state.pool state.trail)
    (below : All (λ x. x < 2 * state.trail.variables) ls) (once : NoneTwice ls) (next : IsNextReason state.trail.steps ls) where
  watches_now : (m : ℕ) → IsWatched ls m → (m ≡ next.first) ⊎ (m ≡ second_of next.rest)
  watches_now m w = watches_of next.first next.rest m (subst (λ (xs : List ℕ). IsWatched xs m) next.splits w)

  first_below : next.first < 2 * state.trail.variables
  first_below = subst (λ (xs : List ℕ). All (λ x. x < 2 * state.trail.variables) xs) next.splits below 0 0 (omega arith)

  trail_now : TrailValue
  trail_now = with_step state.trail next.first (Clause c)

  fit_now : IsFit (put_clause state.pool c ls) (with_step state.trail next.first (Clause c))
  fit_now = record {
    sound = IsSound-put state.pool c ls is.fit.sound free.0 free.1 (subst (λ n. All (λ x. x < n) ls) (sym is.fit.literals) below) once;
    trail_sound = sound_with state.trail next.first (Clause c) is.fit.trail_sound first_below next.open_value;
    literals = length-put state.pool (put_clause state.pool c ls) c ls refl ∙ is.fit.literals;
    below = (
      tt,
      watched_put state.pool.clauses c ls next.first (second_of next.rest) (level_of state.trail.steps - 1) free.0 watches_now state.trail.steps next.open_value (omega arith)
          (late_of state.trail.steps next.rest next.newly) is.fit.below,
    );
    reasons = (
      record {
        literals = ls;
        found = clause_at-set_same state.pool.clauses c (Some ls) free.0;
        unit = record {
          member = subst (IsIn next.first) (sym next.splits) (inl refl);
          others_false = λ x i differs. elim (subst (IsIn x) next.splits i) [ inl same ↦ absurd (differs same) | inr later ↦ next.others_false x later ];
        };
      },
      reasons_more state.pool.clauses c ls state.trail.steps free.1 is.fit.reasons,
    );
  }

  pub state_now : IsState (record { pool = put_clause state.pool c ls; trail = with_step state.trail next.first (Clause c); order = state.order })
  state_now = record {
    fit = fit_now;
    units = units_put state.pool.clauses (with_step state.trail next.first (Clause c)).steps c ls free.0
        (λ few.
        let short : length next.rest < 1 = subst (λ (xs : List ℕ). length xs < 2 → length next.rest < 1) (sym next.splits) (λ l. omega (arith, l)) few in
        let undecided = one_alone state.trail.steps next.rest next.newly short in
        record {
          literal = next.first;
          member = subst (IsIn next.first) (sym next.splits) (inl refl);
          is_true = subst (λ (ys : List Step). IsIn next.first (literals_of ys)) (sym (back_to-here 0 (with_step state.trail next.first (Clause c)).steps (omega (arith, undecided)))) (inl refl);
        })
        (λ k ms found few. (let h = is.units k ms found few in record { literal = h.literal; member = h.member; is_true = first_kept (record { literal = next.first; reason = Clause c } ∷ []) state.trail.steps h.literal h.is_true }));
    waiting = waiting_grown (with_step state.trail next.first (Clause c)).steps (record { literal = next.first; reason = Clause c } ∷ []) state.trail.steps state.order refl is.waiting;
    variables = is.variables;
    few = is.few;
  }

  pub ready_now : IsReady (put_clause state.pool c ls) (with_step state.trail next.first (Clause c)) (length state.trail.steps)
  ready_now = record {
    within = omega arith;
    watched = subst (λ (done : List ℕ). AreWatched done (next.first ∷ literals_of state.trail.steps) (put_clause state.pool c ls).clauses)
        (sym (ap (λ k. oldest k (next.first ∷ literals_of state.trail.steps)) (sym (length-map state.trail.steps literal_of)) ∙ drop_one next.first (literals_of state.trail.steps)))
        (settled_put state.pool.clauses c ls next.first (second_of next.rest) 0 free.0 watches_now (literals_of state.trail.steps) next.open_value.not_false settled);
  }
