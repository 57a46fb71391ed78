-- What propagation, decisions and the way back keep.
use Rattle.std.proofs.Common.{◌≡◌, ℕ, ◌-◌, ◌*◌, ◌≤◌, ◌<◌, inl, inr, List, [], ◌∷◌, ◌++◌, Option, Some, None, length, refl, sym, ◌∙◌, ap, subst, arith}
use Rattle.std.specs.List.Sorted.{IsPermutation}
use Rattle.std.proofs.lemmas.Bool.Decides.{leb_tells}
use Rattle.std.proofs.lemmas.List.{append_assoc}
use Rattle.std.proofs.lemmas.List.Sorted.{length_permutation, IsPermutation-sym}
use Rattle.clause_pool.specs.PoolValue.{PoolValue, IsIn, clause_at}
use Rattle.clause_pool.proofs.Sound.{some_literals, none_literals}
use Rattle.literals.specs.Literal.{positive_of, variable_of}
use Rattle.literals.specs.Propagation.{HasNoValueIn}
use Rattle.literals.proofs.Members.{place-IsIn}
use Rattle.literals.proofs.Opposites.{variable-below}
use Rattle.trail.specs.Steps.{TrailValue, IsSoundTrail, IsSoundFor, literals_of, level_of, back_to, with_step}
use Rattle.trail.specs.declared.step.Reason.{Reason}
use Rattle.trail.specs.declared.step.Reason.TheVariants.{Decision, Clause, Decisions}
use Rattle.trail.specs.declared.step.Step.{Step}
use Rattle.trail.proofs.Back.{back_to-here, back_to-older}
use Rattle.trail.proofs.Soundness.{few_steps}
use Rattle.propagation.specs.Ready.{IsFit, IsReady, SameClause, IsSamePool, IsByClause, AreByClauses, IsExtended}
use Rattle.propagation.specs.Watches.{WatchesHold, AreWatched, NothingFollows}
use Rattle.propagation.proofs.Swapping.{IsIn-permuted}
use Rattle.decision_order.specs.Waiting.{OrderValue}
use Rattle.search_steps.specs.States.{HasTrue, AreTrue, AreUnitsTrue, AreWaiting, IsNotExcluded, AreNotExcluded, IsGrown}
use Rattle.search_steps.proofs.Values.{variable_positive, open_of, some_value, found_true}

-- a clause of a pool that is the same was there before
pub same_found : (old new : Option (List ℕ)) (ms : List ℕ) → SameClause old new → new ≡ Some ms → (ls : List ℕ) × (old ≡ Some ls) × IsPermutation ls ms
same_found None None ms same e = absurd (none_literals ms e)
same_found None (Some xs) ms same e = absurd same
same_found (Some ls) None ms same e = absurd (none_literals ms e)
same_found (Some ls) (Some xs) ms same e = (ls, refl, subst (IsPermutation ls) (some_literals xs ms e) same)

pub HasTrue-permuted : (trail ls ms : List ℕ) → IsPermutation ls ms → HasTrue trail ls → HasTrue trail ms
HasTrue-permuted trail ls ms p h = record { literal = h.literal; member = IsIn-permuted ms ls h.literal (IsPermutation-sym ls ms p) h.member; is_true = h.is_true }

-- what was true before all decisions is so with more steps
pub first_kept : (newer older : List Step) (x : ℕ) → IsIn x (literals_of (back_to 0 older)) → IsIn x (literals_of (back_to 0 (newer ++ older)))
first_kept [] older x i = i
first_kept (s ∷ newer) older x i =
    let rest = first_kept newer older x i in
    elim (leb_tells (level_of (s ∷ newer ++ older)) 0) [
      | inl within ↦ subst (λ ys. IsIn x (literals_of ys)) (sym (back_to-here 0 (s ∷ newer ++ older) within.1))
          (inr (subst (λ ys. IsIn x (literals_of ys)) (back_to-here 0 (newer ++ older) (omega (arith, within.1))) rest))
      | inr above ↦ subst (λ ys. IsIn x (literals_of ys)) (sym (back_to-older 0 s (newer ++ older) above.1)) rest
    ]

pub back_among : (level : ℕ) (steps : List Step) (x : ℕ) → IsIn x (literals_of (back_to level steps)) → IsIn x (literals_of steps)
back_among level [] x i = i
back_among level (s ∷ older) x i = elim (leb_tells (level_of (s ∷ older)) level) [
  | inl within ↦ subst (λ ys. IsIn x (literals_of ys)) (back_to-here level (s ∷ older) within.1) i
  | inr above ↦ inr (back_among level older x (subst (λ ys. IsIn x (literals_of ys)) (back_to-older level s older above.1) i))
]

pub units_grown : (pool new : PoolValue) (steps after newer : List Step) → IsSamePool pool new → after ≡ newer ++ steps → AreUnitsTrue pool.clauses steps → AreUnitsTrue new.clauses after
units_grown pool new steps after newer same e units clause ms found few =
    let was = same_found (clause_at pool.clauses clause) (clause_at new.clauses clause) ms (same.clauses clause) found in
    let h = HasTrue-permuted (literals_of (back_to 0 steps)) was.0 ms was.2 (units clause was.0 was.1 (omega (arith, few, length_permutation was.0 ms was.2))) in
    record { literal = h.literal; member = h.member; is_true = subst (λ ys. IsIn h.literal (literals_of (back_to 0 ys))) (sym e) (first_kept newer steps h.literal h.is_true) }

-- growth
pub IsGrown-refl : (trail : TrailValue) → IsGrown trail trail
IsGrown-refl trail = record { newer = []; splits = refl; not_excluded = tt; variables = refl }

not_excluded_append : (newer older : List Step) → AreNotExcluded newer → AreNotExcluded older → AreNotExcluded (newer ++ older)
not_excluded_append [] older n o = o
not_excluded_append (s ∷ newer) older n o = (n.0, not_excluded_append newer older n.1 o)

not_excluded_by_clause : (reason : Reason) → IsByClause reason → IsNotExcluded reason
not_excluded_by_clause Decision b = tt
not_excluded_by_clause (Clause clause) b = tt
not_excluded_by_clause Decisions b = b

not_excluded_by_clauses : (steps : List Step) → AreByClauses steps → AreNotExcluded steps
not_excluded_by_clauses [] b = tt
not_excluded_by_clauses (s ∷ rest) b = (not_excluded_by_clause s.reason b.0, not_excluded_by_clauses rest b.1)

pub IsGrown-extended : (a b c : TrailValue) → IsGrown a b → IsExtended b c → IsGrown a c
IsGrown-extended a b c p q = record {
  newer = q.newer ++ p.newer;
  splits = q.splits ∙ ap (λ ys. q.newer ++ ys) p.splits ∙ sym (append_assoc q.newer p.newer a.steps);
  not_excluded = not_excluded_append q.newer p.newer (not_excluded_by_clauses q.newer q.by_clauses) p.not_excluded;
  variables = q.variables ∙ p.variables;
}

pub IsGrown-decided : (a b : TrailValue) (literal : ℕ) → IsGrown a b → IsGrown a (with_step b literal Decision)
IsGrown-decided a b literal p = record {
  newer = record { literal = literal; reason = Decision } ∷ p.newer;
  splits = ap (λ ys. record { literal = literal; reason = Decision } ∷ ys) p.splits;
  not_excluded = (tt, p.not_excluded);
  variables = p.variables;
}

pub IsGrown-clause : (a : TrailValue) (literal clause : ℕ) → IsGrown a (with_step a literal (Clause clause))
IsGrown-clause a literal clause = record { newer = record { literal = literal; reason = Clause clause } ∷ []; splits = refl; not_excluded = (tt, tt); variables = refl }

-- a decision, or another step, once all that follows is true: what was there is handled
drop_one : (l : ℕ) (trail : List ℕ) → Rattle.propagation.specs.Watches.oldest (length trail) (l ∷ trail) ≡ trail
drop_one l trail = ap (λ k. Rattle.std.proofs.Common.drop k (l ∷ trail)) (let e : length (l ∷ trail) - length trail ≡ 1 = omega arith in e)

pub ready_with : (pool : PoolValue) (trail : TrailValue) (literal n : ℕ) (reason : Reason) → AreWatched (literals_of trail.steps) (literals_of trail.steps) pool.clauses → n ≡ length (literals_of trail.steps) → n ≤ length trail.steps → IsReady pool (with_step trail literal reason) n
ready_with pool trail literal n reason watched e le = record {
  within = omega (arith, le);
  watched = subst (λ done. AreWatched done (literal ∷ literals_of trail.steps) pool.clauses) (sym (ap (λ k. Rattle.propagation.specs.Watches.oldest k (literal ∷ literals_of trail.steps)) e ∙ drop_one literal (literals_of trail.steps)))
      (λ k ls found one other wo wt ne is_false. inr (watched k ls found one other wo wt ne is_false));
}

pub sound_with : (trail : TrailValue) (literal : ℕ) (reason : Reason) → IsSoundTrail trail → literal < 2 * trail.variables → HasNoValueIn (literals_of trail.steps) literal → IsSoundTrail (with_step trail literal reason)
sound_with trail literal reason sound lt none =
    let s : IsSoundFor trail.variables (with_step trail literal reason).steps = (lt, none, sound.steps) in
    record { steps = s; few_steps = few_steps trail.variables (with_step trail literal reason).steps s }

-- where no variable waits and nothing follows, every clause is true
pub all_true : (pool : PoolValue) (trail : TrailValue) (order : OrderValue) → IsFit pool trail → NothingFollows pool.clauses (literals_of trail.steps) → AreUnitsTrue pool.clauses trail.steps → AreWaiting trail.steps order → order.variables ≡ trail.variables → ((v : ℕ) → IsIn v order.waiting → ⊥) → AreTrue pool.clauses (literals_of trail.steps)
all_true pool trail order fit nothing units waiting variables none clause ls found = elim (leb_tells 2 (length ls)) [
  | inl two ↦ found_true (literals_of trail.steps) ls
      (λ l i. some_value (literals_of trail.steps) l (λ is_open.
      (let at = place-IsIn ls l i in
      let below : l < length pool.watches = subst (λ x. x < length pool.watches) at.2 (fit.sound.below clause ls found at.0 0 at.1) in
      none (variable_of l) (waiting (variable_of l) (subst (λ n. variable_of l < n) (sym variables) (variable-below l trail.variables (subst (λ n. l < n) fit.literals below)))
      (open_of (literals_of trail.steps) l (positive_of (variable_of l)) (sym (variable_positive (variable_of l))) is_open)))))
      (nothing clause ls found two.1).0
  | inr one ↦
      (let h = units clause ls found (omega (arith, one.1)) in
      record { literal = h.literal; member = h.member; is_true = back_among 0 trail.steps h.literal h.is_true })
]
