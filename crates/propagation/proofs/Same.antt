-- A pool whose clauses are the same in another order, and a trail that has more steps.
use Rattle.std.proofs.Common.{◌≡◌, ℕ, ◌<◌, inl, inr, List, [], ◌∷◌, ◌++◌, Option, Some, None, length, refl, sym, ◌∙◌, ap, subst}
use Rattle.std.specs.List.{swap}
use Rattle.std.specs.List.Sorted.{IsPermutation}
use Rattle.std.proofs.lemmas.Bool.{cases_eq}
use Rattle.std.proofs.lemmas.List.{length-set, append_assoc}
use Rattle.std.proofs.lemmas.List.Sorted.{IsPermutation-refl, IsPermutation-trans}
use Rattle.clause_pool.specs.PoolValue.{PoolValue, clause_at, literals_at, or_empty, place_of, swap_watched}
use Rattle.clause_pool.proofs.Sound.{clause_at-set_same, clause_at-set_other}
use Rattle.clause_pool.proofs.InUse.{length-swap_watched}
use Rattle.trail.specs.Steps.{TrailValue, with_step}
use Rattle.trail.specs.declared.step.Reason.TheVariants.{Clause}
use Rattle.trail.specs.declared.step.Step.{Step}
use Rattle.propagation.specs.Ready.{SameClause, IsSamePool, AreByClauses, IsExtended}

SameClause-refl : (o : Option (List ℕ)) → SameClause o o
SameClause-refl None = tt
SameClause-refl (Some ls) = IsPermutation-refl ls

SameClause-trans : (a b c : Option (List ℕ)) → SameClause a b → SameClause b c → SameClause a c
SameClause-trans None None None p q = tt
SameClause-trans None None (Some c) p q = absurd q
SameClause-trans None (Some b) c p q = absurd p
SameClause-trans (Some a) None c p q = absurd p
SameClause-trans (Some a) (Some b) None p q = absurd q
SameClause-trans (Some a) (Some b) (Some c) p q = IsPermutation-trans a b c p q

pub IsSamePool-refl : (pool : PoolValue) → IsSamePool pool pool
IsSamePool-refl pool = record {
  clauses = λ k. SameClause-refl (clause_at pool.clauses k);
  handles = refl;
  literals = refl;
  used = refl;
  words = refl;
}

pub IsSamePool-trans : (a b c : PoolValue) → IsSamePool a b → IsSamePool b c → IsSamePool a c
IsSamePool-trans a b c p q = record {
  clauses = λ k. SameClause-trans (clause_at a.clauses k) (clause_at b.clauses k) (clause_at c.clauses k) (p.clauses k) (q.clauses k);
  handles = q.handles ∙ p.handles;
  literals = q.literals ∙ p.literals;
  used = q.used ∙ p.used;
  words = q.words ∙ p.words;
}

pub IsSamePool-moved : (pool : PoolValue) (c literal at : ℕ) (ls : List ℕ) → c < length pool.clauses → clause_at pool.clauses c ≡ Some ls → IsPermutation ls (swap ls (place_of ls literal) at) → IsSamePool pool (swap_watched pool c literal at)
IsSamePool-moved pool c literal at ls lt found p = record {
  clauses = λ k. elim (cases_eq k c) [
    | inl same ↦ subst (λ x. SameClause (clause_at pool.clauses x) (clause_at (swap_watched pool c literal at).clauses x)) (sym same)
        (subst (λ o. SameClause o (clause_at (swap_watched pool c literal at).clauses c)) (sym found)
        (subst (SameClause (Some ls)) (sym (clause_at-set_same pool.clauses c (Some (swap (literals_at pool.clauses c) (place_of (literals_at pool.clauses c) literal) at)) lt))
        (subst (λ xs. IsPermutation ls (swap xs (place_of xs literal) at)) (sym (ap or_empty found)) p)))
    | inr ne ↦ subst (SameClause (clause_at pool.clauses k)) (sym (clause_at-set_other pool.clauses c k (Some (swap (literals_at pool.clauses c) (place_of (literals_at pool.clauses c) literal) at)) ne)) (SameClause-refl (clause_at pool.clauses k))
  ];
  handles = length-set pool.clauses c (Some (swap (literals_at pool.clauses c) (place_of (literals_at pool.clauses c) literal) at));
  literals = length-swap_watched pool (swap_watched pool c literal at) c literal at refl;
  used = refl;
  words = refl;
}

pub IsExtended-refl : (trail : TrailValue) → IsExtended trail trail
IsExtended-refl trail = record { newer = []; splits = refl; by_clauses = tt; decisions = refl; variables = refl }

pub AreByClauses-append : (newer older : List Step) → AreByClauses newer → AreByClauses older → AreByClauses (newer ++ older)
AreByClauses-append [] older n o = o
AreByClauses-append (s ∷ newer) older n o = (n.0, AreByClauses-append newer older n.1 o)

pub IsExtended-trans : (a b c : TrailValue) → IsExtended a b → IsExtended b c → IsExtended a c
IsExtended-trans a b c p q = record {
  newer = q.newer ++ p.newer;
  splits = q.splits ∙ ap (λ ys. q.newer ++ ys) p.splits ∙ sym (append_assoc q.newer p.newer a.steps);
  by_clauses = AreByClauses-append q.newer p.newer q.by_clauses p.by_clauses;
  decisions = q.decisions ∙ p.decisions;
  variables = q.variables ∙ p.variables;
}

pub IsExtended-step : (trail : TrailValue) (literal clause : ℕ) → IsExtended trail (with_step trail literal (Clause clause))
IsExtended-step trail literal clause = record { newer = record { literal = literal; reason = Clause clause } ∷ []; splits = refl; by_clauses = (tt, tt); decisions = refl; variables = refl }
