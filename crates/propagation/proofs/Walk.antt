-- A walk along a watch list: its start, its steps and its end.
use Rattle.std.proofs.Common.{◌≡◌, ℕ, ◌+◌, ◌-◌, ◌*◌, ◌≤◌, ◌<◌, inl, List, [], ◌∷◌, ◌++◌, Some, None, length, drop, slice_get, refl, sym, ◌∙◌, ap, subst, arith}
use Rattle.std.proofs.lemmas.List.{length-map, length-append, append_assoc}
use Rattle.clause_pool.specs.PoolValue.{PoolValue, IsIn, NoneTwice, IsWatched, IsWatching, list_at, following, rest_from}
use Rattle.clause_pool.proofs.Chains.{some_same, some_not_none}
use Rattle.literals.specs.Literal.{opposite_of}
use Rattle.trail.specs.Steps.{TrailValue, literals_of, literal_of, IsSoundTrail, IsStepAt}
use Rattle.trail.specs.declared.step.Step.{Step}
use Rattle.trail.proofs.Lookup.{variable_known}
use Rattle.propagation.specs.Watches.{AreWatched, oldest}
use Rattle.propagation.specs.Ready.{IsFit, IsReady}
use Rattle.propagation.proofs.Consistency.{IsIn-append, literals_of-append, among}
use Rattle.propagation.proofs.Watching.{WatchesHold-unwatched}
use Rattle.propagation.proofs.Rest.{rest_is, following-split}
use Rattle.propagation.proofs.Visiting.{IsVisiting}

drop_front : (xs ys : List ℕ) → drop (length xs) (xs ++ ys) ≡ ys
drop_front [] ys = refl
drop_front (x ∷ xs) ys = drop_front xs ys

pub oldest_split : (steps newer older : List Step) (count : ℕ) → steps ≡ newer ++ older → length older ≡ count → oldest count (literals_of steps) ≡ literals_of older
oldest_split steps newer older count e n =
    let lits : literals_of steps ≡ literals_of newer ++ literals_of older = ap literals_of e ∙ literals_of-append newer older in
    let size : length (literals_of steps) ≡ length newer + length older = length-map steps literal_of ∙ ap length e ∙ length-append newer older in
    let left : length (literals_of steps) - count ≡ length (literals_of newer) = omega (arith, size, n, length-map newer literal_of) in
    ap (λ k. drop k (literals_of steps)) left ∙ ap (drop (length (literals_of newer))) lits ∙ drop_front (literals_of newer) (literals_of older)

-- the start
pub visiting_start : (pool : PoolValue) (trail : TrailValue) (place literal : ℕ) (step : Step) → IsFit pool trail → IsReady pool trail place → IsStepAt trail.steps place step → literal ≡ opposite_of step.literal → literal < length pool.watches → IsVisiting pool trail place literal (list_at pool.watches literal)
visiting_start pool trail place literal step fit ready at opposite below =
    let splits : trail.steps ≡ (at.newer ++ step ∷ []) ++ at.older = at.splits ∙ sym (append_assoc at.newer (step ∷ []) at.older) in
    let watched = subst (λ xs. AreWatched xs (literals_of trail.steps) pool.clauses) (oldest_split trail.steps (at.newer ++ step ∷ []) at.older place splits at.count) ready.watched in
    record {
      fit = fit;
      visited = [];
      splits = refl;
      newer = at.newer;
      step = step;
      older = at.older;
      steps = at.splits;
      count = at.count;
      opposite = opposite;
      below = below;
      watched = watched;
      done = λ k ks e out. WatchesHold-unwatched (literals_of at.older) (literals_of trail.steps) ks step.literal
          (λ w. out ((fit.sound.watching literal k below).1 (record { literals = ks; found = e; watched = subst (IsWatched ks) (sym opposite) w })))
          (watched k ks e);
    }

-- the next clause
pub rest_head : (rest : List ℕ) (clause : ℕ) → slice_get rest 0 ≡ Some clause → (tail : List ℕ) × (rest ≡ clause ∷ tail)
rest_head [] clause e = absurd (some_not_none clause (sym e))
rest_head (x ∷ rest) clause e = (rest, ap (λ y. y ∷ rest) (some_same x clause e))

pub rest_none : (rest : List ℕ) → slice_get rest 0 ≡ None → rest ≡ []
rest_none [] e = refl
rest_none (x ∷ rest) e = absurd (some_not_none x e)

pub visiting_watched : (pool : PoolValue) (trail : TrailValue) (place literal clause : ℕ) (rest : List ℕ) → IsVisiting pool trail place literal (clause ∷ rest) → IsWatching pool.clauses literal clause
visiting_watched pool trail place literal clause rest v =
    (v.fit.sound.watching literal clause v.below).0 (subst (IsIn clause) (sym v.splits) (IsIn-append clause v.visited (clause ∷ rest) (inl refl)))

once_here : (pool : PoolValue) (trail : TrailValue) (place literal : ℕ) (rest : List ℕ) → (v : IsVisiting pool trail place literal rest) → NoneTwice (v.visited ++ rest)
once_here pool trail place literal rest v = subst NoneTwice v.splits (v.fit.sound.once literal v.below)

pub visiting_next : (pool : PoolValue) (trail : TrailValue) (place literal clause : ℕ) (rest : List ℕ) → IsVisiting pool trail place literal (clause ∷ rest) → following clause (list_at pool.watches literal) ≡ slice_get rest 0
visiting_next pool trail place literal clause rest v =
    ap (following clause) v.splits ∙ following-split v.visited rest clause (once_here pool trail place literal (clause ∷ rest) v)

pub visiting_left : (pool : PoolValue) (trail : TrailValue) (place literal : ℕ) (rest : List ℕ) → IsVisiting pool trail place literal rest → rest_from (slice_get rest 0) (list_at pool.watches literal) ≡ rest
visiting_left pool trail place literal rest v =
    ap (rest_from (slice_get rest 0)) v.splits ∙ rest_is v.visited rest (once_here pool trail place literal rest v)

-- the end
pub visiting_end : (pool : PoolValue) (trail : TrailValue) (place literal : ℕ) → IsVisiting pool trail place literal [] → IsReady pool trail (place + 1)
visiting_end pool trail place literal v = record {
  within = omega (arith, ap length v.steps, length-append v.newer (v.step ∷ v.older), v.count);
  watched = subst (λ xs. AreWatched xs (literals_of trail.steps) pool.clauses)
      (sym (oldest_split trail.steps v.newer (v.step ∷ v.older) (place + 1) v.steps (omega (arith, v.count))))
      (λ k ks e. v.done k ks e (λ i. i));
}

pub step_known : (trail : TrailValue) (place : ℕ) (step : Step) → IsSoundTrail trail → IsStepAt trail.steps place step → step.literal < 2 * trail.variables
step_known trail place step sound at =
    variable_known trail.variables trail.steps step.literal (among trail.steps at.newer (step ∷ at.older) step.literal at.splits (inl refl)) sound.steps

-- all literals were handled
pub ready_all : (pool : PoolValue) (trail : TrailValue) (place : ℕ) → IsReady pool trail place → length trail.steps ≤ place → AreWatched (literals_of trail.steps) (literals_of trail.steps) pool.clauses
ready_all pool trail place ready le =
    subst (λ xs. AreWatched xs (literals_of trail.steps) pool.clauses) (oldest_split trail.steps [] trail.steps place refl (omega (arith, le, ready.within))) ready.watched
