-- The state between two visits, and what a visit makes of it.
use Rattle.std.proofs.Common.{◌≡◌, ◌≢◌, ℕ, ◌*◌, ◌≤◌, ◌<◌, inl, inr, List, [], ◌∷◌, ◌++◌, Option, Some, None, length, get_or, set, refl, sym, ◌∙◌, ap, subst, arith}
use Rattle.std.specs.List.{swap}
use Rattle.std.proofs.lemmas.Bool.{cases_eq}
use Rattle.std.proofs.lemmas.Bool.Decides.{leb_tells}
use Rattle.std.proofs.lemmas.List.{get_or-set_same, get_or-set_other, get_or_past}
use Rattle.std.proofs.lemmas.List.Sorted.{IsPermutation-swap}
use Rattle.clause_pool.specs.PoolValue.{PoolValue, IsIn, NoneTwice, IsWatched, IsSound, clause_at, literals_at, or_empty, list_at, place_of, without, without_in, with_first}
use Rattle.clause_pool.proofs.Sound.{some_literals, none_literals, length-with_first}
use Rattle.clause_pool.proofs.Swapped.{swaps, place_is, other_of, IsSound-swap, length-without_in}
use Rattle.literals.specs.Literal.{opposite_of}
use Rattle.literals.specs.Propagation.{IsTrueIn, IsFalseIn, IsConsistent, IsUnit}
use Rattle.literals.specs.Propagation.{HasNoValueIn}
use Rattle.literals.proofs.Opposites.{opposite-opposite}
use Rattle.trail.specs.Steps.{TrailValue, literals_of, with_step, IsSoundTrail, IsSoundFor}
use Rattle.trail.specs.declared.step.Step.{Step}
use Rattle.trail.specs.declared.step.Reason.TheVariants.{Clause}
use Rattle.trail.proofs.Soundness.{few_steps}
use Rattle.propagation.specs.Watches.{WatchesHold, AreWatched}
use Rattle.propagation.specs.Ready.{IsFit, IsVisit, IsConflict, Moves, Does, Visits, IsSamePool, IsExtended}
use Rattle.propagation.specs.declared.visit.Visit.{Visit}
use Rattle.propagation.specs.declared.visit.Visit.TheVariants.{Kept, Moved, Propagated, Conflict}
use Rattle.propagation.proofs.Consistency.{consistent, among}
use Rattle.propagation.proofs.Watching.{WatchesHold-more, WatchesHold-unwatched, WatchesHold-true}
use Rattle.propagation.proofs.Swapping.{IsMoved, AreWatched-moved, AreWatchedBelow-moved, HaveReasons-moved, clause_after}
use Rattle.propagation.proofs.Same.{IsSamePool-refl, IsSamePool-moved, IsExtended-refl, IsExtended-step}
use Rattle.propagation.proofs.Settled.{not_false_before}
use Rattle.propagation.proofs.Rest.{visited-more, without-split}

-- the step in this place made the literal false, and the clauses of `rest` were not visited yet
pub record IsVisiting (pool : PoolValue) (trail : TrailValue) (place literal : ℕ) (rest : List ℕ) : Type 0 where
  pub fit : IsFit pool trail
  pub visited : List ℕ
  pub splits : list_at pool.watches literal ≡ visited ++ rest
  pub newer : List Step
  pub step : Step
  pub older : List Step
  pub steps : trail.steps ≡ newer ++ step ∷ older
  pub count : length older ≡ place
  pub opposite : literal ≡ opposite_of step.literal
  pub below : literal < length pool.watches
  pub watched : AreWatched (literals_of older) (literals_of trail.steps) pool.clauses
  pub done : (clause : ℕ) (ls : List ℕ) → clause_at pool.clauses clause ≡ Some ls → (IsIn clause rest → ⊥) → WatchesHold (step.literal ∷ literals_of older) (literals_of trail.steps) ls

-- a watched literal is one of the pool's
watched_below : (pool : PoolValue) (clause : ℕ) (ls : List ℕ) (l : ℕ) → IsSound pool → clause_at pool.clauses clause ≡ Some ls → IsWatched ls l → l < length pool.watches
watched_below pool clause ls l sound found w = elim w.side [
  | inl e ↦ subst (λ x. x < length pool.watches) e (sound.below clause ls found 0 0 (omega (arith, w.two)))
  | inr e ↦ subst (λ x. x < length pool.watches) e (sound.below clause ls found 1 0 (omega (arith, w.two)))
]

-- the literal is false
pub visiting_false : (pool : PoolValue) (trail : TrailValue) (place literal : ℕ) (rest : List ℕ) → IsVisiting pool trail place literal rest → IsFalseIn (literals_of trail.steps) literal
visiting_false pool trail place literal rest v =
    subst (λ x. IsIn x (literals_of trail.steps)) (sym (ap opposite_of v.opposite ∙ opposite-opposite v.step.literal))
    (among trail.steps v.newer (v.step ∷ v.older) v.step.literal v.steps (inl refl))

once_in : (pool : PoolValue) (trail : TrailValue) (place literal : ℕ) (rest : List ℕ) → (v : IsVisiting pool trail place literal rest) → NoneTwice (v.visited ++ rest)
once_in pool trail place literal rest v = subst NoneTwice v.splits (v.fit.sound.once literal v.below)

-- a clause that was visited, where the other watched literal is true
done_true : (pool : PoolValue) (trail : TrailValue) (place literal clause : ℕ) (rest : List ℕ) (after : List ℕ) (ls : List ℕ) (other : ℕ) → (v : IsVisiting pool trail place literal rest) → IsWatched ls literal → IsWatched ls other → other ≢ literal → ((x : ℕ) → IsIn x (literals_of trail.steps) → IsIn x after) → IsConsistent after → IsTrueIn after other → WatchesHold (v.step.literal ∷ literals_of v.older) after ls
done_true pool trail place literal clause rest after ls other v wl wo ne more fine is_true =
    WatchesHold-true (v.step.literal ∷ literals_of v.older) after ls literal other wl wo ne (λ x i. more x (among trail.steps v.newer (v.step ∷ v.older) x v.steps i)) fine is_true

-- the visit of the next clause left pool and trail, since the other watched literal is true
kept : (pool : PoolValue) (trail : TrailValue) (place literal clause : ℕ) (rest : List ℕ) → IsVisiting pool trail place literal (clause ∷ rest) → (i : IsVisit pool trail clause literal) → IsTrueIn (literals_of trail.steps) i.other → IsVisiting pool trail place literal rest
kept pool trail place literal clause rest v i is_true = record {
  fit = v.fit;
  visited = v.visited ++ clause ∷ [];
  splits = v.splits ∙ visited-more v.visited rest clause;
  newer = v.newer;
  step = v.step;
  older = v.older;
  steps = v.steps;
  count = v.count;
  opposite = v.opposite;
  below = v.below;
  watched = v.watched;
  done = λ k ks e out. elim (cases_eq k clause) [
    | inl same ↦
        (let is_ls : i.literals ≡ ks = some_literals i.literals ks (sym i.found ∙ ap (clause_at pool.clauses) (sym same) ∙ e) in
        subst (WatchesHold (v.step.literal ∷ literals_of v.older) (literals_of trail.steps)) is_ls
        (done_true pool trail place literal clause (clause ∷ rest) (literals_of trail.steps) i.literals i.other v i.watched i.other_watched i.differ (λ x j. j) (consistent trail.variables trail.steps v.fit.trail_sound.steps) is_true))
    | inr ne ↦ v.done k ks e (λ j. elim j [ inl is ↦ ne is | inr later ↦ out later ])
  ];
}

sound_after : (trail : TrailValue) (l clause : ℕ) → IsSoundTrail trail → l < 2 * trail.variables → HasNoValueIn (literals_of trail.steps) l → IsSoundTrail (with_step trail l (Clause clause))
sound_after trail l clause sound lt none =
    let s : IsSoundFor trail.variables (with_step trail l (Clause clause)).steps = (lt, none, sound.steps) in
    record { steps = s; few_steps = few_steps trail.variables (with_step trail l (Clause clause)).steps s }

-- the other watched literal became true
propagated : (pool : PoolValue) (trail : TrailValue) (place literal clause : ℕ) (rest : List ℕ) → IsVisiting pool trail place literal (clause ∷ rest) → (i : IsVisit pool trail clause literal) → IsUnit (literals_of trail.steps) i.literals i.other → IsVisiting pool (with_step trail i.other (Clause clause)) place literal rest
propagated pool trail place literal clause rest v i u =
    let lt : i.other < 2 * trail.variables = subst (λ n. i.other < n) v.fit.literals (watched_below pool clause i.literals i.other v.fit.sound i.found i.other_watched) in
    let sound = sound_after trail i.other clause v.fit.trail_sound lt u.open_value in
    let after = with_step trail i.other (Clause clause) in
    let fine = consistent trail.variables after.steps sound.steps in
    record {
      fit = record {
        sound = v.fit.sound;
        trail_sound = sound;
        literals = v.fit.literals;
        below = (tt, v.fit.below);
        reasons = (record { literals = i.literals; found = i.found; unit = u.unit }, v.fit.reasons);
      };
      visited = v.visited ++ clause ∷ [];
      splits = v.splits ∙ visited-more v.visited rest clause;
      newer = record { literal = i.other; reason = Clause clause } ∷ v.newer;
      step = v.step;
      older = v.older;
      steps = ap (λ (ys : List Step). record { literal = i.other; reason = Clause clause } ∷ ys) v.steps;
      count = v.count;
      opposite = v.opposite;
      below = v.below;
      watched = λ k ks e. WatchesHold-more (literals_of v.older) (literals_of trail.steps) (literals_of after.steps) ks (λ x j. inr j) (v.watched k ks e);
      done = λ k ks e out. elim (cases_eq k clause) [
        | inl same ↦
            (let is_ls : i.literals ≡ ks = some_literals i.literals ks (sym i.found ∙ ap (clause_at pool.clauses) (sym same) ∙ e) in
            subst (WatchesHold (v.step.literal ∷ literals_of v.older) (literals_of after.steps)) is_ls
            (done_true pool trail place literal clause (clause ∷ rest) (literals_of after.steps) i.literals i.other v i.watched i.other_watched i.differ (λ x j. inr j) fine (inl refl)))
        | inr ne ↦ WatchesHold-more (v.step.literal ∷ literals_of v.older) (literals_of trail.steps) (literals_of after.steps) ks (λ x j. inr j) (v.done k ks e (λ j. elim j [ inl is ↦ ne is | inr later ↦ out later ]))
      ];
    }

-- the pool after a swap of watches, with the clause's literals written out
abbrev pool_after : PoolValue → ℕ → ℕ → ℕ → List ℕ → PoolValue
pool_after pool clause literal at ls = record pool {
  clauses = set pool.clauses clause (Some (swap ls (place_of ls literal) at));
  watches = with_first (without_in pool.watches literal clause) (get_or ls at 0) clause;
}

found_in_range : (clauses : List (Option (List ℕ))) (clause : ℕ) (ls : List ℕ) → clause_at clauses clause ≡ Some ls → clause < length clauses
found_in_range clauses clause ls found = elim (leb_tells (length clauses) clause) [
  | inl past ↦ absurd (none_literals ls (sym (get_or_past clauses clause None past.1) ∙ found))
  | inr within ↦ within.1
]

list_after : (pool : PoolValue) (clause literal at : ℕ) (ls visited rest : List ℕ) → literal < length pool.watches → list_at pool.watches literal ≡ visited ++ clause ∷ rest → NoneTwice (visited ++ clause ∷ rest) → get_or ls at 0 ≢ literal → list_at (pool_after pool clause literal at ls).watches literal ≡ visited ++ rest
list_after pool clause literal at ls visited rest lt splits once ne =
    get_or-set_other (without_in pool.watches literal clause) (get_or ls at 0) literal (clause ∷ list_at (without_in pool.watches literal clause) (get_or ls at 0)) [] (λ e. ne (sym e))
    ∙ get_or-set_same pool.watches literal (without clause (list_at pool.watches literal)) [] lt
    ∙ ap (without clause) splits
    ∙ without-split visited rest clause once

length_after : (pool : PoolValue) (clause literal at : ℕ) (ls : List ℕ) → length (pool_after pool clause literal at ls).watches ≡ length pool.watches
length_after pool clause literal at ls = length-with_first (without_in pool.watches literal clause) (get_or ls at 0) clause ∙ length-without_in pool.watches literal clause

is_moved : (pool : PoolValue) (trail : TrailValue) (place literal clause at : ℕ) (rest ls : List ℕ) → IsVisiting pool trail place literal (clause ∷ rest) → clause_at pool.clauses clause ≡ Some ls → IsWatched ls literal → 2 ≤ at → at < length ls → (IsFalseIn (literals_of trail.steps) (get_or ls at 0) → ⊥) → IsMoved pool.clauses (literals_of trail.steps) clause ls (swap ls (place_of ls literal) at)
is_moved pool trail place literal clause at rest ls v found watched behind within not_false =
    let sw = swaps ls literal at (v.fit.sound.different clause ls found) watched behind within in
    record {
      literal = literal;
      moved = get_or ls at 0;
      other = other_of ls literal;
      in_range = found_in_range pool.clauses clause ls found;
      found = found;
      now = sw.now;
      watched = watched;
      other_watched = sw.was_other;
      differ = sw.other_not_watched;
      is_false = visiting_false pool trail place literal (clause ∷ rest) v;
      not_false = not_false;
      permuted = IsPermutation-swap ls (swap ls (place_of ls literal) at) (place_of ls literal) at (omega (arith, (place_is ls literal watched).0, behind, within)) within refl;
    }

moved_ls : (pool : PoolValue) (trail : TrailValue) (place literal clause at : ℕ) (rest ls : List ℕ) → IsVisiting pool trail place literal (clause ∷ rest) → clause_at pool.clauses clause ≡ Some ls → IsWatched ls literal → 2 ≤ at → at < length ls → (IsFalseIn (literals_of trail.steps) (get_or ls at 0) → ⊥) → IsSound (pool_after pool clause literal at ls) → IsVisiting (pool_after pool clause literal at ls) trail place literal rest
moved_ls pool trail place literal clause at rest ls v found watched behind within not_false sound =
    let sw = swaps ls literal at (v.fit.sound.different clause ls found) watched behind within in
    let ms : List ℕ = swap ls (place_of ls literal) at in
    let m = is_moved pool trail place literal clause at rest ls v found watched behind within not_false in
    let fine = consistent trail.variables trail.steps v.fit.trail_sound.steps in
    let lens = length_after pool clause literal at ls in
    let older_among : (x : ℕ) → IsIn x (literals_of v.older) → IsIn x (literals_of trail.steps) = λ x j. among trail.steps v.newer (v.step ∷ v.older) x v.steps (inr j) in
    let all = AreWatched-moved pool.clauses (literals_of trail.steps) (literals_of v.older) (literals_of trail.steps) clause ls ms m fine older_among (λ x j. j) v.watched in
    record {
      fit = record {
        sound = sound;
        trail_sound = v.fit.trail_sound;
        literals = lens ∙ v.fit.literals;
        below = AreWatchedBelow-moved pool.clauses (literals_of trail.steps) trail.steps clause ls ms m fine (λ x j. j) v.fit.below;
        reasons = HaveReasons-moved pool.clauses trail.steps clause ls ms m.in_range found m.permuted v.fit.reasons;
      };
      visited = v.visited;
      splits = list_after pool clause literal at ls v.visited rest v.below v.splits (once_in pool trail place literal (clause ∷ rest) v) sw.moved_not_watched;
      newer = v.newer;
      step = v.step;
      older = v.older;
      steps = v.steps;
      count = v.count;
      opposite = v.opposite;
      below = subst (λ n. literal < n) (sym lens) v.below;
      watched = all;
      done = λ k ks e out. elim (clause_after pool.clauses clause k ms ks m.in_range e) [
        | inl here ↦
            (let out_of : IsWatched ms (opposite_of v.step.literal) → ⊥ = λ w. elim (sw.now literal (subst (IsWatched ms) (sym v.opposite) w)) [
              | inl bad ↦ sw.moved_not_watched (sym bad)
              | inr bad ↦ sw.other_not_watched (sym bad)
            ] in
            WatchesHold-unwatched (literals_of v.older) (literals_of trail.steps) ks v.step.literal
            (subst (λ xs. IsWatched xs (opposite_of v.step.literal) → ⊥) (sym here.1) out_of) (all k ks e))
        | inr there ↦ v.done k ks there.1 (λ j. elim j [ inl is ↦ there.0 is | inr later ↦ out later ])
      ];
    }

-- the clause watches another literal
moved : (pool new : PoolValue) (trail : TrailValue) (place literal clause : ℕ) (rest : List ℕ) → IsVisiting pool trail place literal (clause ∷ rest) → (i : IsVisit pool trail clause literal) → Moves pool new trail clause literal i.literals → IsVisiting new trail place literal rest × IsSamePool pool new
moved pool new trail place literal clause rest v i m =
    let same : literals_at pool.clauses clause ≡ i.literals = ap or_empty i.found in
    let lt = found_in_range pool.clauses clause i.literals i.found in
    let sound = subst (λ xs. IsSound (pool_after pool clause literal m.at xs)) same (IsSound-swap pool clause literal m.at i.literals v.fit.sound lt i.found i.watched m.behind m.within) in
    let after = moved_ls pool trail place literal clause m.at rest i.literals v i.found i.watched m.behind m.within m.not_false sound in
    let p = (is_moved pool trail place literal clause m.at rest i.literals v i.found i.watched m.behind m.within m.not_false).permuted in (
      subst (λ w. IsVisiting w trail place literal rest) (sym m.moved) (subst (λ xs. IsVisiting (pool_after pool clause literal m.at xs) trail place literal rest) (sym same) after),
      subst (IsSamePool pool) (sym m.moved) (IsSamePool-moved pool clause literal m.at i.literals lt i.found p),
    )

-- what stands after a visit
pub record IsVisited (pool new : PoolValue) (trail after : TrailValue) (place literal : ℕ) (rest : List ℕ) : Type 0 where
  pub visiting : IsVisiting new after place literal rest
  pub same_pool : IsSamePool pool new
  pub extended : IsExtended trail after

unchanged : (pool new : PoolValue) (trail after : TrailValue) (place literal : ℕ) (rest : List ℕ) → new ≡ pool → after ≡ trail → IsVisiting pool trail place literal rest → IsVisited pool new trail after place literal rest
unchanged pool new trail after place literal rest e f v =
    let same : IsVisited pool pool trail trail place literal rest = record { visiting = v; same_pool = IsSamePool-refl pool; extended = IsExtended-refl trail } in
    subst (λ w. IsVisited pool w trail after place literal rest) (sym e) (subst (λ t. IsVisited pool pool trail t place literal rest) (sym f) same)

visited_by : (pool new : PoolValue) (trail after : TrailValue) (place literal clause : ℕ) (rest : List ℕ) (visit : Visit) → IsVisiting pool trail place literal (clause ∷ rest) → (i : IsVisit pool trail clause literal) → Does pool new trail after clause literal i.literals i.other visit → visit ≢ Conflict → IsVisited pool new trail after place literal rest
visited_by pool new trail after place literal clause rest Kept v i d ne = unchanged pool new trail after place literal rest d.0 d.1 (kept pool trail place literal clause rest v i d.2)
visited_by pool new trail after place literal clause rest Moved v i d ne =
    let m = moved pool new trail place literal clause rest v i d.1 in
    subst (λ t. IsVisited pool new trail t place literal rest) (sym d.0) (record { visiting = m.0; same_pool = m.1; extended = IsExtended-refl trail })
visited_by pool new trail after place literal clause rest Propagated v i d ne =
    let same : IsVisited pool pool trail (with_step trail i.other (Clause clause)) place literal rest = record {
      visiting = propagated pool trail place literal clause rest v i d.2;
      same_pool = IsSamePool-refl pool;
      extended = IsExtended-step trail i.other clause;
    } in
    subst (λ w. IsVisited pool w trail after place literal rest) (sym d.0) (subst (λ t. IsVisited pool pool trail t place literal rest) (sym d.1) same)
visited_by pool new trail after place literal clause rest Conflict v i d ne = absurd (ne refl)

pub visited : (pool new : PoolValue) (trail after : TrailValue) (place literal clause : ℕ) (rest : List ℕ) (visit : Visit) → IsVisiting pool trail place literal (clause ∷ rest) → Visits pool new trail after clause literal visit → visit ≢ Conflict → IsVisited pool new trail after place literal rest
visited pool new trail after place literal clause rest visit v w ne = visited_by pool new trail after place literal clause rest visit v w.is_visit w.does ne

-- what stands where the visit found all literals false
pub record IsStopped (pool new : PoolValue) (trail after : TrailValue) (clause : ℕ) : Type 0 where
  pub fit : IsFit new after
  pub conflict : IsConflict new after clause
  pub same_pool : IsSamePool pool new
  pub extended : IsExtended trail after

stopped_by : (pool new : PoolValue) (trail after : TrailValue) (clause literal : ℕ) (visit : Visit) → IsFit pool trail → (i : IsVisit pool trail clause literal) → Does pool new trail after clause literal i.literals i.other visit → visit ≡ Conflict → IsStopped pool new trail after clause
stopped_by pool new trail after clause literal Kept fit i d e = absurd (let no : ⊥ = cc in no)
stopped_by pool new trail after clause literal Moved fit i d e = absurd (let no : ⊥ = cc in no)
stopped_by pool new trail after clause literal Propagated fit i d e = absurd (let no : ⊥ = cc in no)
stopped_by pool new trail after clause literal Conflict fit i d e =
    let same : IsStopped pool pool trail trail clause = record {
      fit = fit;
      conflict = record { literals = i.literals; found = i.found; all_false = d.2; newly = not_false_before pool trail clause i.literals fit i.found i.watched.two };
      same_pool = IsSamePool-refl pool;
      extended = IsExtended-refl trail;
    } in
    subst (λ w. IsStopped pool w trail after clause) (sym d.0) (subst (λ t. IsStopped pool pool trail t clause) (sym d.1) same)

pub stopped : (pool new : PoolValue) (trail after : TrailValue) (clause literal : ℕ) (visit : Visit) → IsFit pool trail → Visits pool new trail after clause literal visit → visit ≡ Conflict → IsStopped pool new trail after clause
stopped pool new trail after clause literal visit fit w e = stopped_by pool new trail after clause literal visit fit w.is_visit w.does e
