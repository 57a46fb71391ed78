-- What a swap of watches leaves, at every decision and in every reason.
use Rattle.std.proofs.Common.{◌≡◌, ◌≢◌, ℕ, ◌<◌, ◌⊎◌, inl, inr, List, [], ◌∷◌, Option, Some, length, set, sym, ◌∙◌, ap, subst}
use Rattle.std.specs.List.{All}
use Rattle.std.specs.List.Sorted.{IsPermutation}
use Rattle.std.proofs.lemmas.Bool.{cases_eq}
use Rattle.std.proofs.lemmas.List.{get_or_default}
use Rattle.std.proofs.lemmas.List.Sorted.{All-permutation, IsPermutation-sym}
use Rattle.clause_pool.specs.PoolValue.{IsIn, IsWatched, clause_at}
use Rattle.clause_pool.proofs.Sound.{some_literals, clause_at-set_same, clause_at-set_other}
use Rattle.literals.specs.Propagation.{IsFalseIn, IsConsistent}
use Rattle.literals.proofs.Members.{IsIn-place, place-IsIn}
use Rattle.trail.specs.Steps.{literals_of}
use Rattle.trail.specs.declared.step.Reason.{Reason}
use Rattle.trail.specs.declared.step.Reason.TheVariants.{Decision, Clause, Decisions}
use Rattle.trail.specs.declared.step.Step.{Step}
use Rattle.propagation.specs.Watches.{WatchesHold, AreWatched, WereWatched, AreWatchedBelow, HasReason, HaveReasons}
use Rattle.propagation.proofs.Watching.{WatchesHold-moved}

-- one clause watches `moved` in place of `literal`
pub record IsMoved (clauses : List (Option (List ℕ))) (whole : List ℕ) (clause : ℕ) (ls ms : List ℕ) : Type 0 where
  pub literal : ℕ
  pub moved : ℕ
  pub other : ℕ
  pub in_range : clause < length clauses
  pub found : clause_at clauses clause ≡ Some ls
  pub now : (m : ℕ) → IsWatched ms m → (m ≡ moved) ⊎ (m ≡ other)
  pub watched : IsWatched ls literal
  pub other_watched : IsWatched ls other
  pub differ : other ≢ literal
  pub is_false : IsFalseIn whole literal
  pub not_false : IsFalseIn whole moved → ⊥
  pub permuted : IsPermutation ls ms

pub clause_after : (clauses : List (Option (List ℕ))) (c k : ℕ) (ms ks : List ℕ) → c < length clauses → clause_at (set clauses c (Some ms)) k ≡ Some ks → ((k ≡ c) × (ks ≡ ms)) ⊎ ((k ≢ c) × (clause_at clauses k ≡ Some ks))
clause_after clauses c k ms ks lt e = elim (cases_eq k c) [
  | inl same ↦ inl (same, some_literals ks ms (sym e ∙ ap (clause_at (set clauses c (Some ms))) same ∙ clause_at-set_same clauses c (Some ms) lt))
  | inr ne ↦ inr (ne, sym (clause_at-set_other clauses c k (Some ms) ne) ∙ e)
]

pub AreWatched-moved : (clauses : List (Option (List ℕ))) (whole done trail : List ℕ) (c : ℕ) (ls ms : List ℕ) → IsMoved clauses whole c ls ms → IsConsistent whole → ((x : ℕ) → IsIn x done → IsIn x whole) → ((x : ℕ) → IsIn x trail → IsIn x whole) → AreWatched done trail clauses → AreWatched done trail (set clauses c (Some ms))
AreWatched-moved clauses whole done trail c ls ms m fine done_among trail_among all k ks e = elim (clause_after clauses c k ms ks m.in_range e) [
  | inl here ↦ subst (WatchesHold done trail) (sym here.1)
      (WatchesHold-moved done trail whole ls ms m.literal m.moved m.other m.now m.watched m.other_watched m.differ done_among trail_among fine m.is_false m.not_false (all c ls m.found))
  | inr there ↦ all k ks there.1
]

WereWatched-moved : (clauses : List (Option (List ℕ))) (whole : List ℕ) (reason : Reason) (older : List ℕ) (c : ℕ) (ls ms : List ℕ) → IsMoved clauses whole c ls ms → IsConsistent whole → ((x : ℕ) → IsIn x older → IsIn x whole) → WereWatched clauses reason older → WereWatched (set clauses c (Some ms)) reason older
WereWatched-moved clauses whole Decision older c ls ms m fine among w = AreWatched-moved clauses whole older older c ls ms m fine among among w
WereWatched-moved clauses whole (Clause clause) older c ls ms m fine among w = tt
WereWatched-moved clauses whole Decisions older c ls ms m fine among w = tt

pub AreWatchedBelow-moved : (clauses : List (Option (List ℕ))) (whole : List ℕ) (steps : List Step) (c : ℕ) (ls ms : List ℕ) → IsMoved clauses whole c ls ms → IsConsistent whole → ((x : ℕ) → IsIn x (literals_of steps) → IsIn x whole) → AreWatchedBelow clauses steps → AreWatchedBelow (set clauses c (Some ms)) steps
AreWatchedBelow-moved clauses whole [] c ls ms m fine among w = tt
AreWatchedBelow-moved clauses whole (s ∷ older) c ls ms m fine among w = (
  WereWatched-moved clauses whole s.reason (literals_of older) c ls ms m fine (λ x i. among x (inr i)) w.0,
  AreWatchedBelow-moved clauses whole older c ls ms m fine (λ x i. among x (inr i)) w.1,
)

pub IsIn-permuted : (ls ms : List ℕ) (x : ℕ) → IsPermutation ls ms → IsIn x ms → IsIn x ls
IsIn-permuted ls ms x p i =
    let every : All (λ y. IsIn y ls) ls = λ k d lt. subst (λ y. IsIn y ls) (get_or_default ls k 0 d lt) (IsIn-place ls k lt) in
    let at = place-IsIn ms x i in
    subst (λ y. IsIn y ls) at.2 (All-permutation (λ y. IsIn y ls) ls ms p every at.0 0 at.1)

HasReason-moved : (clauses : List (Option (List ℕ))) (older : List ℕ) (literal : ℕ) (reason : Reason) (c : ℕ) (ls ms : List ℕ) → c < length clauses → clause_at clauses c ≡ Some ls → IsPermutation ls ms → HasReason clauses older literal reason → HasReason (set clauses c (Some ms)) older literal reason
HasReason-moved clauses older literal Decision c ls ms lt found p r = tt
HasReason-moved clauses older literal (Clause k) c ls ms lt found p r = elim (cases_eq k c) [
  | inl same ↦
      (let is_ls : r.literals ≡ ls = some_literals r.literals ls (sym r.found ∙ ap (clause_at clauses) same ∙ found) in
      record {
        literals = ms;
        found = ap (clause_at (set clauses c (Some ms))) same ∙ clause_at-set_same clauses c (Some ms) lt;
        unit = record {
          member = IsIn-permuted ms ls literal (IsPermutation-sym ls ms p) (subst (IsIn literal) is_ls r.unit.member);
          others_false = λ x i ne. r.unit.others_false x (subst (IsIn x) (sym is_ls) (IsIn-permuted ls ms x p i)) ne;
        };
      })
  | inr ne ↦ record { literals = r.literals; found = clause_at-set_other clauses c k (Some ms) ne ∙ r.found; unit = r.unit }
]
HasReason-moved clauses older literal Decisions c ls ms lt found p r = tt

pub HaveReasons-moved : (clauses : List (Option (List ℕ))) (steps : List Step) (c : ℕ) (ls ms : List ℕ) → c < length clauses → clause_at clauses c ≡ Some ls → IsPermutation ls ms → HaveReasons clauses steps → HaveReasons (set clauses c (Some ms)) steps
HaveReasons-moved clauses [] c ls ms lt found p r = tt
HaveReasons-moved clauses (s ∷ older) c ls ms lt found p r = (HasReason-moved clauses (literals_of older) s.literal s.reason c ls ms lt found p r.0, HaveReasons-moved clauses older c ls ms lt found p r.1)
