-- What decisions and propagation keep.
use Rattle.std.proofs.Common.{◌≡◌, ◌++◌, ◌∙◌, ℕ, zero, suc, List, [], ◌∷◌, None, Option, Some, refl, sym, subst, arith, length}
use Rattle.std.specs.List.Sorted.{IsPermutation}
use Rattle.std.proofs.lemmas.List.Sums.{sum_by-cons}
use Rattle.std.proofs.lemmas.List.Sorted.{IsPermutation-sym}
use Rattle.clause_pool.specs.PoolValue.{PoolValue, clause_at}
use Rattle.clause_pool.proofs.Sound.{none_literals}
use Rattle.literals.specs.Propagation.{HasNoValueIn}
use Rattle.trail.specs.Steps.{TrailValue, IsSoundFor, literals_of}
use Rattle.trail.specs.declared.step.Reason.{Reason}
use Rattle.trail.specs.declared.step.Reason.TheVariants.{Decision, Clause, Decisions}
use Rattle.trail.specs.declared.step.Step.{Step}
use Rattle.trail.proofs.Soundness.{open_older}
use Rattle.var_names.specs.Formulas.{FormulaValue}
use Rattle.propagation.specs.Ready.{IsSamePool, SameClause}
use Rattle.propagation.proofs.Swapping.{IsIn-permuted}
use Rattle.search_steps.specs.States.{AreNotExcluded, IsGrown, IsNotExcluded}
use Rattle.search_steps.proofs.Keeping.{same_found}
use Rattle.search_log.specs.declared.name.Name.{Name}
use Rattle.search_log.specs.declared.name.Name.TheVariants.{Unnamed, Ruled, Numbered}
use Rattle.search_log.specs.Names.{LogValue, IsNamed, SameLiterals, name_at}
use Rattle.logged_search.specs.Tied.{AreTied, HoldsFormula, NameReasons, NamesReason, reason_slot}
use Rattle.logged_search.specs.Used.{in_use, one_if_used}

pub literals-permuted : (written ls ms : List ℕ) → IsPermutation ls ms → SameLiterals written ls → SameLiterals written ms
literals-permuted written ls ms p same x = (
  λ i. IsIn-permuted ms ls x (IsPermutation-sym ls ms p) ((same x).0 i),
  λ i. (same x).1 (IsIn-permuted ls ms x p i),
)

named-permuted : (formula : FormulaValue) (clauses : List (Option (List ℕ))) (name : Name) (ls ms : List ℕ) → IsPermutation ls ms → IsNamed formula clauses name ls → IsNamed formula clauses name ms
named-permuted formula clauses Unnamed ls ms p is = is
named-permuted formula clauses (Ruled place) ls ms p is = record { numbers = is.numbers; clause = is.clause; same = literals-permuted is.numbers ls ms p is.same }
named-permuted formula clauses (Numbered number) ls ms p is = record { written = is.written; live = is.live; same = literals-permuted is.written ls ms p is.same }

reason-new : (formula : FormulaValue) (clauses : List (Option (List ℕ))) (log : LogValue) (older : List Step) (l : ℕ) (reason : Reason)
    → IsNotExcluded reason → name_at log.names (reason_slot log l) ≡ Unnamed → NamesReason formula clauses log older l reason
reason-new formula clauses log older l Decision not none = none
reason-new formula clauses log older l (Clause clause) not none = none
reason-new formula clauses log older l Decisions not none = absurd not

open-before : (newer older : List Step) (l : ℕ) → HasNoValueIn (literals_of (newer ++ older)) l → HasNoValueIn (literals_of older) l
open-before [] older l none = none
open-before (s ∷ newer) older l none = open-before newer older l (open_older (literals_of (newer ++ older)) l s.literal none)

reasons-grown : (n : ℕ) (formula : FormulaValue) (clauses : List (Option (List ℕ))) (log : LogValue) (newer older : List Step)
    → IsSoundFor n (newer ++ older) → AreNotExcluded newer → ((l : ℕ) → HasNoValueIn (literals_of older) l → name_at log.names (reason_slot log l) ≡ Unnamed)
    → NameReasons formula clauses log older → NameReasons formula clauses log (newer ++ older)
reasons-grown n formula clauses log [] older sound not others are = are
reasons-grown n formula clauses log (s ∷ newer) older sound not others are = (
  reason-new formula clauses log (newer ++ older) s.literal s.reason not.0 (others s.literal (open-before newer older s.literal sound.1)),
  reasons-grown n formula clauses log newer older sound.2 not.1 others are,
)

same-none : (old new : Option (List ℕ)) → SameClause old new → new ≡ None → old ≡ None
same-none None new same is = refl
same-none (Some ls) None same is = absurd same
same-none (Some ls) (Some ms) same is = absurd (none_literals ms (sym is))

-- names stay where the pool is the same, but for the order of literals, and no step is excluded
pub tied-grown : (n : ℕ) (formula : FormulaValue) (clauses : List (Option (List ℕ))) (old new : PoolValue) (before after : TrailValue) (log : LogValue)
    → IsSamePool old new → IsSoundFor n after.steps → IsGrown before after → AreTied formula clauses old before.steps log → AreTied formula clauses new after.steps log
tied-grown n formula clauses old new before after log same sound grown tied = record {
  current = tied.current;
  stored = λ clause literals found.
      let was = same_found (clause_at old.clauses clause) (clause_at new.clauses clause) literals (same.clauses clause) found in
      named-permuted formula clauses (name_at log.names clause) was.0 literals was.2 (tied.stored clause was.0 was.1);
  reasons = subst (NameReasons formula clauses log) (sym grown.splits)
      (reasons-grown n formula clauses log grown.newer before.steps (subst (IsSoundFor n) grown.splits sound) grown.not_excluded tied.others tied.reasons);
  free = λ clause small found. tied.free clause small (same-none (clause_at old.clauses clause) (clause_at new.clauses clause) (same.clauses clause) found);
  others = λ l none. tied.others l (open-before grown.newer before.steps l (subst (λ ys. HasNoValueIn (literals_of ys) l) grown.splits none));
  handles = tied.handles ∙ sym same.handles;
  slots = tied.slots;
}

-- so do the clauses of the formula
same-new : (old new : Option (List ℕ)) (ls : List ℕ) → SameClause old new → old ≡ Some ls → (ms : List ℕ) × (new ≡ Some ms) × IsPermutation ls ms
same-new None new ls same is = absurd (none_literals ls is)
same-new (Some xs) None ls same is = absurd same
same-new (Some xs) (Some ms) ls same is = (ms, refl, subst (λ (zs : List ℕ). IsPermutation zs ms) (Rattle.clause_pool.proofs.Sound.some_literals xs ls is) same)

pub holds-same : (formula : FormulaValue) (old new : PoolValue) → IsSamePool old new → HoldsFormula formula old.clauses → HoldsFormula formula new.clauses
holds-same formula old new same holds place numbers names =
    let was = holds place numbers names in
    let now = same-new (clause_at old.clauses was.0) (clause_at new.clauses was.0) was.1 (same.clauses was.0) was.2 in (
      was.0,
      now.0,
      now.1,
      λ x. (
        λ i. (was.3 x).0 (IsIn-permuted was.1 now.0 x now.2 i),
        λ i. IsIn-permuted now.0 was.1 x (IsPermutation-sym was.1 now.0 now.2) ((was.3 x).1 i),
      ),
    )

used-same : (a b : Option (List ℕ)) → SameClause a b → one_if_used b ≡ one_if_used a
used-same None None same = refl
used-same None (Some y) same = absurd same
used-same (Some x) None same = absurd same
used-same (Some x) (Some y) same = refl

pub in_use-same : (xs ys : List (Option (List ℕ))) → length ys ≡ length xs → ((k : ℕ) → SameClause (clause_at xs k) (clause_at ys k)) → in_use ys ≡ in_use xs
in_use-same [] [] size same = refl
in_use-same [] (y ∷ ys) size same = absurd (omega (arith, size))
in_use-same (x ∷ xs) [] size same = absurd (omega (arith, size))
in_use-same (x ∷ xs) (y ∷ ys) size same =
    let here = used-same x y (same zero) in
    let later = in_use-same xs ys (omega (arith, size)) (λ k. same (suc k)) in
    let sum = sum_by-cons one_if_used x xs in
    let sum' = sum_by-cons one_if_used y ys in
    omega (arith, here, later, sum, sum')
