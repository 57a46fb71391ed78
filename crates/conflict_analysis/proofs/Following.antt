-- The hints, as resolution goes back along the trail.
use Rattle.std.proofs.Common.{◌≢◌, ℕ, inl, inr, List, [], ◌∷◌, Bool, ◌∙◌, ap}
use Rattle.std.proofs.lemmas.Bool.{cases_eq}
use Rattle.clause_pool.specs.PoolValue.{IsIn}
use Rattle.literals.specs.Literal.{opposite_of}
use Rattle.literals.specs.Propagation.{IsUnitBut, IsUnit, HasNoValueIn, EndsFalse}
use Rattle.literals.proofs.Opposites.{opposite-opposite}
use Rattle.trail.specs.Steps.{literals_of}
use Rattle.trail.specs.declared.step.Step.{Step}
use Rattle.conflict_analysis.specs.Marks.{IsMarked, EndsWith}

-- the clause that is false, all its literals marked
pub ends_start : (marks : List Bool) (left : List Step) (clause : List ℕ) → ((x : ℕ) → IsIn x clause → IsMarked marks x) → EndsWith marks left (clause ∷ [])
ends_start marks left clause all made within falses x i = falses x (all x i)

-- a step whose opposite isn't marked
pub ends_skip : (marks : List Bool) (s : Step) (older : List Step) (hints : List (List ℕ)) → EndsWith marks (s ∷ older) hints → EndsWith marks older hints
ends_skip marks s older hints ends made within falses = ends made (λ x i. inr (within x i)) falses

pub put_first : (made : List ℕ) (literal : ℕ) (reason : List ℕ) (hints : List (List ℕ)) → IsUnit made reason literal → EndsFalse (literal ∷ made) hints → EndsFalse made (reason ∷ hints)
put_first made literal reason [] unit ends = absurd ends
put_first made literal reason (next ∷ rest) unit ends = (literal, unit, ends)

-- a step whose opposite is resolved with the step's reason
pub ends_resolve : (old new : List Bool) (s : Step) (older : List Step) (reason : List ℕ) (hints : List (List ℕ)) → EndsWith old (s ∷ older) hints → IsUnitBut (literals_of older) reason s.literal → HasNoValueIn (literals_of older) s.literal → ((x : ℕ) → IsMarked old x → x ≢ opposite_of s.literal → IsMarked new x) → ((x : ℕ) → IsIn x reason → x ≢ s.literal → IsMarked new x) → EndsWith new older (reason ∷ hints)
ends_resolve old new s older reason hints ends unit none kept added made within falses =
    put_first made s.literal reason hints (record {
      unit = record { member = unit.member; others_false = λ x i ne. falses x (added x i ne) };
      open_value = record {
        not_true = λ i. none.not_true (within s.literal i);
        not_false = λ i. none.not_false (within (opposite_of s.literal) i);
      };
    })
    (ends (s.literal ∷ made)
    (λ x i. elim i [ inl here ↦ inl here | inr later ↦ inr (within x later) ])
    (λ x m. elim (cases_eq x (opposite_of s.literal)) [
      | inl same ↦ inl (ap opposite_of same ∙ opposite-opposite s.literal)
      | inr ne ↦ inr (falses x (kept x m ne))
    ]))
