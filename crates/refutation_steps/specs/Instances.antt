-- What becomes of a line that names an instance.
use Rattle.std.specs.Prelude.{◌++◌, ◌≡◌, ℕ, List, [], ◌∷◌, MatchOption, Option, Some, ⊤}
use Rattle.var_names.specs.declared.args.Arg.{Arg}
use Rattle.var_names.specs.declared.rule.Rule.{Rule}
use Rattle.var_names.specs.declared.rule.RuleRefusal.{RuleRefusal}
use Rattle.var_names.specs.declared.rule.RuleRefusal.TheVariants.{BadRule, Memory}
use Rattle.var_names.specs.declared.var.Lit.{Lit}
use Rattle.var_names.specs.Formulas.{RuledClause}
use Rattle.var_names.specs.Instances.{IsInstance}
use Rattle.refutation_lines.specs.Propagation.{Clauses}
use Rattle.refutation_steps.specs.RuleWords.{AreWordsOf, IsRule}

-- the clause of a rule's instance is the next
pub record AddsInstance (instances : List RuledClause) (named : Option Rule) (old new : Clauses) : Type 0 where
  pub rule : Rule
  pub literals : List Lit
  pub named_is : named ≡ Some rule
  pub instance : IsInstance instances rule literals
  pub added : new ≡ old ++ Some literals ∷ []

-- no rule is named, or one that has no instance
abbrev pub IsNoInstance : List RuledClause → Option Rule → RuleRefusal → Type 0
IsNoInstance instances named BadRule = MatchOption named ⊤ (λ rule. (literals : List Lit) → ¬ (IsInstance instances rule literals))
IsNoInstance instances named Memory = ⊤

-- a number and arguments name no instance
abbrev pub NamesNone : {V W : Type 0} → (ℕ → V) → (Arg → W) → List RuledClause → V → List W → Type 0
NamesNone spell_number spell instances word words =
    (rule : Rule) (literals : List Lit) → IsRule rule → AreWordsOf spell_number spell word words rule → ¬ (IsInstance instances rule literals)
