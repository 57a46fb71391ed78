-- Lists of instances, no two of them under one rule: what a rule names.
use Rattle.std.specs.Prelude.{Contains, List, Result, MatchResult, ⊤}
use Rattle.var_names.specs.declared.rule.Rule.{Rule}
use Rattle.var_names.specs.declared.rule.RuleRefusal.{RuleRefusal}
use Rattle.var_names.specs.declared.rule.RuleRefusal.TheVariants.{BadRule, Memory}
use Rattle.var_names.specs.declared.var.Lit.{Lit}
use Rattle.var_names.specs.Formulas.{RuledClause}

-- these literals are the clause of an instance under the rule
abbrev pub IsInstance : List RuledClause → Rule → List Lit → Type 0
IsInstance instances rule literals = Contains instances (record { rule = rule; literals = literals })

-- the cause of a refusal: the rule names no instance; want of memory has none
abbrev pub IsRefusedFor : List RuledClause → Rule → RuleRefusal → Type 0
IsRefusedFor instances rule BadRule = (literals : List Lit) → ¬ (IsInstance instances rule literals)
IsRefusedFor instances rule Memory = ⊤

-- an answer to the question for the clause of an instance
abbrev pub FindsClause : List RuledClause → Rule → Result (List Lit) RuleRefusal → Type 0
FindsClause instances rule result = MatchResult result (IsInstance instances rule) (IsRefusedFor instances rule)
