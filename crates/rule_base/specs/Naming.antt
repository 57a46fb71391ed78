-- The rules that name the instances of a table.
use Rattle.std.specs.Prelude.{◌≡◌, ◌≢◌, ◌+◌, ℕ, AllPairs, Contains, List, map}
use Rattle.var_names.specs.declared.args.Arg.{Arg}
use Rattle.var_names.specs.declared.args.Arg.TheVariants.{Number}
use Rattle.var_names.specs.declared.rule.Rule.{Rule}
use Rattle.var_names.specs.declared.var.Lit.{Lit}
use Rattle.var_names.specs.Formulas.{RuledClause}
use Rattle.rule_base.specs.declared.question.Question.{Question}
use Rattle.rule_base.specs.declared.instances.Instance.{Instance}
use Rattle.rule_base.specs.Instances.{IsInstance, Rows, all_instances, instance}

-- numbers as arguments
abbrev pub numbers : List ℕ → List Arg
numbers choices = map Number choices

-- the rule that names an instance of a table whose first rule has this number
abbrev pub rule_of : ℕ → Instance → Rule
rule_of first i = record { number = first + i.place; args = numbers i.choices }

-- the literals of each rule of a table at its arguments
abbrev pub Literals : Type 0
Literals = ℕ → List ℕ → List Lit

-- the clause of an instance under its rule
abbrev pub named : ℕ → Literals → Instance → RuledClause
named first literals i = record { rule = rule_of first i; literals = literals i.place i.choices }

-- the instances of a table with their clauses, each under its rule
unfoldable pub named_instances : ℕ → Question → Rows → Literals → List RuledClause
named_instances first q rows literals = map (named first literals) (all_instances q rows)

-- each instance is among them
abbrev pub NamesEach : Type 0
NamesEach =
    (first : ℕ) (q : Question) (rows : Rows) (literals : Literals) (place : ℕ) (args : List ℕ) → IsInstance q rows place args →
    Contains (named_instances first q rows literals) (named first literals (instance place args))

-- and nothing else
abbrev pub NamesOnly : Type 0
NamesOnly =
    (first : ℕ) (q : Question) (rows : Rows) (literals : Literals) (clause : RuledClause) →
    Contains (named_instances first q rows literals) clause →
    (i : Instance) × IsInstance q rows i.place i.choices × (clause ≡ named first literals i)

-- no two of them under one rule
abbrev pub NamesOnce : Type 0
NamesOnce =
    (first : ℕ) (q : Question) (rows : Rows) (literals : Literals) →
    AllPairs (λ earlier later. earlier.rule ≢ later.rule) (named_instances first q rows literals)
