-- The instances of a small source.
use Rattle.std.specs.Prelude.{◌≡◌, ◌≢◌, ℕ, AllPairs, Bool, true, false, List, [], ◌∷◌}
use Rattle.std.proofs.Common.{zero, suc, arith, ap}
use Rattle.var_names.specs.declared.args.Arg.{Arg}
use Rattle.var_names.specs.declared.args.Arg.TheVariants.{Number}
use Rattle.var_names.specs.declared.family.Family.TheVariants.{On}
use Rattle.var_names.specs.declared.rule.Rule.{Rule}
use Rattle.var_names.specs.declared.var.Lit.{Lit}
use Rattle.var_names.specs.Formulas.{RuledClause}
use Rattle.refutation_tests.specs.declared.small.Kind.{Kind}
use Rattle.refutation_tests.specs.declared.small.Kind.TheVariants.{Holds, Fails, Empty}

abbrev pub rule_of : Kind → Rule
rule_of Holds = record { number = 1; args = [] }
rule_of Fails = record { number = 2; args = [] }
rule_of Empty = record { number = 14; args = Number 5 ∷ [] }

abbrev pub literal_of : Bool → Lit
literal_of positive = record { var = record { family = On; args = Number 0 ∷ Number 0 ∷ [] }; positive = positive }

abbrev pub literals_of : Kind → List Lit
literals_of Holds = literal_of true ∷ []
literals_of Fails = literal_of false ∷ []
literals_of Empty = []

abbrev pub instance_of : Kind → RuledClause
instance_of kind = record { rule = rule_of kind; literals = literals_of kind }

abbrev pub small_instances : List RuledClause
small_instances = instance_of Holds ∷ instance_of Fails ∷ instance_of Empty ∷ []

number-of : (a b : Rule) → a ≡ b → a.number ≡ b.number
number-of a b same = ap (λ (r : Rule). r.number) same

pub small_apart : AllPairs (λ (earlier later : RuledClause). earlier.rule ≢ later.rule) small_instances
small_apart zero zero d before within = absurd (omega (arith, before))
small_apart zero (suc zero) d before within = λ same. omega (arith, number-of (rule_of Holds) (rule_of Fails) same)
small_apart zero (suc (suc zero)) d before within = λ same. omega (arith, number-of (rule_of Holds) (rule_of Empty) same)
small_apart zero (suc (suc (suc j))) d before within = absurd (omega (arith, within))
small_apart (suc i) zero d before within = absurd (omega (arith, before))
small_apart (suc zero) (suc zero) d before within = absurd (omega (arith, before))
small_apart (suc zero) (suc (suc zero)) d before within = λ same. omega (arith, number-of (rule_of Fails) (rule_of Empty) same)
small_apart (suc zero) (suc (suc (suc j))) d before within = absurd (omega (arith, within))
small_apart (suc (suc i)) (suc zero) d before within = absurd (omega (arith, before))
small_apart (suc (suc zero)) (suc (suc j)) d before within = absurd (omega (arith, before, within))
small_apart (suc (suc (suc i))) (suc (suc j)) d before within = absurd (omega (arith, before, within))
