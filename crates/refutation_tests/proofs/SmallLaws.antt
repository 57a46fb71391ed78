-- What names an instance of the small source, and what does not.
use Rattle.std.proofs.Common.{zero, suc, ◌≡◌, ◌≢◌, ap, sym, subst, arith, refl, List}
use Rattle.std.specs.Prelude.{Contains}
use Rattle.var_names.specs.declared.rule.Rule.{Rule}
use Rattle.var_names.specs.declared.var.Lit.{Lit}
use Rattle.var_names.specs.Formulas.{RuledClause}
use Rattle.refutation_tests.specs.declared.small.Kind.{Kind}
use Rattle.refutation_tests.specs.declared.small.Kind.TheVariants.{Holds, Fails, Empty}
use Rattle.refutation_tests.specs.Small.{instance_of, literals_of, rule_of, small_instances}

there : (kind : Kind) → Contains small_instances (instance_of kind)
there Holds = (0, omega arith, refl)
there Fails = (1, omega arith, refl)
there Empty = (2, omega arith, refl)

pub named : (kind : Kind) (rule : Rule) (literals : List Lit) → rule ≡ rule_of kind → literals ≡ literals_of kind
    → Contains small_instances (record { rule = rule; literals = literals })
named kind rule literals same clause =
    let is : instance_of kind ≡ record { rule = rule; literals = literals } =
    let r = sym same in let l = sym clause in λ i. record { rule = r i; literals = l i } in
    subst (λ (instance : RuledClause). Contains small_instances instance) is (there kind)

pub unnamed : (rule : Rule) → ((kind : Kind) → rule ≢ rule_of kind) → (literals : List Lit) → ¬ (Contains small_instances (record { rule = rule; literals = literals }))
unnamed rule none literals (zero, within, is) = none Holds (sym (ap (λ (instance : RuledClause). instance.rule) is))
unnamed rule none literals (suc zero, within, is) = none Fails (sym (ap (λ (instance : RuledClause). instance.rule) is))
unnamed rule none literals (suc (suc zero), within, is) = none Empty (sym (ap (λ (instance : RuledClause). instance.rule) is))
unnamed rule none literals (suc (suc (suc k)), within, is) = absurd (omega (arith, within))
