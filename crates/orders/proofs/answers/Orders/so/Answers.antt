-- Default writes before all others, in variable order.
use Rattle.std.proofs.Common.{◌≡◌, false, refl, subst, List, Bool, IsTrue, ◌↔◌}
use Rattle.relations.specs.Places.{StandsBefore}
use Rattle.program.specs.declared.program.Variable.{Variable}
use Rattle.action_orders.specs.Actions.{Var}
use Rattle.orders.specs.Volatiles.{volatile_vars}
use Rattle.orders.proofs.Said.{not_true, var}
use Rattle.orders.proofs.Ordered.{So, so_defaults, so_never, at_names}
use Rattle.orders.proofs.answers.Orders.so.Goals as goal

pub returns-in_default : goal.returns-in_default
returns-in_default c = at_names c.args.self.now c.args.a.now c.args.b.now _ _ (So c.args.self.now) false c.in_default.is-0 c.in_default.is-1
    (λ never. absurd (not_true false refl never), λ h. absurd (so_never c.args.self.now c.in_default.field-0-0 (var c.in_default.field-0-1 c.in_default.field-1-1) h))

in_variables : (vs all : List Variable) (v w : Var) (b : Bool) → vs ≡ all → (IsTrue b ↔ StandsBefore (volatile_vars vs) v w) → IsTrue b ↔ StandsBefore (volatile_vars all) v w
in_variables vs all v w b same iff = subst (λ (xs : List Variable). IsTrue b ↔ StandsBefore (volatile_vars xs) v w) same iff

pub returns-in-Default-Default : goal.returns-in-Default-Default
returns-in-Default-Default c =
    let v = var c.in-Default-Default.class c.in-Default-Default.name in
    let w = var c.in-Default-Default.later_class c.in-Default-Default.later_name in
    let stands = in_variables c.variables.result.now c.args.self.now.flat.program.now.variables v w c.stands_before.result c.variables.ensures.value c.stands_before.ensures in
    let to = so_defaults c.args.self.now v w in
    at_names c.args.self.now c.args.a.now c.args.b.now _ _ (So c.args.self.now) c.stands_before.result c.in-Default-Default.is-0 c.in-Default-Default.is-1
    (λ yes. to.0 (stands.0 yes), λ h. stands.1 (to.1 h))
