-- A method of that name is among the methods, so the loop meets it.
use Rattle.std.proofs.Common.{◌≡◌, ◌<◌, ◌≤◌, ℕ, List, length, arith, get_or, ap, ◌∙◌, Contains, rules, of_calls}
use Rattle.program.proofs.Lists.{contains_map}
use Rattle.program.proofs.Methods.{one_method}
use Rattle.program.specs.declared.method.Method.{Method}
use Rattle.program.specs.declared.method.MethodId.{MethodId}
use Rattle.program.proofs.program.Program.reached.Goals as goal

not_there : (items met : List Method) (id : MethodId) (bound : ℕ) → met ≡ items → length met ≤ bound →
    ((k : ℕ) (d : Method) → k < bound → (get_or met k d).id ≡ id → ⊥) → (m : Method) × Contains items m × (m.id ≡ id) → ⊥
not_there items met id bound same all none (m, (k, within, is), named) =
    none k m (omega (arith, ap length same)) (ap (λ (x : List Method). (get_or x k m).id) same ∙ ap (λ (x : Method). x.id) is ∙ named)

pub unreachable-requires : goal.unreachable-requires
unreachable-requires c =
    not_there c.self.inside.methods.items c.deref-method-items.result.now c.args.id c.loop-method.method-index c.deref-method-items.ensures.value
    c.loop-method-test.false c.loop-method.invariant
    (contains_map (λ (m : Method). m.id) c.self.inside.methods.items c.args.id (rw (← c.self.view_is) at c.requires))

pub returns-then-eq-clause-only : goal.returns-then-eq-clause-only
returns-then-eq-clause-only c = λ m is. one_method c.args.self.now c.args.id m c.method-item.result (rw (← c.self.view_is) c.self.invariant.0.distinct) is (search (rules, of_calls))
