use Rattle.std.proofs.Common.{nat_eq, ◌&&◌, List, map, ap, ◌∙◌, refl}
use Rattle.program.specs.declared.method.MethodId.{MethodId}
use Rattle.reached_methods.specs.declared.method_set.Key.{Key}
use Rattle.reached_methods.specs.Exploring.{with_method}
use Rattle.reached_methods.proofs.Leading.{keys_added}
use Rattle.reached_methods.proofs.method_set.MethodSet.add.Goals as goal
use Rattle.reached_methods.proofs.method_set.MethodSet.add.Goals.{in-Ok, in-Err}

pub returns : goal.returns
returns c =
    let named : Key → MethodId = λ key. record { class = key.class; method = key.method } in
    elim c.match-insert_full.branch [
      | in-Ok w ↦ rw w.result-is (ap (map named) w.in-Ok.ensures.keys
          ∙ keys_added (λ (a b : Key). nat_eq a.class b.class && nat_eq a.method b.method) named (record { class = c.args.id.class; method = c.args.id.method }) (λ a. refl) c.self.inside.keys.keys
          ∙ ap (λ (ids : List MethodId). with_method ids c.args.id) c.self.view_is)
      | in-Err w ↦ rw w.result-is tt
    ]
