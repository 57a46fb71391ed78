use Rattle.std.proofs.Common.{List, ap, arith, length}
use Rattle.var_names.specs.declared.args.Arg.{Arg}
use Rattle.solver_tests.proofs.Places.{numbered-push}
use Rattle.solver_tests.proofs.ruled.RuledFormula.push.Goals as goal

pub invariant_of-self : goal.invariant_of-self
invariant_of-self c =
    let f = c.args.self.now in
    record {
      numbered = numbered-push c.push.result f.formula c.push.new.self c.in_ok-clause.clause _ f.numbered
          (omega (arith, c.clauses-before.ensures)) (ap (λ (args : List Arg). length args) c.new.ensures) c.push.ensures.ok c.push.ensures.memory;
    }
