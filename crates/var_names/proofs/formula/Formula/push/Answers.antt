use Rattle.var_names.proofs.NumberedLaws.{appended, numbered-after}
use Rattle.var_names.proofs.formula.Formula.push.Goals as goal

pub invariant_of-self : goal.invariant_of-self
invariant_of-self c =
    numbered-after c.append.result c.self.inside.variables.keys c.append.new.variables.keys c.self.inside.clauses.items c.append.new.clauses.items
    c.args.clause c.args.rule c.self.invariant c.requires.once c.append.ensures.ok c.append.ensures.variables c.append.ensures.clauses

pub returns-clause-ok : goal.returns-clause-ok
returns-clause-ok c = rw (← c.self.view_is)
    (appended c.append.result c.self.inside.steps c.self.inside.variables.keys c.append.new.variables.keys c.self.inside.clauses.items c.append.new.clauses.items
    c.args.clause c.args.rule c.self.invariant c.append.ensures.ok)
