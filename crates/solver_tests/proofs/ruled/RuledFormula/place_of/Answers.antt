use Rattle.std.proofs.Common.{◌-◌, arith}
use Rattle.solver_tests.proofs.Places.{instance-at, place-found}
use Rattle.solver_tests.proofs.ruled.RuledFormula.place_of.Goals as goal
use Rattle.solver_tests.proofs.ruled.RuledFormula.place_of.Goals.{then-rule-eq0-via-then-rule-eq0, then-rule-eq0-via-else-rule-eq0+then-len-gt0}

pub returns-then-rule-eq0 : goal.returns-then-rule-eq0
returns-then-rule-eq0 c = λ literals is.
    let f = c.args.self.now in
    let at = instance-at f.formula.clauses c.args.rule.now literals f.numbered is in
    elim c.then-rule-eq0.branch [
      | then-rule-eq0-via-then-rule-eq0 w ↦ omega (arith, at.2, w.if-rule-eq0.true)
      | then-rule-eq0-via-else-rule-eq0+then-len-gt0 w ↦ omega (arith, at.3, w.len.ensures.len, w.if-len-gt0.true)
    ]

pub returns-then-place-clauses : goal.returns-then-place-clauses
returns-then-place-clauses c =
    let f = c.args.self.now in
    place-found f.formula.clauses c.args.rule.now (c.args.rule.now.number - 1) f.numbered (omega arith) (omega arith) (omega (arith, c.len.ensures.len, c.if-len-gt0.false))

pub returns-else-place-clauses : goal.returns-else-place-clauses
returns-else-place-clauses c = λ literals is.
    let f = c.args.self.now in
    let at = instance-at f.formula.clauses c.args.rule.now literals f.numbered is in
    omega (arith, at.1, at.2)
