use Rattle.std.proofs.Common.{◌≡◌, ◌++◌, ◌-◌, map}
use Rattle.rule_base.specs.Literals.{literal, each_at}
use Rattle.rule_base.specs.Domains.{members, passing, domain}
use Rattle.rule_base.proofs.question.Question.literals_at.Given as goal

abbrev pub invariant-loop-x : goal.invariant-loop-x
invariant-loop-x l =
    l.out ++ map (λ x. literal l.positive (each_at l.each x))
    (passing (domain l.self l.letter l.before).fits l.x ((domain l.self l.letter l.before).size - l.x))
    ≡ l.initial.out ++ map (λ x. literal l.positive (each_at l.each x)) (members (domain l.self l.letter l.before))
