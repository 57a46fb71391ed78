use Rattle.rule_base.specs.Domains.{domain}
use Rattle.rule_base.specs.Literals.{each_at, literal}
use Rattle.rule_base.proofs.EachOf.{each-skip, each-take}
use Rattle.rule_base.proofs.question.Question.literals_at.Goals as goal
use Rattle.rule_base.proofs.question.Question.literals_at.Goals.{then-fits+in_ok-push, else-fits}

pub loop-x-preserved : goal.loop-x-preserved
loop-x-preserved c = elim c.if-fits.branch [
  | then-fits+in_ok-push w ↦ each-take (λ x. literal c.args.positive (each_at c.args.each x))
      (domain c.args.self.now c.args.letter c.args.before.now).fits _ _ _ c.loop-x.out _ _ c.loop-x-test.true
      c.size-x-end.ensures.value w.if-fits.ensures (rw (w.out-is, ← w.at.ensures) w.in_ok-push.ensures.ok)
      c.loop-x.invariant
  | else-fits w ↦ rw w.out-is (each-skip (λ x. literal c.args.positive (each_at c.args.each x))
      (domain c.args.self.now c.args.letter c.args.before.now).fits _ _ _ c.loop-x.out _ c.loop-x-test.true
      c.size-x-end.ensures.value w.if-fits.ensures c.loop-x.invariant)
]
