use Rattle.std.proofs.Common.{◌∙◌, arith, subst, sym}
use Rattle.conflict_analysis.specs.Hints.{IsKnownHint}
use Rattle.conflict_analysis.specs.declared.hint.Hint.{Hint}
use Rattle.logged_search.specs.Raised.{IsRaised}
use Rattle.logged_search.proofs.Raised.{known-at, raised-then}
use Rattle.logged_search.proofs.raising.raise_met.Goals as goal
use Rattle.logged_search.proofs.raising.raise_met.Goals.{in-Stored, in-Excluded}

pub loop-literal-preserved : goal.loop-literal-preserved
loop-literal-preserved c = raised-then c.args.order.now c.loop-literal.order c.raise.new.order c.loop-literal.invariant c.raise.ensures

pub raise_given-requires-clause-used : goal.raise_given-requires-clause-used
raise_given-requires-clause-used c =
    let p = c.args.pool.now in
    let t = c.args.trail.now in
    let known = known-at p.clauses t.steps c.args.hints.now c.loop-hint.hint-index c.hint-item.result c.requires.known (omega (arith, c.loop-hint-test.true)) in
    subst (λ (hint : Hint). IsKnownHint p.clauses t.steps hint) (sym c.hint-item.is ∙ c.in-Stored.is) known

pub loop-hint-preserved : goal.loop-hint-preserved
loop-hint-preserved c = elim c.match-hint.branch [
  | in-Stored w ↦ subst (IsRaised c.args.order.now) (sym w.order-is) (raised-then c.args.order.now c.loop-hint.order w.raise_given.new.order c.loop-hint.invariant w.raise_given.ensures)
  | in-Excluded w ↦ subst (IsRaised c.args.order.now) (sym w.order-is) c.loop-hint.invariant
]
