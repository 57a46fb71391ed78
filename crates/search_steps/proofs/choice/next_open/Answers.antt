use Rattle.std.proofs.Common.{◌<◌, ◌∙◌, sym, subst}
use Rattle.trail.specs.Steps.{literals_of}
use Rattle.search_steps.proofs.Values.{waiting_but, waiting_still, not_open}
use Rattle.search_steps.proofs.choice.next_open.Goals as goal

pub value-requires : goal.value-requires
value-requires c = c.literal_of-literal.ensures.below c.args.trail.now.variables (subst (λ n. c.in-Some.variable < n) (c.loop-variable.invariant.variables ∙ c.requires.variables) c.in-Some.ensures.below)

pub returns-in-Open-clause-below : goal.returns-in-Open-clause-below
returns-in-Open-clause-below c = c.literal_of-literal.ensures.below c.args.trail.now.variables (subst (λ n. c.in-Some.variable < n) (c.loop-variable.invariant.variables ∙ c.requires.variables) c.in-Some.ensures.below)

pub returns-in-Open-clause-waiting : goal.returns-in-Open-clause-waiting
returns-in-Open-clause-waiting c = λ x lt none ne.
    waiting_but c.args.trail.now.steps c.loop-variable.order c.next.new.self c.in-Some.variable c.loop-variable.invariant.waiting c.next.ensures.variables c.in-Some.ensures.others
    x lt none (λ e. ne (e ∙ sym c.literal_of-literal.ensures.variable))

pub loop-variable-preserved : goal.loop-variable-preserved
loop-variable-preserved c = record {
  waiting = waiting_still c.args.trail.now.steps c.next.new.self c.in-Some.variable c.literal_of-literal.result
      (waiting_but c.args.trail.now.steps c.loop-variable.order c.next.new.self c.in-Some.variable c.loop-variable.invariant.waiting c.next.ensures.variables c.in-Some.ensures.others)
      c.literal_of-literal.ensures.variable
      (not_open (literals_of c.args.trail.now.steps) c.literal_of-literal.result c.value.result c.value.ensures.value c.in_default-value.not-Open);
  variables = c.next.ensures.variables ∙ c.loop-variable.invariant.variables;
}
