-- All passes together.
use Rattle.std.proofs.Common.{ℕ, List, [], length, subst}
use Rattle.program.specs.declared.program.Variable.{Variable}
use Rattle.entry_tables.specs.Added.{AreAdded}
use Rattle.entry_tables.specs.Lists.{seen}
use Rattle.execution_form.specs.Facts.{Stated, stated, variable_of, volatile_named, monitor_of}
use Rattle.execution_form.proofs.Gathering.{are_facts}
use Rattle.execution_form.proofs.Passing.{seen_length}
use Rattle.execution_form.proofs.facts.facts_of.Goals as goal

pub returns : goal.returns
returns c = λ e same. are_facts c.args.program.now e (seen c.args.flat.now) (stated c.add_variables.new.facts) (stated c.add_volatiles.new.facts) (stated c.add_monitors.new.facts) (stated c.add_writes.new.facts) (record {
  variables = subst (λ (vs : List Variable). AreAdded [] variable_of vs (length vs) (stated c.add_variables.new.facts)) c.variables.ensures.value
      (subst (λ (old : List Stated). AreAdded old variable_of c.variables.result.now (length c.variables.result.now) (stated c.add_variables.new.facts)) c.new-facts.ensures c.in_ok-add_variables.ensures);
  volatiles = subst (λ (vs : List Variable). AreAdded (stated c.add_variables.new.facts) volatile_named vs (length vs) (stated c.add_volatiles.new.facts)) c.variables-2.ensures.value c.in_ok-add_volatiles.ensures;
  monitors = subst (λ (ms : List (List ℕ)). AreAdded (stated c.add_volatiles.new.facts) monitor_of ms (length ms) (stated c.add_monitors.new.facts)) c.monitors.ensures c.in_ok-add_monitors.ensures;
  writes = rw (seen_length c.args.flat.now) c.in_ok-add_writes.ensures;
}) same
