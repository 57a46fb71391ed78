use Rattle.std.proofs.Common.{◌≡◌, length, drop, []}
use Rattle.rule_base.specs.Rules.{are_args}
use Rattle.rule_base.specs.Tables.{letters_of}
use Rattle.rule_base.proofs.question.Question.is_instance.Given as goal

abbrev pub invariant-loop-argument : goal.invariant-loop-argument
invariant-loop-argument l = record {
  same : are_args l.self (letters_of l.table.rows.now l.place) [] l.args
      ≡ are_args l.self (drop l.argument (letters_of l.table.rows.now l.place)) l.before (drop l.argument l.args);
  len : length l.before ≡ l.argument;
}
