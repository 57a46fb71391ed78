use Rattle.std.proofs.Common.{subst}
use Rattle.var_names.specs.LiteralText.{argument_number, argument_text}
use Rattle.refutation_steps.specs.RuleWords.{NamesArgument, NamesArguments}
use Rattle.refutation_steps.proofs.WordLaws.{none-before, none-here}
use Rattle.refutation_steps.proofs.rule_words.with_argument.Goals as goal

pub returns-in_err-args-clause-in_bytes : goal.returns-in_err-args-clause-in_bytes
returns-in_err-args-clause-in_bytes c = λ words word named one.
    rw c.from_residual.ensures (none-before argument_number words word (subst (NamesArguments argument_number words) c.in_err-args.was named))

pub returns-in_err-args-clause-in_words : goal.returns-in_err-args-clause-in_words
returns-in_err-args-clause-in_words c = λ words word named one.
    rw c.from_residual.ensures (none-before argument_text words word (subst (NamesArguments argument_text words) c.in_err-args.was named))

pub returns-in_err-argument-clause-in_bytes : goal.returns-in_err-argument-clause-in_bytes
returns-in_err-argument-clause-in_bytes c = λ words word named one.
    rw c.from_residual-in_err-argument.ensures (none-here argument_number words word (subst (NamesArgument argument_number word) c.in_err-argument.was one))

pub returns-in_err-argument-clause-in_words : goal.returns-in_err-argument-clause-in_words
returns-in_err-argument-clause-in_words c = λ words word named one.
    rw c.from_residual-in_err-argument.ensures (none-here argument_text words word (subst (NamesArgument argument_text word) c.in_err-argument.was one))
