use Rattle.refutation_words.proofs.PartLaws.{large-argument}
use Rattle.refutation_words.proofs.words.argument_of.Goals as goal

pub returns-in-Err : goal.returns-in-Err
returns-in-Err c = large-argument c.args.word.now c.in_ok-read_number.field-0 c.in_ok-read_number.ensures.0 c.in_ok-read_number.ensures.1 c.in-Err.ensures
