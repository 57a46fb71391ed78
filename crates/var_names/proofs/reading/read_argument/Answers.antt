use Rattle.var_names.proofs.ReadingLaws.{large-argument}
use Rattle.var_names.proofs.reading.read_argument.Goals as goal

pub returns-in-Err : goal.returns-in-Err
returns-in-Err c = large-argument c.args.text.now c.in_ok-read_number.field-0 c.in_ok-read_number.ensures.0 c.in_ok-read_number.ensures.1 c.in-Err.ensures
