use Rattle.numbered_hints.proofs.Transport.{by-literals}
use Rattle.numbered_hints.proofs.laws.follows_by_number.Goals as goal

pub returns : goal.returns
returns c = λ variables clauses trues hints apart low below along. by-literals variables apart clauses trues hints low below along
