use Rattle.typing.proofs.Unique.{no_refusal_of_typed}
use Rattle.typing.proofs.laws.no_refusal_of_typed.Goals as goal

pub returns : goal.returns
returns c = no_refusal_of_typed
