use Rattle.typing.proofs.Unique.{one_typing}
use Rattle.typing.proofs.laws.one_typing.Goals as goal

pub returns : goal.returns
returns c = one_typing
