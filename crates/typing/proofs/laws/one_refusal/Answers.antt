use Rattle.typing.proofs.Unique.{one_refusal}
use Rattle.typing.proofs.laws.one_refusal.Goals as goal

pub returns : goal.returns
returns c = one_refusal
