use Rattle.refutation_lines.proofs.Soundness.{refuted}
use Rattle.refutation_lines.proofs.laws.refuted_is_unsatisfiable.Goals as goal

pub returns : goal.returns
returns c = λ instances lines value refutation all. refuted value instances all lines refutation
