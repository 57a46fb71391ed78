-- The law.
use Rattle.linked_laws.proofs.Monitors.{monitors_are_apart}
use Rattle.linked_laws.proofs.laws.monitors_are_apart.Goals as goal

pub returns : goal.returns
returns c = monitors_are_apart
