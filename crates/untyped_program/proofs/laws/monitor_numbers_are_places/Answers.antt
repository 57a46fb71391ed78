-- The law.
use Rattle.untyped_program.proofs.MonitorNumbers.{monitor_places}
use Rattle.untyped_program.proofs.laws.monitor_numbers_are_places.Goals as goal

pub returns : goal.returns
returns c = monitor_places
