use Rattle.class_format.proofs.ClassFaults.{reading_stops}
use Rattle.class_format.proofs.laws.reading_stops.Goals as goal

pub returns : goal.returns
returns c = reading_stops
