-- The law.
use Rattle.untyped_program.proofs.FieldPlaces.{field_places}
use Rattle.untyped_program.proofs.laws.field_numbers_are_places.Goals as goal

pub returns : goal.returns
returns c = field_places
