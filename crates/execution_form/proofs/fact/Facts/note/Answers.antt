-- One more fact, or none.
use Rattle.execution_form.proofs.fact.Facts.note.Goals as goal

pub returns-in-Some : goal.returns-in-Some
returns-in-Some c = rw c.in-Some.is c.add.ensures
