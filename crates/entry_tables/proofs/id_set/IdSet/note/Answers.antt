-- One more identifier, or none.
use Rattle.std.proofs.Common.{sym, subst}
use Rattle.entry_tables.specs.Added.{IsAdded}
use Rattle.entry_tables.proofs.id_set.IdSet.note.Goals as goal

pub returns-in_ok-add : goal.returns-in_ok-add
returns-in_ok-add c = subst (λ o. IsAdded c.args.self.now o c.add.new.self) (sym c.in-Some.is) c.in_ok-add.ensures.members
