-- The entry with the identifier.
use Rattle.std.proofs.Common.{ap, ◌∙◌, rules, w32, Some, None}
use Rattle.std.proofs.lemmas.Bool.{false≢true}
use Rattle.std.proofs.lemmas.Int.{to_z-of_z}
use Rattle.action_orders.specs.declared.action.Entry.{Entry}
use Rattle.orders.proofs.Keys.{found_id, position_there}
use Rattle.thread_events.proofs.Fitting.{entry_of_id, known_entry}
use Rattle.thread_events.proofs.values.stored.Goals as goal

pub returns-in-Some : goal.returns-in-Some
returns-in-Some c n stored there named note =
    to_z-of_z w32 c.stored_in.result (search rules)
    ∙ c.stored_in.ensures stored (ap (λ (m : Entry). m.note) (entry_of_id c.args.orders.now c.args.id c.in-Some.place c.index.result.now n c.requires
    (found_id c.args.orders.now.flat.ids.keys c.args.id (Some c.in-Some.place) c.in-Some.ensures.index) c.index.ensures there named) ∙ note)

pub returns-in-None : goal.returns-in-None
returns-in-None c n stored there named note =
    absurd (false≢true (position_there c.args.orders.now.flat.ids.keys c.args.id None c.in-None.ensures.found (known_entry c.args.orders.now c.args.id n c.requires there named)))
