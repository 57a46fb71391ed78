-- The variable is written, and the values are compared.
use Rattle.std.proofs.Common.{◌≡◌, ◌↔◌, IsTrue, ℤ, sym, ◌∙◌, subst, rules, w32}
use Rattle.std.proofs.lemmas.Int.{to_z-of_z}
use Rattle.action_orders.specs.declared.action.Note.TheVariants.{Stores}
use Rattle.thread_events.proofs.Fitting.{write_fits}
use Rattle.thread_events.proofs.matching.has_write.Goals as goal

pub returns : goal.returns
returns c =
    write_fits c.args.orders.now.flat.program.now c.args.orders.now.flat.execution.now c.requires.made.ordered c.args.entry.now c.requires.among c.args.variable c.args.value c.stores.result
    (sym c.is_write.ensures ∙ c.if-not-is_write.false) (c.is_variable.ensures.0 c.if-not-is_variable.false)
    (subst (λ (x : ℤ). IsTrue c.stores.result ↔ (c.args.entry.now.note ≡ Stores x)) (to_z-of_z w32 c.args.value (search rules)) c.stores.ensures)
