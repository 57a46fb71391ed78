-- The value is added.
use Rattle.std.proofs.Common.{◌++◌, [], ◌∷◌, ap, sym, ◌∙◌, subst, rules, w32, ℤ}
use Rattle.std.proofs.lemmas.Int.{to_z-of_z}
use Rattle.std.proofs.lemmas.Result.{on_ok_weaker}
use Rattle.thread_events.specs.Gotten.{IsOneMore}
use Rattle.thread_events.proofs.Gotten.{one_read}
use Rattle.thread_events.proofs.values.add_read.Goals as goal

pub returns : goal.returns
returns c =
    let is = sym c.is_read.ensures ∙ c.if-not-is_read.false in
    on_ok_weaker c.push.result
    (λ items. subst (IsOneMore c.args.orders.now.flat.execution.now c.args.entry.now c.args.values.now) (sym (items ∙ ap (λ (x : ℤ). c.args.values.now ++ x ∷ []) (to_z-of_z w32 c.value_read.result (search rules))))
    (one_read c.args.orders.now.flat.execution.now c.args.entry.now c.value_read.result c.args.values.now is (c.value_read.ensures is)))
    c.push.ensures.ok
