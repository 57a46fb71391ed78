-- One more identifier.
use Rattle.std.proofs.Common.{◌≡◌, ◌∙◌, ◌++◌, [], ◌∷◌, ap, sym, arith}
use Rattle.std.proofs.lemmas.Grind.{common_steps}
use Rattle.orders.proofs.Tabled.{ids_more}
use Rattle.orders.proofs.flat.ids_of.Goals as goal

pub loop-entry-preserved : goal.loop-entry-preserved
loop-entry-preserved c =
    let items : c.push.new.self.items ≡ c.loop-entry.ids.items ++ c.entry-item.result.now.action.id ∷ [] = grind (arith, common_steps) in
    items ∙ ap (λ ids. ids ++ c.entry-item.result.now.action.id ∷ []) c.loop-entry.invariant ∙ sym (ids_more c.args.entries.now c.loop-entry.entry-index c.entry-item.result c.loop-entry-test.true c.entry-item.is)
