-- One more identifier, which is new.
use Rattle.std.proofs.Common.{◌++◌, [], ◌∷◌, get_or, ◌∙◌, refl, sym, ap}
use Rattle.std.proofs.lemmas.List.{take_more}
use Rattle.entry_tables.proofs.Keys.{unseen}
use Rattle.entry_tables.proofs.id_set.IdSet.of.Goals as goal

pub loop-id-preserved : goal.loop-id-preserved
loop-id-preserved c =
    c.in_ok-add.ensures.last (unseen c.args.ids.now c.loop-id.set c.loop-id.id-index _ c.requires c.loop-id-test.true refl c.loop-id.invariant)
    ∙ ap (λ keys. keys ++ get_or c.args.ids.now c.loop-id.id-index 0 ∷ []) c.loop-id.invariant ∙ sym (take_more c.args.ids.now c.loop-id.id-index 0 c.loop-id-test.true)
