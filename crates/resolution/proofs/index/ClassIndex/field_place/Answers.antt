-- The table of the class finds the first place.
use Rattle.std.proofs.Common.{◌∙◌, sym, subst₂}
use Rattle.std.proofs.lemmas.Option.{get_or_from_slice_get}
use Rattle.resolution.specs.Tables.{FindsDeclared}
use Rattle.resolution.proofs.index.ClassIndex.field_place.Goals as goal

pub returns : goal.returns
returns c class is =
    let found = c.args.self.now.finds_members.finds c.args.class class c.index.result.now c.requires in
    c.get.ensures
    ∙ (subst₂ FindsDeclared (get_or_from_slice_get c.args.self.now.classes.now c.args.class class class is) (sym c.index.ensures) found).fields c.args.name.now c.args.descriptor.now
