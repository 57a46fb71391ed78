use Rattle.std.proofs.Common.{ap, reverse, ◌∙◌, sym, map, length}
use Rattle.std.proofs.lemmas.List.{with_items_is}
use Rattle.typing.specs.Objects.{constructed}
use Rattle.typing.proofs.Stacks.{map-reverse}
use Rattle.typing.proofs.stack.TypeStack.construct.Goals as goal

pub returns : goal.returns
returns c =
    let f = constructed c.args.object in
    ap reverse (with_items_is c.self.inside.items c.construct_all.new.items (c.construct_all.auto.items ∙ ap length c.deref_mut.ensures.value ∙ sym c.self.inside.items.ok.0) ∙ c.construct_all.ensures ∙ ap (map f) c.deref_mut.ensures.value)
    ∙ sym (map-reverse f c.self.inside.items.items) ∙ ap (map f) c.self.view_is
