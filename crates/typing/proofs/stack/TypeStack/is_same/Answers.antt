use Rattle.std.proofs.Common.{ap, reverse, ◌∙◌, sym}
use Rattle.typing.proofs.Stacks.{reverse_once}
use Rattle.typing.proofs.stack.TypeStack.is_same.Goals as goal

pub returns : goal.returns
returns c =
    let mine = ap reverse c.deref.ensures.value ∙ c.self.view_is in
    let yours = ap reverse c.deref-2.ensures.value ∙ c.other.view_is in
    (λ t. sym mine ∙ ap reverse (c.are_same.ensures.0 t) ∙ yours, λ e. c.are_same.ensures.1 (reverse_once _ _ (mine ∙ e ∙ sym yours)))
