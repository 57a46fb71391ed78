-- The position among the keys is that among the texts.
use Rattle.std.proofs.Common.{ℕ, List, sym, ap, ◌∙◌, Bor, position}
use Rattle.class_names.specs.Names.{same_text}
use Rattle.untyped_program.proofs.Firsts.{position-map}
use Rattle.untyped_program.proofs.monitors.MonitorNames.place_of.Goals as goal

pub returns : goal.returns
returns c =
    c.get_index_of.ensures.index
    ∙ sym (position-map (same_text c.args.name.now) (λ (text : Bor (List ℕ)). text.now) c.self.inside.names.keys)
    ∙ ap (position (same_text c.args.name.now)) c.self.view_is
