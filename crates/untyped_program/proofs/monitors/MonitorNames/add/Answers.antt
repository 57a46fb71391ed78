-- The tests over the keys are those over the texts.
use Rattle.std.proofs.Common.{ℕ, List, map, ap, ◌∙◌, Bor}
use Rattle.class_profile.proofs.Texts.{added_map}
use Rattle.class_profile.specs.Texts.{with_text}
use Rattle.untyped_program.proofs.monitors.MonitorNames.add.Goals as goal
use Rattle.untyped_program.proofs.monitors.MonitorNames.add.Goals.{in-Ok, in-Err}

pub returns : goal.returns
returns c =
    elim c.match-insert_full.branch [
      | in-Ok w ↦ rw w.result-is (ap (λ (keys : List (Bor (List ℕ))). map (λ text. text.now) keys) w.in-Ok.ensures.keys
          ∙ added_map (λ (text : Bor (List ℕ)). text.now) c.args.name c.self.inside.names.keys
          ∙ ap (λ (texts : List (List ℕ)). with_text texts c.args.name.now) c.self.view_is)
      | in-Err w ↦ rw w.result-is tt
    ]
