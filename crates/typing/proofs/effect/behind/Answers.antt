use Rattle.std.proofs.Common.{refl, ◌∙◌}
use Rattle.typing.proofs.Behind.{locals_behind_same, held_behind_same, stages_behind_same}
use Rattle.typing.proofs.effect.behind.Goals as goal

pub returns : goal.returns
returns c = record {
  local = λ q. c.in_ok-change_locals.ensures q ∙ locals_behind_same c.args.met.changed.local _ _ c.in_ok-locals.ensures q;
  stack = refl;
  stacks_agree = refl;
  held = λ q. c.in_ok-change_held.ensures q ∙ held_behind_same c.args.met.changed.held _ _ c.in_ok-held.ensures q;
  held_agrees = refl;
  stage = λ q. c.in_ok-change_threads.ensures q ∙ stages_behind_same c.args.met.changed.thread _ _ c.in_ok-threads.ensures q;
}
