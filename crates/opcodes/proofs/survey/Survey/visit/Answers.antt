use Rattle.std.proofs.Common.{◌∙◌, sym}
use Rattle.opcodes.proofs.Surveys.{falls_reached, jumps_reached, decodes_there, visited, fall_from, fall_is}
use Rattle.opcodes.proofs.survey.Survey.visit.Goals as goal

pub follow-requires-clause-reached : goal.follow-requires-clause-reached
follow-requires-clause-reached c = λ to lt e.
    let fall = fall_from c.fall_target.result _ _ to c.fall_target.ensures.some e in
    falls_reached c.args.code.now _ _ c.args.from to c.args.instr.now c.requires.survey c.requires.holds fall.0 lt fall.1

pub follow-requires-2-clause-reached : goal.follow-requires-2-clause-reached
follow-requires-2-clause-reached c = λ to lt e.
    jumps_reached c.args.code.now _ _ c.args.from to c.args.instr.now c.requires.survey c.requires.holds lt (sym c.jump_target.ensures ∙ e)

pub returns-clause-survey : goal.returns-clause-survey
returns-clause-survey c =
    let there = decodes_there c.args.code.now _ _ c.args.from c.args.instr.now c.requires.survey c.requires.holds in
    visited c.args.code.now _ _ c.args.from c.args.instr.now there
    (λ to through lt e. c.in_ok-follow-2.ensures.kept to
    (c.in_ok-follow.ensures.touched to lt (fall_is c.fall_target.result _ _ to c.fall_target.ensures.some c.fall_target.ensures.none through e)))
    (λ to lt e. c.in_ok-follow-2.ensures.touched to lt (c.jump_target.ensures ∙ e))
    c.in_ok-follow-2.ensures.survey
