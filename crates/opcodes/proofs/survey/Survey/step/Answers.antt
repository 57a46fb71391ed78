use Rattle.std.proofs.Common.{◌<◌, length, refl, arith, ◌∙◌}
use Rattle.opcodes.proofs.Surveys.{waiting_inside, passed, place_read}
use Rattle.opcodes.proofs.survey.Survey.step.Goals as goal

pub index-requires : goal.index-requires
index-requires c =
    let inside = waiting_inside c.args.code.now _ _ c.args.from c.requires.survey in
    omega (arith, inside, c.requires.survey.same_length)

pub visit-requires-clause-inside : goal.visit-requires-clause-inside
visit-requires-clause-inside c = waiting_inside c.args.code.now _ _ c.args.from c.requires.survey

pub visit-requires-clause-holds : goal.visit-requires-clause-holds
visit-requires-clause-holds c =
    let inside = waiting_inside c.args.code.now _ _ c.args.from c.requires.survey in
    let within : c.args.from < length c.args.self.now.places.items = omega (arith, inside, c.requires.survey.same_length) in
    place_read c.args.self.now.places.items c.args.from _ within c.index.ensures ∙ c.in-Holds.is

pub returns-in_default : goal.returns-in_default
returns-in_default c =
    let inside = waiting_inside c.args.code.now _ _ c.args.from c.requires.survey in
    let within : c.args.from < length c.args.self.now.places.items = omega (arith, inside, c.requires.survey.same_length) in
    record {
      survey = passed c.args.code.now _ _ c.args.from c.index.result.now (place_read c.args.self.now.places.items c.args.from _ within c.index.ensures) c.in_default.not-Holds c.requires.survey;
      work = refl;
    }
