-- Classes of the profile have one main, whose place is small and which has code.
use Rattle.std.proofs.Common.{arith}
use Rattle.class_profile.specs.declared.refusal.ClassKind.TheVariants.{NoMain}
use Rattle.program.specs.declared.method.MethodId.{MethodId}
use Rattle.linking.proofs.Mains.{class_within, few_methods, has_code}
use Rattle.linking.proofs.phases.main_id.Goals as goal

pub unreachable-requires : goal.unreachable-requires
unreachable-requires c = c.in_default.ensures (c.requires.profile NoMain)

pub overflow_cast-result : goal.overflow_cast-result
overflow_cast-result c =
    let id : MethodId = record { class = c.in-Some.place.class; method = c.in-Some.place.method } in
    let few = class_within c.args.classes.now id c.in-Some.ensures.main in
    omega (arith, few)

pub overflow_cast-result-2 : goal.overflow_cast-result-2
overflow_cast-result-2 c =
    let id : MethodId = record { class = c.in-Some.place.class; method = c.in-Some.place.method } in
    let few = few_methods c.args.classes.now id c.in-Some.ensures.main c.requires.texts in
    omega (arith, few)

pub returns-clause-code : goal.returns-clause-code
returns-clause-code c =
    let id : MethodId = record { class = c.in-Some.place.class; method = c.in-Some.place.method } in
    has_code c.args.classes.now id c.in-Some.ensures.main
