-- The refusals of the methods and of the limits are those of the classes.
use Rattle.std.proofs.Common.{List, subst}
use Rattle.std.proofs.lemmas.Result.{err_from_is_err_and}
use Rattle.class_format.specs.declared.record.ClassRecord.{ClassRecord}
use Rattle.typing.specs.declared.untyped.UntypedMethod.{UntypedMethod}
use Rattle.linking.specs.Linking.{AreTypedMethods, IsUntypedOf}
use Rattle.linking.specs.Phases.{IsFirstRefusalOf}
use Rattle.linking.proofs.Phased.{refused_by_limits, refused_by_types}
use Rattle.linking.proofs.linker.link.Goals as goal

pub returns-in_err-program-clause-refused : goal.returns-in_err-program-clause-refused
returns-in_err-program-clause-refused c =
    let p = err_from_is_err_and c.from_residual-in_err-program.result c.from_residual-in_err-program.ensures.1 in
    rw (p.1, p.2) (refused_by_types c.args.classes.now c.in_ok-untyped.untyped
    (subst (λ (cs : List ClassRecord). IsUntypedOf cs c.in_ok-untyped.untyped) c.as_slice.ensures.value c.in_ok-untyped.ensures.untyped) c.in_err-program.field-0.0
    (subst (λ (us : List UntypedMethod). IsFirstRefusalOf us c.in_err-program.field-0.0) c.as_slice-2.ensures c.in_err-program.ensures.refused))

pub returns-in_err-check_program-clause-refused : goal.returns-in_err-check_program-clause-refused
returns-in_err-check_program-clause-refused c =
    let p = err_from_is_err_and c.from_residual-in_err-check_program.result c.from_residual-in_err-check_program.ensures.1 in
    rw (p.1, p.2) (refused_by_limits c.args.classes.now c.in_ok-untyped.untyped
    (subst (λ (cs : List ClassRecord). IsUntypedOf cs c.in_ok-untyped.untyped) c.as_slice.ensures.value c.in_ok-untyped.ensures.untyped) c.in_ok-program.program.methods
    (subst (λ (us : List UntypedMethod). AreTypedMethods us c.in_ok-program.program.methods) c.as_slice-2.ensures c.in_ok-program.ensures.typed)
    c.in_err-check_program.field-0.0 c.in_err-check_program.ensures.refused)
