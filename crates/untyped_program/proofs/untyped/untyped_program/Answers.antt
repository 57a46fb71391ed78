-- Reached methods of the profile are known.
use Rattle.std.proofs.Common.{List, All, AllPairs, sym, subst}
use Rattle.std.proofs.lemmas.Result.{IfOk-weaker}
use Rattle.program.specs.Program.{IsSpeltVariable}
use Rattle.reached_methods.specs.Reached.{IsBefore}
use Rattle.reached_methods.specs.declared.method.ReachedMethod.{ReachedMethod}
use Rattle.untyped_program.specs.Known.{AreKnown}
use Rattle.untyped_program.specs.Limits.{AreByPlace}
use Rattle.untyped_program.specs.Monitors.{monitors_of}
use Rattle.untyped_program.specs.Untyped.{IsUntypedProgram}
use Rattle.untyped_program.specs.Variables.{number_of}
use Rattle.untyped_program.specs.declared.untyped.UntypedProgram.{UntypedProgram}
use Rattle.untyped_program.proofs.KnownMethods.{known_methods}
use Rattle.untyped_program.proofs.Spelt.{all_spelt, stay_by_place}
use Rattle.untyped_program.proofs.untyped.untyped_program.Goals as goal

pub program_of-requires : goal.program_of-requires
program_of-requires c =
    subst (AreKnown c.args.classes.now c.args.main) (sym c.as_slice.ensures) (known_methods c.args.classes.now c.args.main c.requires.profile c.args.methods c.requires.reached)

pub returns-clause-spelt : goal.returns-clause-spelt
returns-clause-spelt c =
    let classes = c.args.classes.now in
    let methods = c.as_slice.result.now in
    let known = subst (AreKnown classes c.args.main) (sym c.as_slice.ensures) (known_methods classes c.args.main c.requires.profile c.args.methods c.requires.reached) in
    IfOk-weaker c.program_of.result (λ (p : UntypedProgram). IsUntypedProgram classes c.args.main methods p) (λ (p : UntypedProgram). All IsSpeltVariable p.variables)
    (λ p is. subst (All IsSpeltVariable) (sym is.variables) (all_spelt classes c.args.main methods known)) c.program_of.ensures

pub returns-clause-by_place : goal.returns-clause-by_place
returns-clause-by_place c =
    let classes = c.args.classes.now in
    let methods = c.as_slice.result.now in
    let reached = c.requires.reached in
    IfOk-weaker c.program_of.result (λ (p : UntypedProgram). IsUntypedProgram classes c.args.main methods p) (λ (p : UntypedProgram). AreByPlace p.methods)
    (λ p is. stay_by_place classes c.args.main (number_of classes methods) (monitors_of classes methods) methods p.methods
    (subst (λ (ms : List ReachedMethod). AllPairs (λ a b. IsBefore a.id b.id) ms) (sym c.as_slice.ensures) reached.by_place) is.untyped) c.program_of.ensures
