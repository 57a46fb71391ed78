-- One more method, or the first that has no types.
use Rattle.std.proofs.Common.{◌≡◌, ◌++◌, [], ◌∷◌, ◌+◌, take, ap, ◌∙◌, sym, subst}
use Rattle.std.proofs.lemmas.Result.{err_from_is_err_and}
use Rattle.program.specs.Program.{Prog, with_method}
use Rattle.program.specs.declared.method.Method.{Method}
use Rattle.linking.specs.Linking.{AreTypedMethods}
use Rattle.linking.specs.Phases.{only_methods}
use Rattle.linking.proofs.TypedMethods.{first_refusal, is_new, one_more}
use Rattle.linking.proofs.methods.typed_methods.Goals as goal

pub returns-in_err-method-clause-refused : goal.returns-in_err-method-clause-refused
returns-in_err-method-clause-refused c =
    let p = err_from_is_err_and c.from_residual.result c.from_residual.ensures.1 in
    rw (p.1, p.2) (first_refusal c.args.methods.now c.loop-untyped.untyped-index c.loop-untyped.program.methods c.untyped-item.result c.loop-untyped-test.true
    c.untyped-item.is c.loop-untyped.invariant.typed c.in_err-method.field-0.0 c.in_err-method.ensures.refused)

pub add_method-requires-clause-new : goal.add_method-requires-clause-new
add_method-requires-clause-new c =
    is_new c.args.methods.now c.loop-untyped.untyped-index c.loop-untyped.program.methods c.untyped-item.result c.loop-untyped-test.true
    c.untyped-item.is c.loop-untyped.invariant.typed c.requires.by_place c.in_ok-method.method c.in_ok-method.ensures.typed

behind : (p q : Prog) (m : Method) → p ≡ only_methods p.methods → q ≡ with_method p m → q ≡ only_methods (p.methods ++ m ∷ [])
behind p q m alone is = is ∙ ap (λ (x : Prog). with_method x m) alone

pub loop-untyped-preserved : goal.loop-untyped-preserved
loop-untyped-preserved c =
    let pushed : c.add_method.new.program.methods ≡ c.loop-untyped.program.methods ++ c.in_ok-method.method ∷ [] = ap (λ (p : Prog). p.methods) c.in_ok-add_method.ensures.ok in
    record {
      typed = subst (AreTypedMethods (take (c.loop-untyped.untyped-index + 1) c.args.methods.now)) (sym pushed)
          (one_more c.args.methods.now c.loop-untyped.untyped-index c.loop-untyped.program.methods c.untyped-item.result c.loop-untyped-test.true
          c.untyped-item.is c.loop-untyped.invariant.typed c.in_ok-method.method c.in_ok-method.ensures.typed);
      alone = behind c.loop-untyped.program c.add_method.new.program c.in_ok-method.method c.loop-untyped.invariant.alone c.in_ok-add_method.ensures.ok
          ∙ ap only_methods (sym pushed);
    }
