use Rattle.std.proofs.Common.{◌≡◌, ◌∙◌, sym, subst}
use Rattle.std.proofs.lemmas.Option.{same_Some}
use Rattle.std.proofs.lemmas.Result.{err_from_is_err_and}
use Rattle.program.specs.Program.{IsMethod}
use Rattle.program.specs.declared.method.MethodId.{MethodId}
use Rattle.thread_meaning.proofs.walk.begin.Goals as goal

pub returns-in_err-method-clause-err : goal.returns-in_err-method-clause-err
returns-in_err-method-clause-err c =
    let p = err_from_is_err_and c.from_residual.result c.from_residual.ensures.1 in
    rw (p.1, p.2, c.in_err-method.ensures.err.0)
    (λ s e. let same : e.id ≡ c.entry.result = same_Some e.id c.entry.result (sym e.is_thread ∙ c.entry.ensures) in
    c.in_err-method.ensures.err.1 e.method (subst (λ (i : MethodId). IsMethod c.args.program.now i e.method) same e.is_method))
