use Rattle.std.proofs.Common.{◌≡◌, [], ◌∷◌, List, None, Option, ap, length, length-append, sym, subst, ◌∙◌, arith}
use Rattle.std.specs.Prelude.{slice_index_or}
use Rattle.program.specs.declared.method.MethodId.{MethodId}
use Rattle.reached_methods.specs.Reached.{run_of}
use Rattle.reached_methods.proofs.Leading.{runs_more, runs_whole}
use Rattle.reached_methods.proofs.runs.ids_of.Goals as goal

pub loop-place-preserved : goal.loop-place-preserved
loop-place-preserved c =
    let ids = c.loop-place.ids.items in
    let o = c.in_ok-run_of.field-0 in
    let next : o ≡ run_of c.args.classes.now c.loop-place.place = c.in_ok-run_of.ensures ∙ ap (run_of c.args.classes.now) c.in-Ok.ensures.1 in
    record {
      whole = (let size = ap length c.in_ok-push.ensures in omega (arith, size, length-append ids (o ∷ []), c.loop-place.invariant.whole));
      are = λ k within.
          let Q : List (Option MethodId) → Type 0 = λ xs. slice_index_or xs k None ≡ run_of c.args.classes.now k in
          subst Q (sym c.in_ok-push.ensures) (runs_more c.args.classes.now ids c.loop-place.place o c.loop-place.invariant.whole c.loop-place.invariant.are next k within);
    }

pub returns : goal.returns
returns c = runs_whole c.args.classes.now c.loop-place.ids.items c.loop-place.place c.loop-place.invariant.whole (omega (arith, c.loop-place-test.false)) c.loop-place.invariant.are
