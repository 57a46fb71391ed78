-- The targets of main are known.
use Rattle.std.proofs.Common.{All, List, sym, subst}
use Rattle.class_format.specs.declared.record.ClassRecord.{ClassRecord}
use Rattle.untyped_program.specs.Known.{IsKnown}
use Rattle.untyped_program.proofs.MainTargets.{main_known}
use Rattle.untyped_program.proofs.threads.threads_of.Goals as goal

pub add_threads-requires : goal.add_threads-requires
add_threads-requires c =
    let P : List ClassRecord → Type 0 = λ classes. All (IsKnown classes) c.main_targets.result.now in
    subst P (sym c.in_ok-runs.ensures)
    (subst (All (IsKnown c.args.classes.now)) (sym c.main_targets.ensures) (main_known c.args.classes.now c.args.main c.args.methods.now c.requires))
