-- By the laws of linked programs.
use Rattle.std.proofs.Common.{subst}
use Rattle.std.specs.Prelude.{All}
use Rattle.class_format.specs.ClassText.{IsValid}
use Rattle.run_tests.proofs.Judging.{sound}
use Rattle.run_tests.proofs.classes.linked.Goals as goal

pub returns : goal.returns
returns c =
    sound c.push-2.new.self c.in_ok-link.field-0 (subst (All IsValid) c.classes-2.view_is c.classes-2.invariant.0) c.in_ok-link.ensures.program
    c.are_ordered.ensures c.runs_are_plain.ensures c.traces_are_linked.ensures
