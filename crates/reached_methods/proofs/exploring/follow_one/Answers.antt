use Rattle.std.proofs.Common.{List, subst, sym}
use Rattle.program.specs.declared.method.MethodId.{MethodId}
use Rattle.reached_methods.specs.Exploring.{Follows, LeadsTo}
use Rattle.reached_methods.proofs.Leading.{added_next}
use Rattle.reached_methods.proofs.exploring.follow_one.Goals as goal

pub returns-in_ok-add : goal.returns-in_ok-add
returns-in_ok-add c =
    let P : List MethodId → Type 0 = λ ids. Follows (LeadsTo c.args.runs.now.classes.now c.args.in_main c.args.target) c.args.seen.now ids in
    subst P (sym c.in_ok-add.ensures)
    (added_next (LeadsTo c.args.runs.now.classes.now c.args.in_main c.args.target) c.args.seen.now c.in-Some.id c.next_method.result c.in-Some.is c.next_method.ensures)
