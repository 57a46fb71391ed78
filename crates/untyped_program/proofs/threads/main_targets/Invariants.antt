-- None of the methods so far is main.
use Rattle.std.proofs.Common.{◌≡◌, None, find, take}
use Rattle.reached_methods.specs.Reached.{is_method}
use Rattle.untyped_program.proofs.threads.main_targets.Given as goal

abbrev pub invariant-loop-method : goal.invariant-loop-method
invariant-loop-method l = find (λ m. is_method m.id l.main) (take l.method-index l.methods) ≡ None
