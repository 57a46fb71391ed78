-- There was no thread before, and there are few.
use Rattle.std.proofs.Common.{List, length, ap, ◌∙◌, arith}
use Rattle.program.specs.Program.{Prog}
use Rattle.program.specs.declared.method.MethodId.{MethodId}
use Rattle.untyped_program.specs.declared.refusal.LimitKind.TheVariants.{Threads}
use Rattle.linking.proofs.linker.completed.Goals as goal

pub add_threads-requires : goal.add_threads-requires
add_threads-requires c =
    let threads_in : Prog → List MethodId = λ p. p.threads in
    let none = ap length (ap threads_in c.in_ok-add_monitors.ensures ∙ ap threads_in c.in_ok-add_variables.ensures ∙ ap threads_in c.requires.alone) in
    let few = c.requires.limits Threads in
    let same = ap length c.as_slice-3.ensures in
    omega (arith, none, few, same)
