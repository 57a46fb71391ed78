-- The limit of threads is not passed.
use Rattle.std.proofs.Common.{arith, inl, inr, ap, length}
use Rattle.std.proofs.lemmas.Bool.{cases_lt}
use Rattle.untyped_program.specs.declared.refusal.LimitKind.TheVariants.{Threads}
use Rattle.linked_laws.proofs.laws.few_threads.Goals as goal

pub returns : goal.returns
returns c classes p is =
    elim (cases_lt 8 (length p.threads)) [
      | inl many ↦ absurd (is.limits Threads (let same = ap length is.threads in omega (arith, same, many)))
      | inr few ↦ omega (arith, few)
    ]
