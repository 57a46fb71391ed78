use Rattle.std.proofs.Common.{rules, ℤ, SFits, w32, subst}
use Rattle.std.proofs.lemmas.Int.{to_z-of_z}
use Rattle.thread_meaning.specs.Changes.{Makes, activation_of, increments}
use Rattle.thread_meaning.proofs.frame.Frame.execute.Goals as goal

pub returns-in-Increment : goal.returns-in-Increment
returns-in-Increment c =
    let fits : SFits w32 c.in-Increment.delta = search rules in
    rw c.in-Increment.is
    (subst (λ (d : ℤ). Makes (increments (activation_of c.args.self.now) c.args.behind c.in-Increment.slot d) c.increment.result (activation_of c.increment.new.self))
    (to_z-of_z w32 c.in-Increment.delta fits) c.increment.ensures)
