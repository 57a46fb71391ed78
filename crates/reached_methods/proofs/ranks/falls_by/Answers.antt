use Rattle.std.proofs.Common.{sym, subst, arith}
use Rattle.std.specs.Prelude.{◌↔◌, IsTrue}
use Rattle.resolution.specs.declared.target.Target.{Target}
use Rattle.reached_methods.specs.Ranks.{FallsBy}
use Rattle.reached_methods.proofs.Falling.{call_at}
use Rattle.reached_methods.proofs.ranks.falls_by.Goals as goal

pub returns-in-Call : goal.returns-in-Call
returns-in-Call c =
    let P : Target → Type 0 = λ t. IsTrue c.is_lower_by.result ↔ FallsBy c.args.surveys.now c.args.ranks.now c.args.at c.args.drop t in
    let called = call_at c.args.surveys.now c.args.ranks.now c.args.at c.args.drop c.place_of-to.result c.in-Call.called c.requires.by_place c.place_of-to.ensures.there in
    let lower = c.rank_at.ensures in
    let rank = c.rank_at-in-Call.ensures in
    subst P (sym c.in-Call.is)
    (λ yes. called.1 (let low = c.is_lower_by.ensures.0 yes in omega (arith, low, lower, rank)), λ falls. c.is_lower_by.ensures.1 (let low = called.0 falls in omega (arith, low, lower, rank)))
