use Rattle.std.proofs.Common.{Contains, ap, subst, sym}
use Rattle.program.proofs.Lists.{contains_at}
use Rattle.resolution.specs.declared.target.Target.TheVariants as named
use Rattle.reached_methods.specs.declared.method.ReachedMethod.{ReachedMethod}
use Rattle.reached_methods.proofs.Falling.{no_return}
use Rattle.reached_methods.proofs.reaching.recursion_at.Goals as goal

pub returns-then-all_fall_by : goal.returns-then-all_fall_by
returns-then-all_fall_by c =
    no_return c.args.surveys.now c.in-Some.ranks.now c.args.at c.args.method.now c.requires.by_place (rw c.in-Some.is at c.requires.ranks)
    (c.all_fall_by.ensures.0 c.if-all_fall_by.true) c.requires.surveyed

pub first_return-requires-clause-known : goal.first_return-requires-clause-known
first_return-requires-clause-known c = λ called call.
    let is = c.requires.surveyed in
    c.requires.closed.closed c.args.method.now.id called (record {
      surveyed = is.surveyed;
      there = contains_at c.args.surveys.now c.args.at is.surveyed is.there;
      caller_is = ap (λ (m : ReachedMethod). m.id) is.method_is;
      call = subst (λ (m : ReachedMethod). Contains m.targets (named.Call called)) (sym is.method_is) call;
    })
