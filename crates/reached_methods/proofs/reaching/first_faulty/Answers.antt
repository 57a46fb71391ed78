use Rattle.std.proofs.Common.{refl}
use Rattle.std.proofs.lemmas.Option.{slice_get_read}
use Rattle.reached_methods.proofs.Reaches.{clean_more, none_of}
use Rattle.reached_methods.proofs.reaching.first_faulty.Goals as goal

pub recursion_at-requires-clause-surveyed : goal.recursion_at-requires-clause-surveyed
recursion_at-requires-clause-surveyed c =
    let s = c.index-surveys-at.result in
    record { surveyed = s; there = slice_get_read c.args.surveys.now _ c.loop-at.at s refl c.loop-at-test.true c.index-surveys-at.is; method_is = refl }

pub loop-at-preserved : goal.loop-at-preserved
loop-at-preserved c =
    clean_more c.args.surveys.now c.loop-at.at c.index-surveys-at.result c.in_ok-recursion.recursion c.loop-at-test.true c.index-surveys-at.is c.loop-at.invariant
    (none_of c.index-surveys-at.result.fault c.is_some.result c.is_some.ensures c.if-is_some.false)
    (none_of c.in_ok-recursion.recursion c.is_some-else-is_some.result c.is_some-else-is_some.ensures c.if-is_some-2.false) c.in_ok-recursion.ensures
