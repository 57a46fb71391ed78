use Rattle.std.proofs.Common.{rules, SFits, w32}
use Rattle.java_int.specs.JavaInt.{and_of, or_of}
use Rattle.thread_meaning.proofs.Applied.{applied}
use Rattle.thread_meaning.proofs.doing.Binary.apply.Goals as goal

pub returns-in-And : goal.returns-in-And
returns-in-And c =
    let fits : SFits w32 c.and.result = search rules in
    rw c.in-And.is (applied and_of c.args.a c.args.b c.and.result c.ranges.a c.ranges.b fits c.and.ensures)

pub returns-in-Or : goal.returns-in-Or
returns-in-Or c =
    let fits : SFits w32 c.or.result = search rules in
    rw c.in-Or.is (applied or_of c.args.a c.args.b c.or.result c.ranges.a c.ranges.b fits c.or.ensures)
