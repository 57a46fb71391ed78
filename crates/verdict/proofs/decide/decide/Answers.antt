use Rattle.std.proofs.Common.{refl}
use Rattle.verdict.proofs.Judged.{told, whole_is}
use Rattle.verdict.specs.Commands.{for_decide}
use Rattle.verdict.proofs.decide.decide.Goals as goal

pub read_input-requires : goal.read_input-requires
read_input-requires g c = for_decide c.args.question c.requires refl

pub returns-clause-ok : goal.returns-clause-ok
returns-clause-ok g c = record {
  bounds = refl;
  budget = refl;
  seq = c.in-Some.seq.now;
  is_seq = c.in-Some.ensures.value;
  decided = record {
    linked = c.in_ok-linked.linked;
    is_linked = c.in_ok-linked.ensures.linked;
    straight = told c.in_ok-straight.straight c.if-not-straight.false c.in_ok-straight.ensures.ok;
    whole_is = whole_is c.in_ok-linked.linked.program c.args.question.bounds.jumps c.args.question.bounds.width c.is_whole.result c.straight_is_whole.ensures
        (told c.in_ok-straight.straight c.if-not-straight.false c.in_ok-straight.ensures.ok).straight c.is_whole.ensures;
    judged = c.in_ok-allowed.ensures.judged;
  };
}
