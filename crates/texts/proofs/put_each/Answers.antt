use Rattle.std.proofs.Common.{arith}
use Rattle.std.proofs.lemmas.Grind.{common_steps}
use Rattle.ports.proofs.GrowthLaws.{grows-nothing, grows-then}
use Rattle.texts.proofs.TextLaws.{cause-failed, each-failed, texts-with}
use Rattle.texts.proofs.put_each.Goals as goal

pub loop-item-init : goal.loop-item-init
loop-item-init g c = record {
  grows = grows-nothing _;
  kept = omega arith;
  rest = g.met.S.Sink.rest_refl _;
}

pub returns-in_err-put-clause-bytes : goal.returns-in_err-put-clause-bytes
returns-in_err-put-clause-bytes g c =
    each-failed (g.W.Spelling.text c.args.spelling.now) c.args.items.now c.loop-item.item-index c.item-item.result _ _ _ _ (omega arith) c.item-item.is c.from_residual.ensures.0 c.loop-item.invariant.grows c.in_err-put.ensures.bytes

pub returns-in_err-put-clause-cause : goal.returns-in_err-put-clause-cause
returns-in_err-put-clause-cause g c =
    cause-failed _ _ _ _ c.loop-item.invariant.kept c.in_err-put.ensures.cause.kept c.in_err-put.ensures.cause.cause

pub returns-in_err-put-clause-rest : goal.returns-in_err-put-clause-rest
returns-in_err-put-clause-rest g c = g.met.S.Sink.rest_trans _ _ _ c.loop-item.invariant.rest c.in_err-put.ensures.rest

pub loop-item-preserved : goal.loop-item-preserved
loop-item-preserved g c = record {
  grows = rw (texts-with (g.W.Spelling.text c.args.spelling.now) c.args.items.now c.loop-item.item-index c.item-item.result (omega arith) c.item-item.is)
      (grows-then _ _ _ _ _ c.loop-item.invariant.grows c.in_ok-put.ensures.bytes);
  kept = omega (arith, c.loop-item.invariant.kept, c.in_ok-put.ensures.cause.kept);
  rest = g.met.S.Sink.rest_trans _ _ _ c.loop-item.invariant.rest c.in_ok-put.ensures.rest;
}

pub returns-clause-bytes : goal.returns-clause-bytes
returns-clause-bytes g c = grind (arith, common_steps, c.loop-item.invariant.grows)
