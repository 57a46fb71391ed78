use Rattle.std.proofs.Common.{take, arith, get_or}
use Rattle.std.proofs.lemmas.List.{take_more}
use Rattle.var_names.proofs.ReadingLaws.{dot_free-more}
use Rattle.var_names.proofs.reading.word_end.Goals as goal

pub loop-at-preserved : goal.loop-at-preserved
loop-at-preserved c = record {
  within = omega arith;
  word = rw (take_more c.args.text.now c.loop-at.at 0 (omega arith))
      (dot_free-more (take c.loop-at.at c.args.text.now) (get_or c.args.text.now c.loop-at.at 0) c.loop-at.invariant.word (λ is. c.if-text-at-ne46.true is));
}
