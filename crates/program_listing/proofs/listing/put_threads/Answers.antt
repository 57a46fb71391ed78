use Rattle.std.proofs.Common.{arith}
use Rattle.program_listing.proofs.ThreadTexts.{threads-failed, threads-with}
use Rattle.program_listing.proofs.listing.put_threads.Goals as goal

pub returns-in_err-put_thread-clause-bytes : goal.returns-in_err-put_thread-clause-bytes
returns-in_err-put_thread-clause-bytes g c =
    threads-failed c.args.classes.now c.args.program.now.threads c.loop-thread.thread c.entry.result _ _ _ _ c.entry.ensures
    c.from_residual.ensures.0 c.loop-thread.invariant.grows c.in_err-put_thread.ensures.bytes

pub loop-thread-preserved : goal.loop-thread-preserved
loop-thread-preserved g c = record {
  grows = threads-with c.args.classes.now c.args.program.now.threads c.loop-thread.thread c.entry.result _ _ _ c.entry.ensures
      c.loop-thread.invariant.grows c.in_ok-put_thread.ensures.bytes;
  kept = omega (arith, c.loop-thread.invariant.kept, c.in_ok-put_thread.ensures.cause.kept);
  rest = g.met.S.Sink.rest_trans _ _ _ c.loop-thread.invariant.rest c.in_ok-put_thread.ensures.rest;
}
