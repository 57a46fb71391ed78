use Rattle.std.proofs.Common.{◌<◌, ◌^◌, inl, rules}
use Rattle.std.proofs.lemmas.Result.{err_from_is_err_and}
use Rattle.thread_meaning.specs.Changes.{activation_of}
use Rattle.thread_meaning.specs.Tracing.{has_ended}
use Rattle.thread_meaning.proofs.Stepping.{nothing_no_step, acts_step}
use Rattle.thread_meaning.proofs.frames.Frames.step.Goals as goal

pub returns-in_err-here : goal.returns-in_err-here
returns-in_err-here c =
    let p = err_from_is_err_and c.from_residual.result c.from_residual.ensures.1 in
    rw (p.1, p.2, c.in_err-here.ensures.err.0) (inl (nothing_no_step c.args.program.now (has_ended c.args.ended) (activation_of c.in-Some.top) c.pop.new.self c.args.self.now c.in-Some.ensures.some c.in_err-here.ensures.err.1))

pub returns : goal.returns
returns c =
    let low : c.in_ok-here.here.pc < 2 ^ 32 = search rules in
    acts_step c.args.program.now (has_ended c.args.ended) (activation_of c.in-Some.top) c.pop.new.self c.args.self.now c.in_ok-here.here c.args.read c.act.result c.act.new.self c.in-Some.ensures.some c.in_ok-here.ensures.ok low c.act.ensures
