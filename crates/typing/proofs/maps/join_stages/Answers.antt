use Rattle.std.proofs.Common.{◌≡◌, ◌<◌, ◌∙◌, ℕ, length, get_or, arith}
use Rattle.typing.specs.Joining.{either_stage, stage_at}
use Rattle.typing.specs.declared.stage.Stage.{Stage}
use Rattle.typing.proofs.Keys.{one_more}
use Rattle.typing.proofs.maps.join_stages.Goals as goal

pub loop-thread-preserved : goal.loop-thread-preserved
loop-thread-preserved c =
    let P : ℕ → Stage → Type 0 = λ q v. v ≡ either_stage (stage_at c.args.a.now q) (stage_at c.args.b.now q) in
    let xs = c.args.listed.now in
    let lt : c.loop-thread.thread-index < length xs = omega arith in
    let here : P (get_or xs c.loop-thread.thread-index 0) (stage_at c.put_stage.new.threads (get_or xs c.loop-thread.thread-index 0)) = c.in_ok-put_stage.ensures.here ∙ c.joined_stage-stage.ensures in
    let both = one_more P (stage_at c.args.joined.now) (stage_at c.loop-thread.joined) (stage_at c.put_stage.new.threads) xs c.loop-thread.thread-index lt here
    c.in_ok-put_stage.ensures.apart c.loop-thread.invariant.done c.loop-thread.invariant.rest in
    record { done = both.0; rest = both.1 }
