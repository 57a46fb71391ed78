use Rattle.thread_meaning.proofs.Acting.{inside_acted}
use Rattle.thread_meaning.specs.Changes.{activation_of}
use Rattle.thread_meaning.proofs.frames.Frames.inside.Goals as goal

pub returns : goal.returns
returns c = λ p monitor read. inside_acted p monitor c.args.doing c.args.behind (activation_of c.args.top) (activation_of c.execute.new.self) c.args.self.now read c.in_ok-effect.effect c.push.new.self
    c.in_ok-effect.ensures c.in_ok-push.ensures.ok
