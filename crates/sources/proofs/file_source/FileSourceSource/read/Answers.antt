use Rattle.std.proofs.Common.{arith, drop}
use Rattle.sources.proofs.LeavingLaws.{takes-at}
use Rattle.sources.proofs.file_source.FileSourceSource.read.Goals as goal

pub returns-clause-bytes : goal.returns-clause-bytes
returns-clause-bytes g c =
    rw (c.in_ok-count.ensures.contents c.args.self.now.name.now)
    (takes-at _ c.args.self.now.place c.in_ok-count.count _ c.read_at.new.buf (drop c.min-room.result c.args.buf.now) (omega (arith, c.in_ok-count.ensures.bound)) c.in_ok-count.ensures.bytes)
