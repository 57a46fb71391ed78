use Rattle.token_reader.proofs.Windows.{behind-less}
use Rattle.token_reader.proofs.reader.ReaderBytes.skip.Goals as goal

pub returns-clause-left : goal.returns-clause-left
returns-clause-left g c = rw c.skip.ensures (behind-less c.args.self.now.buffer c.args.count (g.S.Source.left c.args.self.now.source))
