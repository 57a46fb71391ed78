use Rattle.verdict.proofs.lines.put_stop.Goals as goal

pub returns-in-NotBuilt-clause-bytes : goal.returns-in-NotBuilt-clause-bytes
returns-in-NotBuilt-clause-bytes g c = rw (c.in-NotBuilt.is) c.put_all.ensures.bytes
