use Rattle.verdict.proofs.lines.put_input.Goals as goal

pub returns-in-ReadFault-clause-bytes : goal.returns-in-ReadFault-clause-bytes
returns-in-ReadFault-clause-bytes g c = rw (c.in-ReadFault.is) c.put_numbered.ensures.bytes
