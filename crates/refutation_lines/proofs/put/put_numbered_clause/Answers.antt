use Rattle.var_names.specs.LiteralNumbers.{lit_of}
use Rattle.var_names.specs.LiteralText.{literal_bytes}
use Rattle.refutation_lines.proofs.PutLaws.{clause-map}
use Rattle.refutation_lines.proofs.put.put_numbered_clause.Goals as goal

pub returns-clause-bytes : goal.returns-clause-bytes
returns-clause-bytes g c =
    clause-map literal_bytes (lit_of c.args.formula.now.variables) c.args.numbers.now c.args.hints.now _ _ c.put_clause.result c.put_clause.ensures.bytes
