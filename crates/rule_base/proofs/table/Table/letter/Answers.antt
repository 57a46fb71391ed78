use Rattle.rule_base.proofs.TableRows.{few_letters, letter_past, letter_there, row_filled}
use Rattle.rule_base.proofs.table.Table.letter.Goals as goal

pub returns-then-argument-ge5-clause-letter : goal.returns-then-argument-ge5-clause-letter
returns-then-argument-ge5-clause-letter c =
    few_letters c.args.self.now.rows.now c.args.place c.args.argument c.args.self.now.filled c.if-argument-ge5.true

pub letter_in-requires : goal.letter_in-requires
letter_in-requires c =
    row_filled c.args.self.now.rows.now c.in-Some.row.now _ c.args.place c.args.self.now.filled
    c.in-Some.ensures.lookup.0 c.in-Some.ensures.lookup.1

pub returns-in-Some-clause-letter : goal.returns-in-Some-clause-letter
returns-in-Some-clause-letter c =
    rw c.letter_in.ensures (letter_there c.args.self.now.rows.now c.in-Some.row.now _ c.args.place c.args.argument
    c.args.self.now.filled c.in-Some.ensures.lookup.0 c.in-Some.ensures.lookup.1)

pub returns-in-None-clause-letter : goal.returns-in-None-clause-letter
returns-in-None-clause-letter c =
    letter_past c.args.self.now.rows.now c.args.place c.args.argument c.in-None.ensures.lookup.0
