use Rattle.std.proofs.Common.{◌∙◌}
use Rattle.rule_base.proofs.TableRows.{letter_found, letter_missing}
use Rattle.rule_base.proofs.table.letter_in.Goals as goal

pub returns-in-Some : goal.returns-in-Some
returns-in-Some c =
    c.used.ensures ∙ letter_found c.args.row.now c.in-Some.letter.now _ c.args.at c.requires c.in-Some.ensures.lookup.0
    c.in-Some.ensures.lookup.1

pub returns-in-None : goal.returns-in-None
returns-in-None c = letter_missing c.args.row.now c.args.at c.in-None.ensures.lookup.0
