use Rattle.reached_methods.proofs.Codes.{valid_code}
use Rattle.reached_methods.proofs.code.code_of.Goals as goal

pub returns-clause-some : goal.returns-clause-some
returns-clause-some c =
    let valid = valid_code c.args.classes.now c.args.id c.in-Some.code.class.now c.in-Some.code.body.now c.requires.texts c.in-Some.ensures.some in
    valid.some_code

pub returns-clause-short : goal.returns-clause-short
returns-clause-short c =
    let valid = valid_code c.args.classes.now c.args.id c.in-Some.code.class.now c.in-Some.code.body.now c.requires.texts c.in-Some.ensures.some in
    valid.code_length
