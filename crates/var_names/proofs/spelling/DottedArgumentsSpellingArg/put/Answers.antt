use Rattle.std.proofs.Common.{◌∷◌, []}
use Rattle.texts.proofs.TextLaws.{puts-then}
use Rattle.var_names.specs.LiteralText.{argument_text}
use Rattle.var_names.proofs.spelling.DottedArgumentsSpellingArg.put.Goals as goal

pub returns-clause-bytes : goal.returns-clause-bytes
returns-clause-bytes g c =
    puts-then _ _ _ (46 ∷ []) (argument_text c.args.item.now) _ c.in_ok-put_all.ensures.bytes c.put_argument.ensures.bytes
