use Rattle.std.proofs.Common.{◌∙◌, ap, drop, sym, take}
use Rattle.std.proofs.lemmas.List.{drop-drop}
use Rattle.token_reader.proofs.buffer.Buffer.skip.Goals as goal

pub returns : goal.returns
returns c =
    sym (drop-drop c.args.count c.self.inside.from (take c.self.inside.to c.self.inside.bytes.items))
    ∙ ap (drop c.args.count) c.self.view_is
