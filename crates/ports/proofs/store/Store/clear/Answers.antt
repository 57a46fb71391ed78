use Rattle.std.proofs.Common.{rules, length, [], ◌<◌, ◌^◌}
use Rattle.ports.proofs.ExtentLaws.{content-within-short, replaced-content, replaced-filled, replaced-others}
use Rattle.ports.proofs.store.Store.clear.Goals as goal

pub invariant_of-self-clause-filled : goal.invariant_of-self-clause-filled
invariant_of-self-clause-filled c =
    rw c.take_out.ensures.items (replaced-filled _ _ _ _ _ _ [] c.requires.found c.args.self.now.filled)

pub returns-clause-content : goal.returns-clause-content
returns-clause-content c =
    rw c.take_out.ensures.items (replaced-content _ _ _ _ _ _ [] c.requires.found c.args.self.now.filled)

pub returns-clause-others : goal.returns-clause-others
returns-clause-others c =
    rw c.take_out.ensures.items (replaced-others _ _ _ _ _ _ [] c.requires.found c.args.self.now.filled)

pub invariant_of-self-clause-short : goal.invariant_of-self-clause-short
invariant_of-self-clause-short c = λ name content told.
    let few : length c.take_out.new.bytes.items < 2 ^ 64 = search rules in
    content-within-short _ c.take_out.new.bytes.items name content few told
