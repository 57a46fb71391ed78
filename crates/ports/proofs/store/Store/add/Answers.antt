use Rattle.std.proofs.Common.{rules, length, ◌<◌, ◌^◌}
use Rattle.ports.proofs.ExtentLaws.{content-within-short, added-content, added-filled, added-others}
use Rattle.ports.proofs.store.Store.add.Goals as goal

pub invariant_of-self-clause-filled : goal.invariant_of-self-clause-filled
invariant_of-self-clause-filled c =
    rw (c.push_file.ensures.bytes, c.push_file.ensures.extents) (added-filled _ _ _ c.args.self.now.filled)

pub returns-clause-content : goal.returns-clause-content
returns-clause-content c =
    rw (c.push_file.ensures.bytes, c.push_file.ensures.extents) (added-content _ _ _ c.requires.absent c.args.self.now.filled)

pub returns-clause-others : goal.returns-clause-others
returns-clause-others c =
    rw (c.push_file.ensures.bytes, c.push_file.ensures.extents) (added-others _ _ _ c.args.self.now.filled)

pub invariant_of-self-clause-short : goal.invariant_of-self-clause-short
invariant_of-self-clause-short c = λ name content told.
    let few : length c.push_file.new.bytes.items < 2 ^ 64 = search rules in
    content-within-short _ c.push_file.new.bytes.items name content few told
