use Rattle.std.proofs.Common.{rules, ◌<◌, ◌^◌, ◌≤◌, ◌+◌, ◌++◌, ◌∙◌, ap, length, List, ℕ, Some}
use Rattle.ports.proofs.ExtentLaws.{content-within-short, extended-bytes, extended-len, found-content, replaced-content, replaced-filled, replaced-others}
use Rattle.ports.proofs.store.Store.extend.Goals as goal

pub invariant_of-self-clause-filled : goal.invariant_of-self-clause-filled
invariant_of-self-clause-filled c =
    let range : c.args.found.at + c.args.found.len ≤ length c.args.self.now.bytes.items = search rules in
    rw (
      c.put_between.ensures.items,
      extended-bytes c.args.found.at c.args.found.len c.args.piece.now c.args.self.now.bytes.items,
      extended-len c.args.found.at c.args.found.len c.args.piece.now c.args.self.now.bytes.items range,
    )
    (replaced-filled _ _ _ _ _ _ _ c.requires.found c.args.self.now.filled)

pub returns-clause-content : goal.returns-clause-content
returns-clause-content c =
    λ content told.
    let range : c.args.found.at + c.args.found.len ≤ length c.args.self.now.bytes.items = search rules in
    rw (
      c.put_between.ensures.items,
      extended-bytes c.args.found.at c.args.found.len c.args.piece.now c.args.self.now.bytes.items,
      extended-len c.args.found.at c.args.found.len c.args.piece.now c.args.self.now.bytes.items range,
    )
    (replaced-content _ _ _ _ _ _ _ c.requires.found c.args.self.now.filled
    ∙ ap (λ (old : List ℕ). Some (old ++ c.args.piece.now))
    (let found = found-content _ _ _ _ _ _ c.requires.found in cc (found, told)))

pub returns-clause-others : goal.returns-clause-others
returns-clause-others c =
    let range : c.args.found.at + c.args.found.len ≤ length c.args.self.now.bytes.items = search rules in
    rw (
      c.put_between.ensures.items,
      extended-bytes c.args.found.at c.args.found.len c.args.piece.now c.args.self.now.bytes.items,
      extended-len c.args.found.at c.args.found.len c.args.piece.now c.args.self.now.bytes.items range,
    )
    (replaced-others _ _ _ _ _ _ _ c.requires.found c.args.self.now.filled)

pub invariant_of-self-clause-short : goal.invariant_of-self-clause-short
invariant_of-self-clause-short c = λ name content told.
    let few : length c.put_between.new.bytes.items < 2 ^ 64 = search rules in
    content-within-short _ c.put_between.new.bytes.items name content few told
