use Rattle.std.proofs.Common.{◌≡◌, ◌+◌, ◌-◌, arith}
use Rattle.ports.proofs.ExtentLaws.{found-content}
use Rattle.ports.proofs.store.Store.content.Goals as goal

pub returns : goal.returns
returns c =
    let found = c.in_ok-found.found in
    let width : found.at + found.len - found.at ≡ found.len = omega arith in
    rw (c.deref-3.ensures.value, ← c.deref.ensures.value, ← c.deref-2.ensures.value, width)
    (found-content _ _ _ _ _ _ c.in_ok-found.ensures.found)
