use Rattle.ports.proofs.GrowthLaws.{grows-told}
use Rattle.ports.proofs.ExtentLaws.{found-content}
use Rattle.ports.proofs.store.Store.append.Goals as goal

pub returns-clause-bytes : goal.returns-clause-bytes
returns-clause-bytes c =
    let told = found-content _ _ _ _ _ _ c.in-Some.ensures.found in
    let held = rw (c.deref.ensures.value, c.deref-2.ensures.value) at told in
    grows-told _ _ _ _ held (c.extend.ensures.content _ held)
