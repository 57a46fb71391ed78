use Rattle.std.specs.HashMap.{get}
use Rattle.std.specs.Prelude.{nat_eq}
use Rattle.std.proofs.Common.{sym}
use Rattle.refutation_check.proofs.Table.{from-live, live-from}
use Rattle.refutation_check.proofs.live.LiveClauses.get.Goals as goal

pub returns-in_err-get : goal.returns-in_err-get
returns-in_err-get c =
    let none = c.in_err-get.ensures.value in
    rw (c.from_residual.ensures, ← c.self.view_is) (λ clause live.
    let stands = from-live c.self.inside.count (get nat_eq c.self.inside.live) c.args.number clause live in cc (none, stands))

pub returns : goal.returns
returns c =
    rw (← c.self.view_is, c.as_slice.ensures)
    (live-from c.self.inside.count (get nat_eq c.self.inside.live) c.args.number c.in_ok-get.field-0.now c.self.invariant (sym c.in_ok-get.ensures.value))
