-- One more identifier.
use Rattle.std.proofs.Common.{◌≡◌, ◌∙◌, ℕ, List, ap, arith, length, slice_get, sym, subst}
use Rattle.std.proofs.lemmas.Option.{slice_get-get_or}
use Rattle.least_break.specs.Least.{IsScanned}
use Rattle.least_break.proofs.Scans.{scanned_more}
use Rattle.step_members.proofs.Present.{IsPresentAt, present_at, least_absent}
use Rattle.step_members.proofs.presence.check_presence.Goals as goal

pub loop-id-preserved : goal.loop-id-preserved
loop-id-preserved c =
    let at = slice_get-get_or c.as_slice-ids.result.now c.loop-id.id-index 0 c.loop-id-test.true in
    let iff = present_at c.args.stage.now c.loop-id.id-index _ c.is_present.result (ap (λ (xs : List ℕ). slice_get xs c.loop-id.id-index) (sym c.as_slice-ids.ensures.keys) ∙ at) c.is_present.ensures in
    scanned_more (IsPresentAt c.args.stage.now) c.as_slice-ids.result.now c.loop-id.id-index _ c.loop-id.least c.noted-least.result c.is_present.result at iff.0 iff.1 c.noted-least.ensures c.loop-id.invariant

pub returns : goal.returns
returns c =
    let past : c.loop-id.id-index ≡ length c.as_slice-ids.result.now = omega (arith, c.loop-id-test.false) in
    least_absent c.args.stage.now c.as_slice-ids.result.now c.loop-id.least c.requires c.as_slice-ids.ensures.keys
    (subst (λ (n : ℕ). IsScanned (IsPresentAt c.args.stage.now) c.as_slice-ids.result.now n c.loop-id.least) past c.loop-id.invariant)
