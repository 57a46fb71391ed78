-- One more place.
use Rattle.std.proofs.Common.{◌≡◌, ◌∙◌, ℕ, Some, ap, arith, length, subst, sym}
use Rattle.action_orders.specs.declared.action.Action.{Action}
use Rattle.least_break.specs.Least.{IsScanned}
use Rattle.least_break.proofs.Scans.{scanned_more}
use Rattle.step_members.proofs.Entries.{id_at}
use Rattle.committed_reads.specs.Early.{ReadsFirst}
use Rattle.committed_reads.proofs.Firsts.{least_late}
use Rattle.committed_reads.proofs.first.check_uncommitted_reads.Goals as goal

pub loop-at-preserved : goal.loop-at-preserved
loop-at-preserved c =
    scanned_more (ReadsFirst c.args.stage.now c.args.earlier.now) c.args.stage.now.own.now.flat.ids.keys c.loop-at.at c.action.result.now.id c.loop-at.least c.noted-least.result c.in_ok-fits.fits
    (id_at c.args.stage.now.own.now c.loop-at.at c.requires.stage.own (omega arith) ∙ ap (λ (a : Action). Some a.id) (sym c.action.ensures.same)) c.in_ok-fits.ensures.0 c.in_ok-fits.ensures.1 c.noted-least.ensures c.loop-at.invariant

pub returns : goal.returns
returns c =
    let past : c.loop-at.at ≡ length c.args.stage.now.own.now.flat.entries.items = omega (arith, c.loop-at-test.false) in
    least_late c.args.stage.now c.args.earlier.now c.loop-at.least c.requires.stage (subst (λ (n : ℕ). IsScanned (ReadsFirst c.args.stage.now c.args.earlier.now) c.args.stage.now.own.now.flat.ids.keys n c.loop-at.least) past c.loop-at.invariant)
