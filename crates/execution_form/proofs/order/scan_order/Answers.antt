-- One more identifier.
use Rattle.std.proofs.Common.{[], ◌≡◌, ◌&&◌, ◌≤◌, ◌∙◌, List, ℕ, Some, length, slice_get, get_or, sym, ap, Bool, subst}
use Rattle.std.proofs.lemmas.Option.{slice_get-get_or}
use Rattle.least_break.proofs.Scans.{scanned_more}
use Rattle.entry_tables.proofs.Adding.{added_more}
use Rattle.execution_form.specs.Form.{IsRightAtPlace}
use Rattle.execution_form.proofs.Passing.{of_id, right_order, all_listed}
use Rattle.execution_form.proofs.order.scan_order.Goals as goal
use Rattle.execution_form.proofs.order.scan_order.Goals.{then-known, else-known}

pub loop-at-preserved : goal.loop-at-preserved
loop-at-preserved c =
    let at : slice_get c.args.execution.now.so c.loop-at.at ≡ Some (get_or c.so-so.result.now c.loop-at.at 0) =
    ap (λ (x : List ℕ). slice_get x c.loop-at.at) (sym c.so-so.ensures) ∙ slice_get-get_or c.so-so.result.now c.loop-at.at 0 c.loop-at-test.true in
    let both : c.if-known.right ≡ (c.has-known.result && c.in_ok-new.new) = elim c.if-known.branch [
      | then-known w ↦ w.right-is ∙ ap (λ (b : Bool). b && c.in_ok-new.new) (sym w.if-known.true)
      | else-known w ↦ w.right-is ∙ w.if-known.false ∙ ap (λ (b : Bool). b && c.in_ok-new.new) (sym w.if-known.false)
    ] in
    let right = right_order c.args.execution.now c.loop-at.at (get_or c.so-so.result.now c.loop-at.at 0) c.loop-at.listed c.has-known.result c.in_ok-new.new at c.loop-at.invariant.listed (λ h. (c.requires.synchronizing _).0 (c.has-known.ensures.0 h), λ h. c.has-known.ensures.1 ((c.requires.synchronizing _).1 h)) c.in_ok-new.ensures.new in
    record {
      listed = added_more [] c.loop-at.listed c.add.new.self of_id c.args.execution.now.so c.loop-at.at (get_or c.so-so.result.now c.loop-at.at 0) at c.loop-at.invariant.listed c.in_ok-new.ensures.members;
      scanned = scanned_more (IsRightAtPlace c.args.execution.now) c.args.execution.now.so c.loop-at.at (get_or c.so-so.result.now c.loop-at.at 0) c.loop-at.least c.noted-least.result c.if-known.right at
          (λ h. right.0 (sym both ∙ h)) (λ h. both ∙ right.1 h) c.noted-least.ensures c.loop-at.invariant.scanned;
    }

pub returns-clause-listed : goal.returns-clause-listed
returns-clause-listed c = all_listed c.args.execution.now c.loop-at.at c.loop-at.listed (subst (λ (x : List ℕ). length x ≤ c.loop-at.at) c.so-so.ensures c.loop-at-test.false) c.loop-at.invariant.listed
