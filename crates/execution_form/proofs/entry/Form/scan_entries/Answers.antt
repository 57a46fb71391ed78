-- One more entry.
use Rattle.std.proofs.Common.{[], ◌≡◌, ◌&&◌, ◌∙◌, Some, map, slice_get, sym, ap, Bool, arith}
use Rattle.program.proofs.Lists.{slice_get_of}
use Rattle.least_break.proofs.Scans.{scanned_more}
use Rattle.action_orders.specs.declared.action.Entry.{Entry}
use Rattle.action_orders.specs.Actions.{entries}
use Rattle.entry_tables.proofs.Adding.{added_more}
use Rattle.execution_form.specs.Form.{IsRightAt}
use Rattle.execution_form.proofs.Passing.{id_of, right_entries, read_entry}
use Rattle.execution_form.proofs.entry.Form.scan_entries.Goals as goal
use Rattle.execution_form.proofs.entry.Form.scan_entries.Goals.{then-itself, else-itself}

pub loop-at-preserved : goal.loop-at-preserved
loop-at-preserved c =
    let p = c.args.self.now.program.now in
    let e = c.args.self.now.execution.now in
    let n = c.index-entry.result.now.now in
    let at : slice_get (entries e) c.loop-at.at ≡ Some n = read_entry c.args.self.now.entries.items (entries e) c.loop-at.at c.index-entry.result.now c.requires.all (let below = c.loop-at-test.true in omega arith) c.index-entry.ensures in
    let both : c.if-itself.right ≡ (c.is_right-itself.result && c.in_ok-new.new) = elim c.if-itself.branch [
      | then-itself w ↦ w.right-is ∙ ap (λ (b : Bool). b && c.in_ok-new.new) (sym w.if-itself.true)
      | else-itself w ↦ w.right-is ∙ w.if-itself.false ∙ ap (λ (b : Bool). b && c.in_ok-new.new) (sym w.if-itself.false)
    ] in
    let right = right_entries p e c.loop-at.at n c.loop-at.found c.is_right-itself.result c.in_ok-new.new at c.loop-at.invariant.found c.is_right-itself.ensures c.in_ok-new.ensures.new in
    record {
      found = added_more [] c.loop-at.found c.add.new.self id_of (entries e) c.loop-at.at n at c.loop-at.invariant.found c.in_ok-new.ensures.members;
      scanned = scanned_more (IsRightAt p e) (map (λ m. m.action.id) (entries e)) c.loop-at.at n.action.id c.loop-at.least c.noted-least.result c.if-itself.right (slice_get_of (λ (m : Entry). m.action.id) (entries e) c.loop-at.at n at)
          (λ h. right.0 (sym both ∙ h)) (λ h. both ∙ right.1 h) c.noted-least.ensures c.loop-at.invariant.scanned;
    }
