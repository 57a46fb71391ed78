-- Each round leaves less to rise.
use Rattle.std.proofs.Common.{◌≡◌, ◌≤◌, ◌*◌, All, length, sym, ap, ◌∙◌, subst, arith}
use Rattle.std.proofs.lemmas.Bool.{false≢true}
use Rattle.std.proofs.lemmas.List.{with_items_is}
use Rattle.untyped_program.specs.Edges.{AreRaised, AreSteady, total}
use Rattle.untyped_program.specs.Edges.AreRaised.{same}
use Rattle.untyped_program.proofs.Sums.{total_small, falls, one_round}
use Rattle.untyped_program.proofs.call_graph.greatest_sums.Goals as goal

pub loop-changed-init : goal.loop-changed-init
loop-changed-init c =
    let is : c.in_ok-sums.sums.items ≡ c.args.slots.now = c.in_ok-sums.ensures in
    record {
      size = ap length is;
      small = subst (All (λ n. n ≤ 17)) (sym is) c.requires.slots;
      raised = subst (AreRaised c.args.slots.now c.args.edges.now c.args.slots.now) (sym is) same;
      steady = λ e. absurd (false≢true (sym e));
    }

pub loop-changed-smaller : goal.loop-changed-smaller
loop-changed-smaller c =
    let round = c.raise_all-changed in
    let n = 17 * length c.args.slots.now in
    let before = c.deref_mut.result.now in
    let small = total_small round.new.sums round.ensures.sums in
    let sizes = c.loop-changed.invariant.size in
    let is : before ≡ c.loop-changed.sums.items = c.deref_mut.ensures.value in
    let size : length round.new.sums ≡ length c.args.slots.now = round.ensures.size ∙ ap length is ∙ sizes in
    let totals : total before ≡ total c.loop-changed.sums.items = ap total is in
    let step = falls n before round.new.sums (AreSteady c.args.slots.now c.args.edges.now before) round.result round.ensures.steady round.ensures.more (omega (arith, small, size)) in
    let again = one_round c.loop-changed.changed c.loop-changed-test.true in
    let held = ap total (with_items_is c.loop-changed.sums round.new.sums (round.ensures.size ∙ c.deref_mut.ensures.len)) in
    omega (arith, step, totals, again, held)
