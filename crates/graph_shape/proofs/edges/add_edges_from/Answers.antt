-- Step by step.
use Rattle.std.proofs.Common.{◌≡◌, ◌↔◌, Contains, List, length, take, refl, sym, ap, subst, ◌∙◌}
use native.Mathlib.Omega.{arith}
use Rattle.std.proofs.Math.Seq.{take-length}
use Rattle.std.proofs.lemmas.Option.{slice_get_read}
use Rattle.spots.specs.Spots.{Leads}
use Rattle.spots.specs.declared.leads.Lead.{Lead}
use Rattle.graph_shape.proofs.Adding.{both, of_all, of_more, same}
use Rattle.graph_shape.proofs.edges.add_edges_from.Goals as goal

pub loop-lead-preserved : goal.loop-lead-preserved
loop-lead-preserved c = λ e.
    both (c.loop-lead.invariant e) (c.in_ok-add_edge.ensures e)
    (of_more c.args.spots.now c.args.from c.as_slice-lead-items.result.now c.loop-lead.lead-index c.lead-item.result c.loop-lead-test.true c.lead-item.is e)

pub returns : goal.returns
returns c = λ e.
    let last : c.loop-lead.lead-index ≡ length c.as_slice-lead-items.result.now = (let most = c.loop-lead.auto.lead-index-end in let least = c.loop-lead-test.false in omega arith) in
    same (c.loop-lead.invariant e)
    (of_all c.args.spots.now c.args.from c.as_slice-lead-items.result.now c.args.program.now c.args.limit c.index-spots-from.result (slice_get_read c.args.spots.now _ c.args.from c.index-spots-from.result refl c.requires.within c.index-spots-from.is)
    (subst (λ (steps : List Lead). (lead : Lead) → Contains steps lead ↔ Leads c.args.program.now c.args.limit c.index-spots-from.result lead.taken lead.to) (sym c.as_slice-lead-items.ensures) c.in_ok-leads.ensures.steps)
    c.loop-lead.lead-index (ap (λ n. take n c.as_slice-lead-items.result.now) last ∙ take-length c.as_slice-lead-items.result.now) e)
