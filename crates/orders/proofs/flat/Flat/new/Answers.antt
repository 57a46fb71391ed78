-- Identifiers and places of the synchronization order are distinct.
use Rattle.std.proofs.Common.{◌∙◌, ap, map}
use Rattle.orders.specs.Lists.{seen}
use Rattle.orders.proofs.Tabled.{ids_apart, so_apart, few_threads}
use Rattle.orders.proofs.flat.Flat.new.Goals as goal

pub numbers-requires : goal.numbers-requires
numbers-requires c = ids_apart c.args.program.now c.args.execution.now c.deref-2.result.now c.requires (c.deref-2.ensures.value ∙ c.in_ok-id_list.ensures ∙ ap (λ refs. map (λ n. n.action.id) (seen refs)) c.deref.ensures.value ∙ ap (map (λ n. n.action.id)) c.in_ok-entries.ensures)

pub numbers-requires-2 : goal.numbers-requires-2
numbers-requires-2 c = so_apart c.args.program.now c.args.execution.now c.so.result.now c.requires c.so.ensures

pub returns-clause-made : goal.returns-clause-made
returns-clause-made c = record {
  listed = c.in_ok-entries.ensures;
  numbered = c.in_ok-ids.ensures ∙ c.deref-2.ensures.value ∙ c.in_ok-id_list.ensures ∙ ap (λ refs. map (λ n. n.action.id) (seen refs)) c.deref.ensures.value ∙ ap (map (λ n. n.action.id)) c.in_ok-entries.ensures;
  ordered = c.in_ok-sync.ensures ∙ c.so.ensures;
  few = few_threads c.args.program.now c.args.execution.now c.requires;
}
