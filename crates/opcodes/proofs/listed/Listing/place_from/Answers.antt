use Rattle.std.proofs.Common.{◌<◌, ◌≤◌, List, ltb, length, subst, sym, ◌∙◌, rules, of_calls}
use Rattle.std.specs.List.{AllWithin}
use Rattle.std.proofs.lemmas.List.Sorted.{IsPartitionPoint-from_clause, IsPartitionedBy-ltb}
use Rattle.opcodes.specs.declared.listed.Listed.{Listed}
use Rattle.opcodes.specs.Listing.{IsByPc}
use Rattle.opcodes.proofs.Searches.{by_pc_rises, point_before, point_behind}
use Rattle.opcodes.proofs.listed.Listing.place_from.Goals as goal

pub returns-clause-before : goal.returns-clause-before
returns-clause-before c =
    let by_pc = subst IsByPc (sym c.deref.ensures.value) c.self.invariant in
    let point = IsPartitionPoint-from_clause (λ l. ltb l.pc c.args.pc) c.deref.result.now c.partition_point.result c.partition_point.ensures.partitioned
    (IsPartitionedBy-ltb (λ l. l.pc) c.deref.result.now c.args.pc (by_pc_rises c.deref.result.now by_pc)) (λ a r f k. search (rules, of_calls)) in
    let P : List Listed → Type 0 = λ xs. AllWithin (λ l. l.pc < c.args.pc) xs 0 c.partition_point.result in
    subst P (c.deref.ensures.value ∙ c.self.view_is) (point_before c.deref.result.now c.args.pc c.partition_point.result point)

pub returns-clause-behind : goal.returns-clause-behind
returns-clause-behind c =
    let by_pc = subst IsByPc (sym c.deref.ensures.value) c.self.invariant in
    let point = IsPartitionPoint-from_clause (λ l. ltb l.pc c.args.pc) c.deref.result.now c.partition_point.result c.partition_point.ensures.partitioned
    (IsPartitionedBy-ltb (λ l. l.pc) c.deref.result.now c.args.pc (by_pc_rises c.deref.result.now by_pc)) (λ a r f k. search (rules, of_calls)) in
    let P : List Listed → Type 0 = λ xs. AllWithin (λ l. c.args.pc ≤ l.pc) xs c.partition_point.result (length xs) in
    subst P (c.deref.ensures.value ∙ c.self.view_is) (point_behind c.deref.result.now c.args.pc c.partition_point.result point)
