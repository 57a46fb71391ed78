use Rattle.std.proofs.Common.{◌≢◌, List, slice_index_or, subst, ap, ◌∙◌}
use Rattle.opcodes.specs.declared.listed.Listed.{Listed}
use Rattle.opcodes.specs.Listing.{IsByPc}
use Rattle.opcodes.proofs.Searches.{none_there}
use Rattle.opcodes.proofs.listed.Listing.at.Goals as goal

pub returns-else-found-pc-clause-none : goal.returns-else-found-pc-clause-none
returns-else-found-pc-clause-none c = λ i s.
    let same = c.deref.ensures.value ∙ c.self.view_is in
    let P : List Listed → Type 0 = λ xs. (d : Listed) → (slice_index_or xs c.place_from.result d).pc ≢ c.args.pc in
    let other = subst P same (λ d e. c.if-found-pc.false (ap (λ l. l.pc) (c.in_ok-found.ensures.lookup.3.1 d) ∙ e)) in
    none_there c.args.self.now c.args.pc c.place_from.result i (subst IsByPc c.self.view_is c.self.invariant)
    c.place_from.ensures.before c.place_from.ensures.behind other s
