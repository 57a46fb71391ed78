use Rattle.program.specs.declared.value_type.TypedLocal.{TypedLocal}
use Rattle.typing.specs.Listings.{HasType}
use Rattle.typing.specs.Summaries.{summary_of}
use Rattle.typing.proofs.Listed.{ListsSoFar}
use Rattle.typing.proofs.output.typed_locals.Given as goal

abbrev pub invariant-loop-slot : goal.invariant-loop-slot
invariant-loop-slot l = ListsSoFar (λ (x : TypedLocal). x.slot) (HasType (summary_of l.state)) l.slot-items l.slot-index l.listed.items
