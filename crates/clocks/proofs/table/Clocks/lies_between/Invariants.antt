-- Through no thread before `t` there is a path.
use Rattle.std.proofs.Common.{◌<◌, ◌-◌, ℕ, [], slice_index, slice_index_or}
use Rattle.relations.specs.Path.{Path}
use Rattle.clocks.specs.Events.{Leads}
use Rattle.clocks.proofs.table.Clocks.lies_between.Given as goal

abbrev pub invariant-loop-t : goal.invariant-loop-t
invariant-loop-t l = (t : ℕ) → t < l.t → 0 < slice_index (slice_index_or l.self.clocks.items l.to (record { known = [] })).known t →
    Path (Leads l.self.events.items) l.from (slice_index (slice_index_or l.self.clocks.items l.to (record { known = [] })).known t - 1) → ⊥
