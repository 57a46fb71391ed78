-- The table of all clocks.
use Rattle.std.specs.Prelude.{◌<◌, ◌+◌, ℕ, [], length, All, slice_index, slice_index_or}
use Rattle.relations.specs.Path.{Walk}
use Rattle.clocks.specs.declared.clock.Clock.{Clock}
use Rattle.clocks.specs.declared.table.Clocks.{Clocks}
use Rattle.clocks.specs.Events.{FitsIn, Leads, AreClocks, FindAllTakers}

-- the table has the clocks and the first takers of its events
pub record IsTable (table : Clocks) : Type 0 where
  pub fits : All (FitsIn (8 + length table.takers.items)) table.events.items
  pub clocks : AreClocks table.events.items table.clocks.items
  pub takers : FindAllTakers table.events.items (length table.events.items) table.takers.items

abbrev pub no_clock : Clock
no_clock = record { known = [] }

-- the thread has an event that takes from the channel, and the first such event is this one or leads to it
pub record IsFirstBefore (table : Clocks) (c t j : ℕ) : Type 0 where
  pub within : slice_index (slice_index_or table.takers.items c no_clock).known t < length table.events.items
  pub walk : Walk (Leads table.events.items) (slice_index (slice_index_or table.takers.items c no_clock).known t) j
