-- Laws of the graph.
use Rattle.std.specs.Prelude.{◌≡◌, ℕ, Bool}
use Rattle.std.specs.declared.cmp.Ordering.TheVariants.{Less}
use Rattle.program.specs.Program.{Prog}
use Rattle.spots.specs.Order.{spot_cmp}
use Rattle.spots.specs.Spots.{Leads}
use Rattle.spots.specs.declared.spot.Spot.{Spot}

-- each step leads to a later spot
abbrev pub StepsGoUp : Type 0
StepsGoUp = (p : Prog) (limit : ℕ) (from to : Spot) (taken : Bool) → Leads p limit from taken to → spot_cmp from to ≡ Less
