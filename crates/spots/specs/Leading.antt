-- Steps from a spot, part by part.
use Rattle.std.specs.Prelude.{◌≡◌, ◌≤◌, ◌<◌, ◌⊎◌, ◌↔◌, ℕ, Bool, true, false, List, Option, Contains, reverse}
use Rattle.program.specs.Bounds.{Begins, Hop, Place, Successor}
use Rattle.program.specs.Program.{Prog}
use Rattle.code_paths.specs.Hops.{Is, places_of}
use Rattle.code_paths.specs.declared.place.CodeHop.{CodeHop}
use Rattle.code_paths.specs.declared.place.CodePlace.{CodePlace}
use Rattle.spots.specs.Spots.{Lands, end_of, innermost_first, jumps_after, standing_at}
use Rattle.spots.specs.declared.leads.Landing.{Landing}
use Rattle.spots.specs.declared.leads.Lead.{Lead}
use Rattle.spots.specs.declared.leads.Leads.{Leads}
use Rattle.spots.specs.declared.leads.Start.{Start}
use Rattle.spots.specs.declared.spot.Standing.{Standing}

-- the step to the end of a thread
abbrev pub end_step : Landing → Lead
end_step landing = record { taken = landing.taken; to = end_of landing.thread }

-- the step to the instruction at these places, the last place first
abbrev pub standing_step : Landing → List CodePlace → Bool → Lead
standing_step landing places answer =
    record { taken = landing.taken; to = standing_at landing.thread (record { jumps = landing.jumps; places = reverse places; answer = answer }) }

-- a step that lands at these places
pub record IsLandingOf (p : Prog) (landing : Landing) (places : List CodePlace) (lead : Lead) : Type 0 where
  pub taken : lead.taken ≡ landing.taken
  pub lands : Lands p landing.thread landing.jumps (places_of places) lead.to

-- a step along a hop that doesn't take too many jumps
pub record IsAlong (p : Prog) (start : Start) (hop : Hop) (lead : Lead) : Type 0 where
  pub taken : lead.taken ≡ hop.taken
  pub few : jumps_after start.jumps hop ≤ start.limit
  pub lands : Lands p start.thread (jumps_after start.jumps hop) hop.to lead.to

-- a step along the hop, if there is one
abbrev pub AlongOne : Prog → Start → Option CodeHop → Lead → Type 0
AlongOne p start o lead = (hop : Hop) × Is o hop × IsAlong p start hop lead

-- the hop, if there is one, takes too many jumps
abbrev pub TooManyOf : Start → Option CodeHop → Type 0
TooManyOf start o = (hop : Hop) × Is o hop × (start.limit < jumps_after start.jumps hop)

-- the steps along the hop were added
pub record IsMore (p : Prog) (start : Start) (o : Option CodeHop) (old new : Leads) : Type 0 where
  pub steps : (lead : Lead) → Contains new.steps lead ↔ (Contains old.steps lead ⊎ AlongOne p start o lead)
  pub left_out : (new.left_out ≡ true) ↔ ((old.left_out ≡ true) ⊎ TooManyOf start o)

-- all steps from before an instruction
pub record AreFromStanding (p : Prog) (limit thread : ℕ) (stand : Standing) (leads : Leads) : Type 0 where
  pub steps : (lead : Lead) → Contains leads.steps lead ↔ ((hop : Hop) × Successor p (innermost_first stand.places) hop × IsAlong p (record { thread = thread; jumps = stand.jumps; limit = limit }) hop lead)
  pub left_out : (leads.left_out ≡ true) ↔ ((hop : Hop) × Successor p (innermost_first stand.places) hop × (limit < jumps_after stand.jumps hop))

-- a first step of a thread
pub record IsFirst (p : Prog) (thread : ℕ) (lead : Lead) : Type 0 where
  pub places : List Place
  pub begins : Begins p thread places
  pub taken : lead.taken ≡ false
  pub lands : Lands p thread 0 places lead.to
