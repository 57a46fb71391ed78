-- Steps between spots one after another, and routes through the code with their answers.
use Rattle.std.specs.Prelude.{◌≡◌, ◌≤◌, ℕ, Bool, true, List, [], ◌∷◌, All, map, reverse}
use Rattle.program.specs.Bounds.{Begins, Hop, IsRoute, Place, backward_jumps, straight_hop}
use Rattle.program.specs.Program.{Prog}
use Rattle.code_paths.specs.declared.place.CodePlace.{CodePlace}
use Rattle.spots.specs.Spots.{AsksAt, Leads, end_of, jumps_after, standing_at}
use Rattle.spots.specs.declared.leads.Lead.{Lead}
use Rattle.spots.specs.declared.spot.Spot.{Spot}

-- steps that lead from one spot to another, each from where the one before leads
abbrev pub IsTrail : Prog → ℕ → Spot → List Lead → Spot → Type 0
IsTrail p limit from [] to = from ≡ to
IsTrail p limit from (step ∷ steps) to = Leads p limit from step.taken step.to × IsTrail p limit step.to steps to

-- a step along the code, and what the instruction answers to which it leads
pub record AnsweredHop : Type 0 where
  pub hop : Hop
  pub answer : Bool

-- true is an answer of those instructions alone that ask whether a thread is alive
abbrev pub CanAnswer : Prog → AnsweredHop → Type 0
CanAnswer p a = a.answer ≡ true → AsksAt p a.hop.to

-- the steps along the code, without the answers
abbrev pub hops_of : List AnsweredHop → List Hop
hops_of route = map (λ a. a.hop) route

-- a route of a thread from its entry to its outermost return that takes at most so many backward jumps, with an answer for
-- each instruction on it that asks whether a thread is alive. Its first step is the one to the entry
pub record IsAnsweredRoute (p : Prog) (limit thread : ℕ) (route : List AnsweredHop) : Type 0 where
  pub start : List Place
  pub begins : Begins p thread start
  pub answer : Bool
  pub rest : List AnsweredHop
  pub are : route ≡ record { hop = straight_hop start; answer = answer } ∷ rest
  pub leads : IsRoute p start (hops_of rest) []
  pub few : backward_jumps (hops_of rest) ≤ limit
  pub answers : All (CanAnswer p) route

-- ---- The spots of a route

abbrev pub code_place_of : Place → CodePlace
code_place_of at = record { method = at.method; pc = at.pc }

-- the chain of these places, of which the innermost stands first
abbrev pub chain_of : List Place → List CodePlace
chain_of places = reverse (map code_place_of places)

-- where a thread stands that is at these places after so many backward jumps, with this answer there
abbrev pub spot_at : ℕ → ℕ → List Place → Bool → Spot
spot_at thread jumps [] answer = end_of thread
spot_at thread jumps (at ∷ callers) answer =
    standing_at thread (record { jumps = jumps; places = chain_of (at ∷ callers); answer = answer })

-- the steps between spots along a route, after so many backward jumps
abbrev pub steps_of : ℕ → ℕ → List AnsweredHop → List Lead
steps_of thread jumps [] = []
steps_of thread jumps (a ∷ rest) =
    record { taken = a.hop.taken; to = spot_at thread (jumps_after jumps a.hop) a.hop.to a.answer } ∷ steps_of thread
    (jumps_after jumps a.hop) rest
