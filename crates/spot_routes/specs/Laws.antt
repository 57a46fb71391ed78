-- Laws of the steps between spots.
use Rattle.std.specs.Prelude.{◌≡◌, ◌↔◌, ℕ, List}
use Rattle.relations.specs.Path.{Walk}
use Rattle.program.specs.Bounds.{Ends, IsWhole}
use Rattle.program.specs.Program.{Prog}
use Rattle.spots.specs.Spots.{StepsTo, begin_of, end_of}
use Rattle.spots.specs.declared.leads.Lead.{Lead}
use Rattle.reached_spots.specs.Exploring.{SomeLeavesOut}
use Rattle.spot_routes.specs.Routes.{AnsweredHop, IsAnsweredRoute, IsTrail, steps_of}

-- the lists of steps from where a thread begins to its end are those of its routes with their answers
abbrev pub AreRoutes : Type 0
AreRoutes = (p : Prog) (limit thread : ℕ) (steps : List Lead) →
    IsTrail p limit (begin_of thread) steps (end_of thread) ↔
    ((route : List AnsweredHop) × IsAnsweredRoute p limit thread route × (steps ≡ steps_of thread 0 route))

-- each of them is that of one route alone
abbrev pub AreApart : Type 0
AreApart = (p : Prog) (limit thread : ℕ) (one other : List AnsweredHop) → IsAnsweredRoute p limit thread one →
    IsAnsweredRoute p limit thread other →
    steps_of thread 0 one ≡ steps_of thread 0 other → one ≡ other

-- a thread can end exactly where some steps lead from its beginning to its end
abbrev pub EndsBySteps : Type 0
EndsBySteps = (p : Prog) (limit thread : ℕ) → Ends p thread limit ↔
    Walk (StepsTo p limit) (begin_of thread) (end_of thread)

-- the bounds leave nothing out exactly where the width is that of an int and no step is left out
abbrev pub WholeWhereNoneIsLeftOut : Type 0
WholeWhereNoneIsLeftOut = (p : Prog) (limit width : ℕ) → IsWhole p limit width ↔
    ((width ≡ 32) × (SomeLeavesOut p limit → ⊥))
