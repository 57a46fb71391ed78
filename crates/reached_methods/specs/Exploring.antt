-- How the reached methods are found.
use Rattle.std.specs.Prelude.{◌≡◌, ◌≢◌, ◌++◌, ◌⊎◌, Bool, true, List, [], ◌∷◌, All, AllPairs, Contains, map, nat_eq, nat_lt, ◌&&◌, ◌||◌, if◌then◌else◌}
use Rattle.std.specs.List.{list_any}
use Rattle.class_format.specs.declared.record.ClassRecord.{ClassRecord}
use Rattle.program.specs.declared.method.MethodId.{MethodId}
use Rattle.resolution.specs.declared.target.Target.{Target}
use Rattle.resolution.specs.declared.target.Target.TheVariants as target
use Rattle.reached_methods.specs.Reached.{is_method, IsBefore, IsReached, IsRunOf, Leads}
use Rattle.reached_methods.specs.Surveys.{IsSurveyed}
use Rattle.reached_methods.specs.declared.survey.Surveyed.{Surveyed}

-- whether a stands before b: in an earlier class, or earlier in one class
abbrev pub is_before : MethodId → MethodId → Bool
is_before a b = nat_lt a.class b.class || (nat_eq a.class b.class && nat_lt a.method b.method)

-- the methods with one more, where it is new
abbrev pub with_method : List MethodId → MethodId → List MethodId
with_method ids id = if list_any (is_method id) ids then ids else ids ++ id ∷ []

-- the methods that were surveyed
abbrev pub ids_of : List Surveyed → List MethodId
ids_of surveys = map (λ s. s.method.id) surveys

-- what an instruction names leads to this method: it is called, or the run()V of the thread that main makes
abbrev pub LeadsTo : List ClassRecord → Bool → Target → MethodId → Type 0
LeadsTo classes in_main (target.Call called) id = called ≡ id
LeadsTo classes true (target.New class_at) id = IsRunOf classes class_at id
LeadsTo classes in_main t id = ⊥

-- one of these leads to the method
pub record OneLeadsTo (classes : List ClassRecord) (in_main : Bool) (targets : List Target) (id : MethodId) : Type 0 where
  pub named : Target
  pub there : Contains targets named
  pub leads : LeadsTo classes in_main named id

-- the methods with those besides that meet the condition, each once
pub record Follows (Next : MethodId → Type 0) (old new : List MethodId) : Type 0 where
  pub added : List MethodId
  pub longer : new ≡ old ++ added
  pub grown : (id : MethodId) → Contains new id → Contains old id ⊎ Next id
  pub whole : (id : MethodId) → Next id → Contains new id
  pub distinct : AllPairs (λ a b. a ≢ b) old → AllPairs (λ a b. a ≢ b) new

-- methods that are reached, the first of them surveyed and the rest waiting
pub record IsExploring (classes : List ClassRecord) (main : MethodId) (seen : List MethodId) (surveys : List Surveyed) : Type 0 where
  pub waiting : List MethodId
  pub seen_are : seen ≡ ids_of surveys ++ waiting
  pub first : Contains seen main
  pub distinct : AllPairs (λ a b. a ≢ b) seen
  pub reached : All (IsReached classes main) seen
  pub surveyed : All (IsSurveyed classes main) surveys
  pub closed : (a b : MethodId) → Contains (ids_of surveys) a → Leads classes main a b → Contains seen b

-- the surveys of exactly the reached methods
pub record AreSurveys (classes : List ClassRecord) (main : MethodId) (surveys : List Surveyed) : Type 0 where
  pub reached : All (λ s. IsReached classes main s.method.id) surveys
  pub surveyed : All (IsSurveyed classes main) surveys
  pub whole : (id : MethodId) → IsReached classes main id → Contains (ids_of surveys) id

-- no method twice
abbrev pub AreDistinct : List Surveyed → Type 0
AreDistinct = AllPairs (λ a b. a.method.id ≢ b.method.id)

-- by class and by place in the class
abbrev pub AreByPlace : List Surveyed → Type 0
AreByPlace = AllPairs (λ a b. IsBefore a.method.id b.method.id)
