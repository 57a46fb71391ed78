-- What is proved of the definitions.
use Rattle.std.specs.Prelude.{ℕ, List, [], Bool}
use Rattle.literals.specs.Truth.{IsTrueClause, AllTrue, IsUnsatisfiable, IsResolvent}
use Rattle.literals.specs.Propagation.{FollowsFrom}

-- a clause that follows from clauses is true wherever these are
abbrev pub FollowingIsTrue : Type 0
FollowingIsTrue = (value : ℕ → Bool) (clause : List ℕ) (hints : List (List ℕ)) → FollowsFrom clause hints → AllTrue value hints → IsTrueClause value clause

-- a resolvent is true wherever both clauses are
abbrev pub ResolventIsTrue : Type 0
ResolventIsTrue = (value : ℕ → Bool) (positive negative resolvent : List ℕ) → IsResolvent positive negative resolvent → IsTrueClause value positive → IsTrueClause value negative → IsTrueClause value resolvent

-- where the empty clause follows, no assignment makes the hints true
abbrev pub EmptyIsUnsatisfiable : Type 0
EmptyIsUnsatisfiable = (hints : List (List ℕ)) → FollowsFrom [] hints → IsUnsatisfiable hints
