-- What callers see of a pool: the clause of each handle in use, the handles that watch each literal,
-- and the numbers of used words and of all words.
use Rattle.std.specs.Prelude.{◌≡◌, ℕ, ◌+◌, ◌<◌, ◌≤◌, ◌↔◌, ◌⊎◌, ⊤, List, [], ◌∷◌, Option, Some, None, length, slice_index, slice_index_or, slice_get, slice_set, replicate, map, filter, not, sum_by, if◌then◌else◌, ◌==◌, All, IsSome}
use Rattle.std.specs.List.{swap}

pub record PoolValue : Type 0 where
  pub clauses : List (Option (List ℕ))
  pub watches : List (List ℕ)
  pub used : ℕ
  pub words : ℕ

-- the clause of a handle, None where it is not in use
abbrev pub clause_at : List (Option (List ℕ)) → ℕ → Option (List ℕ)
clause_at clauses clause = slice_index_or clauses clause None

abbrev pub or_empty : Option (List ℕ) → List ℕ
or_empty None = []
or_empty (Some literals) = literals

abbrev pub literals_at : List (Option (List ℕ)) → ℕ → List ℕ
literals_at clauses clause = or_empty (clause_at clauses clause)

-- the handles that watch a literal, in the order of its list
abbrev pub list_at : List (List ℕ) → ℕ → List ℕ
list_at lists literal = slice_index_or lists literal []

abbrev pub IsIn : ℕ → List ℕ → Type 0
IsIn x [] = ⊥
IsIn x (y ∷ rest) = (x ≡ y) ⊎ IsIn x rest

-- no number stands twice in the list
abbrev pub NoneTwice : List ℕ → Type 0
NoneTwice [] = ⊤
NoneTwice (x ∷ rest) = (IsIn x rest → ⊥) × NoneTwice rest

abbrev pub IsInNone : ℕ → List (List ℕ) → Type 0
IsInNone clause lists = (literal : ℕ) → literal < length lists → IsIn clause (list_at lists literal) → ⊥

-- the literal is one of the first two of a clause of two or more
pub record IsWatched (literals : List ℕ) (literal : ℕ) : Type 0 where
  pub two : 2 ≤ length literals
  pub side : (slice_index literals 0 ≡ literal) ⊎ (slice_index literals 1 ≡ literal)

-- the handle is in use, and its clause is watched at the literal
pub record IsWatching (clauses : List (Option (List ℕ))) (literal clause : ℕ) : Type 0 where
  pub literals : List ℕ
  pub found : clause_at clauses clause ≡ Some literals
  pub watched : IsWatched literals literal

-- what holds of every pool
pub record IsSound (pool : PoolValue) : Type 0 where
  pub below : (clause : ℕ) (literals : List ℕ) → clause_at pool.clauses clause ≡ Some literals → All (λ x. x < length pool.watches) literals
  pub different : (clause : ℕ) (literals : List ℕ) → clause_at pool.clauses clause ≡ Some literals → NoneTwice literals
  pub watching : (literal clause : ℕ) → literal < length pool.watches → IsIn clause (list_at pool.watches literal) ↔ IsWatching pool.clauses literal clause
  pub once : (literal : ℕ) → literal < length pool.watches → NoneTwice (list_at pool.watches literal)

-- the words that a clause of so many literals takes
abbrev pub clause_words : ℕ → ℕ
clause_words literals = literals + 3

abbrev pub words_of : Option (List ℕ) → ℕ
words_of None = 0
words_of (Some literals) = clause_words (length literals)

-- the handle is not in use
abbrev pub IsFree : PoolValue → ℕ → Type 0
IsFree pool clause = (clause < length pool.clauses) × (clause_at pool.clauses clause ≡ None)

-- there is no room for so many literals, or no free handle
abbrev pub IsFull : PoolValue → ℕ → Type 0
IsFull pool literals = (pool.words < pool.used + clause_words literals) ⊎ All IsSome pool.clauses

-- the handle put first in the list of a literal
abbrev pub with_first : List (List ℕ) → ℕ → ℕ → List (List ℕ)
with_first lists literal clause = slice_set lists literal (clause ∷ list_at lists literal)

-- the list without the handle
abbrev pub without : ℕ → List ℕ → List ℕ
without clause list = filter (λ other. not (other == clause)) list

-- the lists with the handle out of that of a literal
abbrev pub without_in : List (List ℕ) → ℕ → ℕ → List (List ℕ)
without_in lists literal clause = slice_set lists literal (without clause (list_at lists literal))

abbrev pub with_watches : List (List ℕ) → ℕ → List ℕ → List (List ℕ)
with_watches lists clause [] = lists
with_watches lists clause (only ∷ []) = lists
with_watches lists clause (first ∷ second ∷ rest) = with_first (with_first lists second clause) first clause

abbrev pub empty_pool : ℕ → ℕ → ℕ → PoolValue
empty_pool words handles literals = record {
  clauses = replicate handles None;
  watches = replicate literals [];
  used = 0;
  words = words;
}

-- the pool after each call
abbrev pub put_clause : PoolValue → ℕ → List ℕ → PoolValue
put_clause pool clause literals = record {
  clauses = slice_set pool.clauses clause (Some literals);
  watches = with_watches pool.watches clause literals;
  used = pool.used + clause_words (length literals);
  words = pool.words;
}

abbrev pub forget_clause : PoolValue → ℕ → PoolValue
forget_clause pool clause = record pool {
  clauses = slice_set pool.clauses clause None;
  watches = map (without clause) pool.watches;
}

abbrev pub compact_pool : PoolValue → PoolValue
compact_pool pool = record pool { used = sum_by words_of pool.clauses }

-- the place of a watched literal, 0 or 1
abbrev pub place_of : List ℕ → ℕ → ℕ
place_of literals literal = if slice_index literals 0 == literal then 0 else 1

-- the literal at `at` is watched in place of `watched`
abbrev pub swap_watched : PoolValue → ℕ → ℕ → ℕ → PoolValue
swap_watched pool clause watched at =
    let literals = literals_at pool.clauses clause in
    let left = without_in pool.watches watched clause in
    record pool {
      clauses = slice_set pool.clauses clause (Some (swap literals (place_of literals watched) at));
      watches = with_first left (slice_index literals at) clause;
    }

-- what follows a handle in a list
abbrev pub following : ℕ → List ℕ → Option ℕ
following clause [] = None
following clause (other ∷ rest) = if other == clause then slice_get rest 0 else following clause rest

-- what is left of a list from a handle on, nothing from None on: a walk along the list shortens it at each step
abbrev pub rest_from : Option ℕ → List ℕ → List ℕ
rest_from None list = []
rest_from (Some clause) [] = []
rest_from (Some clause) (other ∷ rest) = if other == clause then other ∷ rest else rest_from (Some clause) rest
