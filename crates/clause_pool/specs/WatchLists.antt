-- What the links of the clauses mean: a list of handles for each literal, linked both ways.
use Rattle.std.specs.Prelude.{◌≡◌, ◌≢◌, ℕ, zero, suc, ◌+◌, ◌<◌, ◌⊎◌, List, [], ◌∷◌, Option, Some, None, length, map, slice_index, slice_index_or, slice_set, if◌then◌else◌, ◌==◌}
use Rattle.clause_pool.specs.Blocks.{Block, block_in, next_at}
use Rattle.clause_pool.specs.PoolValue.{PoolValue, IsIn, NoneTwice, IsWatching, IsSound, literals_at, list_at}
use Rattle.clause_pool.specs.declared.lists.Previous.{Previous}
use Rattle.clause_pool.specs.declared.lists.WatchLists.{WatchLists}
use Rattle.clause_pool.specs.declared.region.Side.{Side}
use Rattle.clause_pool.specs.declared.region.Side.TheVariants.{First, Second}

abbrev pub clause_in : Option Block → Option (List ℕ)
clause_in None = None
clause_in (Some block) = Some block.literals

abbrev pub clauses_of : List (Option Block) → List (Option (List ℕ))
clauses_of blocks = map clause_in blocks

-- at which side of a clause a literal is watched
abbrev pub side_in : List ℕ → ℕ → Option Side
side_in literals literal =
    if slice_index literals 0 == literal then Some First else (if slice_index literals 1 == literal then Some Second else None)

abbrev pub place_on : Side → ℕ
place_on First = 0
place_on Second = 1

abbrev pub side_of : List (Option (List ℕ)) → ℕ → ℕ → Option Side
side_of clauses literal clause = side_in (literals_at clauses clause) literal

abbrev pub next_on : Option Side → Option Block → Option ℕ
next_on None block = None
next_on (Some side) block = next_at side block

-- the clause after a clause in the list of a literal
abbrev pub next_of : List (Option Block) → ℕ → ℕ → Option ℕ
next_of blocks literal clause = next_on (side_of (clauses_of blocks) literal clause) (block_in blocks clause)

abbrev pub no_previous : Previous
no_previous = record { first = None; second = None }

abbrev pub before_at : Side → Previous → Option ℕ
before_at First previous = previous.first
before_at Second previous = previous.second

abbrev pub before_on : Option Side → Previous → Option ℕ
before_on None previous = None
before_on (Some side) previous = before_at side previous

-- the clause before a clause in the list of a literal
abbrev pub before_of : List (Option (List ℕ)) → List Previous → ℕ → ℕ → Option ℕ
before_of clauses previous literal clause = before_on (side_of clauses literal clause) (slice_index_or previous clause no_previous)

-- the links lead along the list and end with it, and those back lead to the one before
abbrev pub IsChain : (ℕ → Option ℕ) → (ℕ → Option ℕ) → Option ℕ → Option ℕ → List ℕ → Type 0
IsChain next before from link [] = link ≡ None
IsChain next before from link (clause ∷ rest) =
    (link ≡ Some clause) × (before clause ≡ from) × IsChain next before (Some clause) (next clause) rest

-- the handles that are reached from a link in so many steps
abbrev pub walk : ℕ → (ℕ → Option ℕ) → Option ℕ → List ℕ
walk steps next None = []
walk zero next (Some clause) = []
walk (suc steps) next (Some clause) = clause ∷ walk steps next (next clause)

abbrev pub lists_from : List (Option Block) → ℕ → List (Option ℕ) → List (List ℕ)
lists_from blocks literal [] = []
lists_from blocks literal (head ∷ heads) = walk (length blocks) (next_of blocks literal) head ∷ lists_from blocks (literal + 1) heads

abbrev pub watch_lists : WatchLists → List (List ℕ)
watch_lists lists = lists_from lists.region.blocks 0 lists.heads.items

pub record IsLinked (clauses : List (Option (List ℕ))) (next before : ℕ → ℕ → Option ℕ) (heads : List (Option ℕ)) (lists : List (List ℕ)) : Type 0 where
  pub same_length : length lists ≡ length heads
  pub chains : (literal : ℕ) → literal < length heads → IsChain (next literal) (before literal) None (slice_index_or heads literal None) (list_at lists literal)
  pub watching : (literal clause : ℕ) → literal < length heads → IsIn clause (list_at lists literal) → IsWatching clauses literal clause
  pub once : (literal : ℕ) → literal < length heads → NoneTwice (list_at lists literal)

-- the links of the watch lists make these lists
pub record IsLinkedAs (lists : WatchLists) (handles : List (List ℕ)) : Type 0 where
  pub linked : IsLinked (clauses_of lists.region.blocks) (next_of lists.region.blocks) (before_of (clauses_of lists.region.blocks) lists.previous.items) lists.heads.items handles
  pub previous_fit : length lists.previous.items ≡ length lists.region.blocks

abbrev pub pool_value : WatchLists → PoolValue
pool_value lists = record {
  clauses = clauses_of lists.region.blocks;
  watches = watch_lists lists;
  used = lists.region.used;
  words = lists.region.words;
}

pub record IsPool (lists : WatchLists) : Type 0 where
  pub linked : IsLinkedAs lists (watch_lists lists)
  pub sound : IsSound (pool_value lists)

-- what a change of links leaves
pub record KeepsClauses (old new : WatchLists) : Type 0 where
  pub clauses : clauses_of new.region.blocks ≡ clauses_of old.region.blocks
  pub used : new.region.used ≡ old.region.used
  pub words : new.region.words ≡ old.region.words

-- the heads where what comes before is None, which stands for the head of the list
abbrev pub heads_after : Option ℕ → List (Option ℕ) → ℕ → Option ℕ → List (Option ℕ)
heads_after None heads literal link = slice_set heads literal link
heads_after (Some clause) heads literal link = heads

pub record RelinksAfter (clauses : List (Option (List ℕ))) (old new : List (Option Block)) (literal : ℕ) (before link : Option ℕ) : Type 0 where
  pub here : (clause : ℕ) → before ≡ Some clause → next_of new literal clause ≡ link
  pub others : (other_literal other : ℕ) → IsWatching clauses other_literal other → (other_literal ≢ literal) ⊎ (before ≢ Some other) → next_of new other_literal other ≡ next_of old other_literal other

pub record SetsAfter (old new : WatchLists) (literal : ℕ) (before link : Option ℕ) : Type 0 where
  pub links : RelinksAfter (clauses_of old.region.blocks) old.region.blocks new.region.blocks literal before link
  pub keeps : KeepsClauses old new
  pub heads : new.heads.items ≡ heads_after before old.heads.items literal link
  pub previous : new.previous.items ≡ old.previous.items

abbrev pub with_before : Side → Option ℕ → Previous → Previous
with_before First before previous = record previous { first = before }
with_before Second before previous = record previous { second = before }

pub record RelinksBefore (clauses : List (Option (List ℕ))) (old new : List Previous) (literal : ℕ) (link before : Option ℕ) : Type 0 where
  pub here : (clause : ℕ) → link ≡ Some clause → before_of clauses new literal clause ≡ before
  pub others : (other_literal other : ℕ) → IsWatching clauses other_literal other → (other_literal ≢ literal) ⊎ (link ≢ Some other) → before_of clauses new other_literal other ≡ before_of clauses old other_literal other

pub record SetsBefore (old new : WatchLists) (literal : ℕ) (link before : Option ℕ) : Type 0 where
  pub links : RelinksBefore (clauses_of old.region.blocks) old.previous.items new.previous.items literal link before
  pub region : new.region ≡ old.region
  pub heads : new.heads.items ≡ old.heads.items
  pub previous_fit : length new.previous.items ≡ length old.previous.items

-- every clause that a link leads to is watched at the literal
abbrev pub LeadsToWatching : List (Option (List ℕ)) → ℕ → Option ℕ → Type 0
LeadsToWatching clauses literal link = (clause : ℕ) → link ≡ Some clause → IsWatching clauses literal clause
