-- What the words of the region and the entries of its table mean: a block for each handle in use.
use Rattle.std.specs.Prelude.{◌≡◌, ℕ, ◌+◌, ◌<◌, ◌≤◌, ◌^◌, ◌⊎◌, ⊤, List, [], ◌∷◌, Option, Some, None, length, take, drop, map, slice_index, slice_index_or, slice_set, replicate, sum_by}
use Rattle.std.specs.List.{swap}
use Rattle.clause_pool.specs.Links.{no_link, link_of}
use Rattle.clause_pool.specs.PoolValue.{IsIn, NoneTwice}
use Rattle.clause_pool.specs.declared.region.Entry.{Entry}
use Rattle.clause_pool.specs.declared.region.Entry.TheVariants.{Free, Taken}
use Rattle.clause_pool.specs.declared.region.Side.{Side}
use Rattle.clause_pool.specs.declared.region.Side.TheVariants.{First, Second}

-- a clause and the next clauses in the watch lists of its first and of its second literal
pub record Block : Type 0 where
  pub first_next : Option ℕ
  pub second_next : Option ℕ
  pub literals : List ℕ

-- the block of each handle, the used words and all words
pub record RegionValue : Type 0 where
  pub blocks : List (Option Block)
  pub used : ℕ
  pub words : ℕ

abbrev pub block_in : List (Option Block) → ℕ → Option Block
block_in blocks clause = slice_index_or blocks clause None

abbrev pub literals_in : Option Block → List ℕ
literals_in None = []
literals_in (Some block) = block.literals

abbrev pub literals_of : List (Option Block) → ℕ → List ℕ
literals_of blocks clause = literals_in (block_in blocks clause)

abbrev pub next_at : Side → Option Block → Option ℕ
next_at side None = None
next_at First (Some block) = block.first_next
next_at Second (Some block) = block.second_next

abbrev pub with_next : Side → Option ℕ → Option Block → Option Block
with_next side link None = None
with_next First link (Some block) = Some (record block { first_next = link })
with_next Second link (Some block) = Some (record block { second_next = link })

abbrev pub with_swapped : ℕ → ℕ → Option Block → Option Block
with_swapped i j None = None
with_swapped i j (Some block) = Some (record block { literals = swap block.literals i j })

-- a clause in no list
abbrev pub new_block : List ℕ → Option Block
new_block literals = Some (record { first_next = None; second_next = None; literals = literals })

-- the words that a clause of so many literals takes
abbrev pub words_for : ℕ → ℕ
words_for literals = literals + 3

abbrev pub block_words : Option Block → ℕ
block_words None = 0
block_words (Some block) = words_for (length block.literals)

-- the region as a whole after each call
abbrev pub replaced : RegionValue → ℕ → Option Block → RegionValue
replaced region clause block = record region { blocks = slice_set region.blocks clause block }

abbrev pub put_block : RegionValue → ℕ → List ℕ → RegionValue
put_block region clause literals = record {
  blocks = slice_set region.blocks clause (new_block literals);
  used = region.used + words_for (length literals);
  words = region.words;
}

abbrev pub compacted : RegionValue → RegionValue
compacted region = record region { used = sum_by block_words region.blocks }

abbrev pub empty_region : ℕ → ℕ → RegionValue
empty_region words handles = record { blocks = replicate handles None; used = 0; words = words }

-- from here on the layout: a clause's words are its handle, its two links and its literals
abbrev pub entry_at : List Entry → ℕ → Entry
entry_at entries clause = slice_index_or entries clause (Free None)

abbrev pub IsTaken : Entry → Type 0
IsTaken (Free next) = ⊥
IsTaken (Taken place count) = ⊤

abbrev pub IsFreeEntry : Entry → Type 0
IsFreeEntry (Free next) = ⊤
IsFreeEntry (Taken place count) = ⊥

abbrev pub entry_words : Entry → ℕ
entry_words (Free next) = 0
entry_words (Taken place count) = words_for count

abbrev pub block_from : List ℕ → ℕ → ℕ → Block
block_from words place count = record {
  first_next = link_of (slice_index words (place + 1));
  second_next = link_of (slice_index words (place + 2));
  literals = take count (drop (place + 3) words);
}

abbrev pub block_of : List ℕ → Entry → Option Block
block_of words (Free next) = None
block_of words (Taken place count) = Some (block_from words place count)

-- one piece of the region: the clause of a handle, or what is left of one that was forgotten
pub data Piece : Type 0 where
  Live : ℕ → ℕ → Piece
  Dead : ℕ → Piece

abbrev pub IsLive : ℕ → List Piece → Type 0
IsLive clause [] = ⊥
IsLive clause (Live other count ∷ pieces) = (clause ≡ other) ⊎ IsLive clause pieces
IsLive clause (Dead count ∷ pieces) = IsLive clause pieces

abbrev pub live_words : List Piece → ℕ
live_words [] = 0
live_words (Live clause count ∷ pieces) = words_for count + live_words pieces
live_words (Dead count ∷ pieces) = live_words pieces

-- the pieces lie one after another from `from` to `end`
abbrev pub Tiles : List ℕ → List Entry → ℕ → ℕ → List Piece → Type 0
Tiles words entries from end [] = from ≡ end
Tiles words entries from end (Live clause count ∷ pieces) =
    (slice_index words from ≡ clause) × (entry_at entries clause ≡ Taken from count) × Tiles words entries (from + words_for count) end pieces
Tiles words entries from end (Dead count ∷ pieces) =
    (slice_index words from ≡ no_link) × (slice_index words (from + 1) ≡ count) × Tiles words entries (from + words_for count) end pieces

-- the free handles, each with the next one
abbrev pub IsFreeChain : List Entry → Option ℕ → List ℕ → Type 0
IsFreeChain entries link [] = link ≡ None
IsFreeChain entries link (clause ∷ rest) =
    (link ≡ Some clause) × (clause < length entries) × ((next : Option ℕ) × (entry_at entries clause ≡ Free next) × IsFreeChain entries next rest)

pub record IsTiled (words : List ℕ) (entries : List Entry) (end : ℕ) : Type 0 where
  pub pieces : List Piece
  pub tiles : Tiles words entries 0 end pieces
  pub all_live : (clause place count : ℕ) → entry_at entries clause ≡ Taken place count → IsLive clause pieces
  pub total : sum_by entry_words entries ≡ live_words pieces

pub record IsFreeList (entries : List Entry) (free : Option ℕ) : Type 0 where
  pub handles : List ℕ
  pub chain : IsFreeChain entries free handles
  pub distinct : NoneTwice handles
  pub all_free : (clause : ℕ) (next : Option ℕ) → clause < length entries → entry_at entries clause ≡ Free next → IsIn clause handles

pub record IsRegion (words : List ℕ) (entries : List Entry) (used : ℕ) (free : Option ℕ) : Type 0 where
  pub tiled : IsTiled words entries used
  pub free_list : IsFreeList entries free
  pub within : used ≤ length words
  pub words_fit : length words < 2 ^ 32
  pub handles_fit : length entries < 2 ^ 32

-- the words with a clause at `place`, in no list
pub record WritesBlock (old new : List ℕ) (place clause : ℕ) (literals : List ℕ) : Type 0 where
  pub below : (i : ℕ) → i < place → slice_index new i ≡ slice_index old i
  pub handle : slice_index new place ≡ clause
  pub first : slice_index new (place + 1) ≡ no_link
  pub second : slice_index new (place + 2) ≡ no_link
  pub written : take (length literals) (drop (place + 3) new) ≡ literals

-- what each step of a compaction leaves
pub record SameBlocks (old new : List ℕ) (from to : List Entry) : Type 0 where
  pub blocks : map (block_of new) to ≡ map (block_of old) from
  pub free_list : (free : Option ℕ) → IsFreeList from free → IsFreeList to free
  pub same_length : length new ≡ length old

-- the clauses of the words before `from` were moved to the front and end at `to`
pub record IsHalfCompacted (words : List ℕ) (entries : List Entry) (from to end : ℕ) : Type 0 where
  pub done : List Piece
  pub rest : List Piece
  pub moved : Tiles words entries 0 to done
  pub left : Tiles words entries from end rest
  pub all_live : (clause place count : ℕ) → entry_at entries clause ≡ Taken place count → IsLive clause done ⊎ IsLive clause rest
  pub total : live_words done ≡ to
  pub both : sum_by entry_words entries ≡ to + live_words rest
  pub behind : to ≤ from
  pub within : end ≤ length words
  pub words_fit : length words < 2 ^ 32
  pub handles_fit : length entries < 2 ^ 32
