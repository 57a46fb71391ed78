-- The words that stand for a link to a clause or for none.
use Rattle.std.specs.Prelude.{ℕ, Option, Some, None, if◌then◌else◌, ◌==◌}

-- the word of no link; no handle has this number
abbrev pub no_link : ℕ
no_link = 4294967295

abbrev pub link_of : ℕ → Option ℕ
link_of word = if word == no_link then None else Some word

abbrev pub word_of : Option ℕ → ℕ
word_of None = no_link
word_of (Some clause) = clause
