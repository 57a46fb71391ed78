-- What the words ask (docs/TEXTS.md, "Command lines").
use Rattle.std.specs.Prelude.{◌≡◌, ℕ, List, Some, slice_get, ⊤}
use Rattle.line_text.specs.CommandLine.{CommandLine}
use Rattle.line_text.specs.declared.command.Command.{Command}
use Rattle.line_text.specs.declared.command.Command.TheVariants.{Decide, CheckAllowed, CheckForbidden, Show, Generate}
use Rattle.verdict.specs.declared.request.Question.{Question}
use Rattle.verdict.specs.declared.request.Request.{Request}
use Rattle.verdict.specs.declared.request.Request.TheVariants as request

-- the place of SEQ among the words of `decide`
abbrev pub seq_place : ℕ
seq_place = 5

-- the place of the first class file among the words of `decide`
abbrev pub decide_classes : ℕ
decide_classes = 7

-- and among those of `show`
abbrev pub show_classes : ℕ
show_classes = 1

-- the words are those of `decide` with this question: SEQ is word 5, REF word 6, and the class files begin at word 7
abbrev pub AsksDecide : List (List ℕ) → Question → Type 0
AsksDecide words q = CommandLine (Decide q.bounds q.budget q.outcome seq_place 6 decide_classes) words

-- the words are those of `show`: the class files begin at word 1
abbrev pub AsksShow : List (List ℕ) → Type 0
AsksShow words = CommandLine (Show show_classes) words

-- a command of which no part is built
abbrev pub IsUnbuilt : Command → Type 0
IsUnbuilt (Decide bounds budget outcome seq refutation classes) = ⊥
IsUnbuilt (CheckAllowed bounds outcome seq classes) = ⊤
IsUnbuilt (CheckForbidden bounds outcome refutation classes) = ⊤
IsUnbuilt (Show classes) = ⊥
IsUnbuilt (Generate number seq refutation) = ⊤

-- the words are those of such a command
pub record AsksUnbuilt (words : List (List ℕ)) : Type 0 where
  pub command : Command
  pub line : CommandLine command words
  pub unbuilt : IsUnbuilt command

-- the words ask this
abbrev pub AsksFor : List (List ℕ) → Request → Type 0
AsksFor words (request.Decide question) = AsksDecide words question
AsksFor words request.Show = AsksShow words
AsksFor words request.Unbuilt = AsksUnbuilt words

-- the words are not those of `decide`
abbrev pub AsksNoDecide : List (List ℕ) → Type 0
AsksNoDecide words = (q : Question) → AsksDecide words q → ⊥

-- the words name class files from this one on, for `decide` or for `show`
pub data NamesClasses (words : List (List ℕ)) (from : ℕ) : Type 0 where
  for_decide : (q : Question) → AsksDecide words q → from ≡ decide_classes → NamesClasses words from
  for_show : AsksShow words → from ≡ show_classes → NamesClasses words from

-- the word at a place is this one
abbrev pub IsWord : List (List ℕ) → ℕ → List ℕ → Type 0
IsWord words place word = slice_get words place ≡ Some word
