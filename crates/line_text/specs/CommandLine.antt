-- Command lines: the name of a command, its fields, and the names of its files.
use Rattle.std.specs.Prelude.{◌++◌, ◌<◌, ◌≡◌, ◌≢◌, ◌≤◌, ◌^◌, ℕ, ◌∷◌, All, AllPairs, codes, length, List, take, ⊤}
use Rattle.std.specs.Fmt.{decimal}
use Rattle.line_text.specs.declared.command.Command.{Command}
use Rattle.line_text.specs.declared.command.Command.TheVariants.{Decide, CheckAllowed, CheckForbidden, Show, Generate}
use Rattle.line_text.specs.declared.command.WordsRefusal.{WordsRefusal}
use Rattle.line_text.specs.declared.command.WordsRefusal.TheVariants.{Usage, Memory}
use Rattle.line_text.specs.Bounds.{IsBounds}
use Rattle.line_text.specs.OutcomeText.{OutcomeText}

-- names of files: none is empty, no two are equal, and there are so many of them
pub record AreFiles (least most : ℕ) (files : List (List ℕ)) : Type 0 where
  pub named : All (λ file. 0 < length file) files
  pub distinct : AllPairs (λ earlier later. earlier ≢ later) files
  pub least_many : least ≤ length files
  pub most_many : length files ≤ most

-- the words of a command. A file is named by the place of its word, and `classes` is the place of the first class file.
abbrev pub CommandLine : Command → List (List ℕ) → Type 0
CommandLine (Decide bounds budget outcome seq refutation classes) words =
    (files : List (List ℕ)) × (text : List ℕ)
    × (words ≡ codes "decide" ∷ decimal bounds.jumps ∷ decimal bounds.width ∷ decimal budget ∷ text ∷ files)
    × IsBounds bounds × (budget < 2 ^ 64) × OutcomeText outcome text × AreFiles 3 66 files
    × (seq ≡ 5) × (refutation ≡ 6) × (classes ≡ 7)
CommandLine (CheckAllowed bounds outcome seq classes) words =
    (files : List (List ℕ)) × (text : List ℕ)
    × (words ≡ codes "check-allowed" ∷ decimal bounds.jumps ∷ decimal bounds.width ∷ text ∷ files)
    × IsBounds bounds × OutcomeText outcome text × AreFiles 2 65 files × (seq ≡ 4) × (classes ≡ 5)
CommandLine (CheckForbidden bounds outcome refutation classes) words =
    (files : List (List ℕ)) × (text : List ℕ)
    × (words ≡ codes "check-forbidden" ∷ decimal bounds.jumps ∷ decimal bounds.width ∷ text ∷ files)
    × IsBounds bounds × OutcomeText outcome text × AreFiles 2 65 files × (refutation ≡ 4) × (classes ≡ 5)
CommandLine (Show classes) words =
    (files : List (List ℕ)) × (words ≡ codes "show" ∷ files) × AreFiles 1 64 files × (classes ≡ 1)
CommandLine (Generate number seq refutation) words =
    (files : List (List ℕ)) × (words ≡ codes "generate" ∷ decimal number ∷ files)
    × (number ≤ 767) × AreFiles 2 2 files × (seq ≡ 2) × (refutation ≡ 3)

-- some command line begins with these words
pub record BeginsCommand (words : List (List ℕ)) : Type 0 where
  pub command : Command
  pub rest : List (List ℕ)
  pub whole : CommandLine command (words ++ rest)

-- no command has these words, and this is the place of the first that fits none: the length of the longest list of first
-- words with which some command line begins
pub record IsUsageAt (words : List (List ℕ)) (word : ℕ) : Type 0 where
  pub fault : (command : Command) → ¬ (CommandLine command words)
  pub within : word ≤ length words
  pub begins : BeginsCommand (take word words)
  pub longest : (more : ℕ) → word < more → more ≤ length words → ¬ (BeginsCommand (take more words))

-- the cause of a refusal; want of memory has none
abbrev pub IsRefusedFor : List (List ℕ) → WordsRefusal → Type 0
IsRefusedFor words (Usage word) = IsUsageAt words word
IsRefusedFor words Memory = ⊤
