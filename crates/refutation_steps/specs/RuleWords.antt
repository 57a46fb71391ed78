-- What the words of a line name: a rule's number and its arguments, spelled in some way.
use Rattle.std.specs.Prelude.{◌<◌, ◌≡◌, ◌≢◌, ◌≤◌, ◌^◌, ℕ, length, List, map, MatchOption, None, Option, Some}
use Rattle.var_names.specs.declared.args.Arg.{Arg}
use Rattle.var_names.specs.declared.rule.Rule.{Rule}
use Rattle.var_names.specs.Readable.{AreArguments, IsArgument}

-- the number of a rule, or of none
abbrev pub NamesNumber : {V : Type 0} → (ℕ → V) → V → Option ℕ → Type 0
NamesNumber spell word None = (number : ℕ) → number < 2 ^ 32 → word ≢ spell number
NamesNumber spell word (Some number) = word ≡ spell number

-- an argument, or none
abbrev pub NamesArgument : {W : Type 0} → (Arg → W) → W → Option Arg → Type 0
NamesArgument spell word None = (argument : Arg) → IsArgument argument → word ≢ spell argument
NamesArgument spell word (Some argument) = word ≡ spell argument

-- at most five arguments, or not
abbrev pub NamesArguments : {W : Type 0} → (Arg → W) → List W → Option (List Arg) → Type 0
NamesArguments spell words None = (arguments : List Arg) → length arguments ≤ 5 → AreArguments arguments → words ≢ map spell arguments
NamesArguments spell words (Some arguments) = words ≡ map spell arguments

-- a rule that there is
pub record IsRule (rule : Rule) : Type 0 where
  pub number : rule.number < 2 ^ 32
  pub few : length rule.args ≤ 5
  pub arguments : AreArguments rule.args

-- the number and the arguments of a rule
abbrev pub AreWordsOf : {V W : Type 0} → (ℕ → V) → (Arg → W) → V → List W → Rule → Type 0
AreWordsOf spell_number spell word words rule = (word ≡ spell_number rule.number) × (words ≡ map spell rule.args)

-- a rule, or none
abbrev pub NamesRule : {V W : Type 0} → (ℕ → V) → (Arg → W) → V → List W → Option Rule → Type 0
NamesRule spell_number spell word words rule =
    MatchOption rule ((other : Rule) → IsRule other → ¬ (AreWordsOf spell_number spell word words other))
    (AreWordsOf spell_number spell word words)
