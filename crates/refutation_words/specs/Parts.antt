-- Parts of lines in words: those that are taken, and those that are not there.
use Rattle.std.specs.Prelude.{◌++◌, ◌<◌, ◌≡◌, ◌≢◌, ◌^◌, ℕ, Bool, codes, List, [], ◌∷◌, MatchBool, None, Option, Some, ⊤}
use Rattle.std.specs.Fmt.{decimal}
use Rattle.std.specs.Option.{IfSome}
use Rattle.sources.specs.Leaving.{Takes}
use Rattle.var_names.specs.declared.args.Arg.{Arg}
use Rattle.var_names.specs.LiteralText.{argument_text, literal_text}
use Rattle.var_names.specs.Readable.{IsArgument, IsLiteral}
use Rattle.refutation_lines.specs.LineText.{header_text}
use Rattle.refutation_items.specs.declared.refusal.Reason.{Reason}
use Rattle.refutation_items.specs.declared.refusal.Reason.TheVariants.{Form}
use Rattle.refutation_words.specs.declared.parts.ClauseWord.{ClauseWord}
use Rattle.refutation_words.specs.declared.parts.ClauseWord.TheVariants.{Literal, Colon}
use Rattle.refutation_words.specs.declared.parts.Gap.{Gap}
use Rattle.refutation_words.specs.declared.parts.Gap.TheVariants.{Word, LineEnd, Wrong}
use Rattle.refutation_words.specs.Words.{HasFurtherWord, IsArgumentWord, IsEnded, IsNumeral, IsWordByte}

-- no word of a kind begins the bytes behind a blank
abbrev pub HasNone : (List ℕ → Type 0) → List ℕ → Type 0
HasNone IsKind bytes = (word rest : List ℕ) → IsKind word → IsEnded rest → bytes ≢ 32 ∷ (word ++ rest)

abbrev pub Lacks : (List ℕ → Type 0) → List ℕ → Reason → Type 0
Lacks IsKind bytes reason = HasNone IsKind bytes × (reason ≡ Form)

-- a word of a kind was taken behind a blank
pub record TakesWord (IsKind : List ℕ → Type 0) (old new : Option (List ℕ)) (word : List ℕ) : Type 0 where
  pub is : IsKind word
  pub taken : Takes old new (32 ∷ word)
  pub ended : IfSome new IsEnded

-- the number of 64 bits that a word spells, or none
abbrev pub SpellsNumber : List ℕ → Option ℕ → Type 0
SpellsNumber word None = (number : ℕ) → number < 2 ^ 64 → word ≢ decimal number
SpellsNumber word (Some number) = (number < 2 ^ 64) × (word ≡ decimal number)

-- a number was taken behind a blank
pub record TakesNumber (old new : Option (List ℕ)) (number : Option ℕ) : Type 0 where
  pub word : List ℕ
  pub takes : TakesWord IsNumeral old new word
  pub spelled : SpellsNumber word number

-- the argument that a word spells, or none
abbrev pub SpellsArgument : List ℕ → Option Arg → Type 0
SpellsArgument word None = (argument : Arg) → IsArgument argument → word ≢ argument_text argument
SpellsArgument word (Some argument) = IsArgument argument × (word ≡ argument_text argument)

-- an argument of a rule was taken behind a blank
pub record TakesArgument (old new : Option (List ℕ)) (argument : Option Arg) : Type 0 where
  pub word : List ℕ
  pub takes : TakesWord IsArgumentWord old new word
  pub spelled : SpellsArgument word argument

-- a word of a clause before its hints
abbrev pub clause_word_text : ClauseWord → List ℕ
clause_word_text (Literal literal) = literal_text literal
clause_word_text Colon = codes ":"

abbrev pub FitsClause : ClauseWord → Type 0
FitsClause (Literal literal) = IsLiteral literal
FitsClause Colon = ⊤

-- which word of a clause a word is
pub record IsClauseWordOf (word : List ℕ) (kind : ClauseWord) : Type 0 where
  pub fits : FitsClause kind
  pub text : word ≡ clause_word_text kind

abbrev pub IsClauseWord : List ℕ → Type 0
IsClauseWord word = (kind : ClauseWord) × IsClauseWordOf word kind

-- a word of a clause was taken behind a blank
pub record TakesClauseWord (old new : Option (List ℕ)) (kind : ClauseWord) : Type 0 where
  pub fits : FitsClause kind
  pub takes : TakesWord IsClauseWord old new (clause_word_text kind)

-- behind one blank comes a byte of a word
pub record BeginsWord (bytes : List ℕ) : Type 0 where
  pub byte : ℕ
  pub rest : List ℕ
  pub begins : bytes ≡ 32 ∷ byte ∷ rest
  pub is : IsWordByte byte

-- neither a word behind one blank nor a line feed comes next
pub record HasNoGap (bytes : List ℕ) : Type 0 where
  pub no_line_end : (rest : List ℕ) → bytes ≢ 10 ∷ rest
  pub no_word : ¬ (BeginsWord bytes)

-- whether a further word stands in the line
abbrev pub IsFurther : Bool → List ℕ → Type 0
IsFurther further bytes = MatchBool further (HasFurtherWord bytes) (¬ (HasFurtherWord bytes))

-- what follows a word of a line
abbrev pub IsGap : Option (List ℕ) → Option (List ℕ) → Gap → Type 0
IsGap old new Word = (new ≡ old) × IfSome old BeginsWord
IsGap old new LineEnd = Takes old new (10 ∷ [])
IsGap old new (Wrong further) = IfSome old (λ bytes. HasNoGap bytes × IsFurther further bytes)

-- a text does not begin the bytes
abbrev pub LacksText : List ℕ → List ℕ → Reason → Type 0
LacksText text bytes reason = ((rest : List ℕ) → bytes ≢ text ++ rest) × (reason ≡ Form)

-- what is left does not begin as a refutation of so many steps does
abbrev pub HasNoHeader : ℕ → List ℕ → Type 0
HasNoHeader steps bytes = (rest : List ℕ) → bytes ≢ header_text steps ++ rest

abbrev pub LacksHeader : ℕ → List ℕ → Reason → Type 0
LacksHeader steps bytes reason = HasNoHeader steps bytes × (reason ≡ Form)
