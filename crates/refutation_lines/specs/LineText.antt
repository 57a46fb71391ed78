-- The texts of lines: version 1 in words, version 2 in bytes.
use Rattle.std.specs.Prelude.{◌++◌, ◌≡◌, ◌⊎◌, ℕ, codes, length, List, ◌∷◌, []}
use Rattle.std.specs.Fmt.{decimal}
use Rattle.std.specs.List.{flat_map}
use Rattle.texts.specs.SevenBits.{seven_bits}
use Rattle.var_names.specs.declared.args.Arg.{Arg}
use Rattle.var_names.specs.declared.var.Lit.{Lit}
use Rattle.var_names.specs.LiteralText.{argument_bytes, argument_text, literal_bytes, literal_text}
use Rattle.refutation_lines.specs.declared.line.Line.{Line}
use Rattle.refutation_lines.specs.declared.line.Line.TheVariants.{Instance, Clause, Deletion}

-- words with a blank before each
abbrev pub blank_argument : Arg → List ℕ
blank_argument argument = 32 ∷ argument_text argument

abbrev pub blank_literal : Lit → List ℕ
blank_literal literal = 32 ∷ literal_text literal

abbrev pub blank_number : ℕ → List ℕ
blank_number number = 32 ∷ decimal number

-- a line in words: `r RULE ARGUMENTS`, `c LITERALS : HINTS`, `d NUMBERS`
abbrev pub line_text : Line → List ℕ
line_text (Instance rule) = codes "r " ++ decimal rule.number ++ flat_map blank_argument rule.args ++ codes "\n"
line_text (Clause literals hints) =
    codes "c" ++ flat_map blank_literal literals ++ codes " :" ++ flat_map blank_number hints ++ codes "\n"
line_text (Deletion numbers) = codes "d" ++ flat_map blank_number numbers ++ codes "\n"

-- the first line in words
abbrev pub header_text : ℕ → List ℕ
header_text steps = codes "jmm-refutation 1 " ++ decimal steps ++ codes "\n"

-- a list in bytes: how many items there are, and then these
abbrev pub counted : {A : Type 0} → (A → List ℕ) → List A → List ℕ
counted bytes items = seven_bits (length items) ++ flat_map bytes items

-- a clause in bytes: 2, the literals and the hints
abbrev pub clause_bytes : {A : Type 0} → (A → List ℕ) → List A → List ℕ → List ℕ
clause_bytes bytes literals hints = (2 ∷ []) ++ counted bytes literals ++ counted seven_bits hints

-- a line in bytes: 1, the rule's number and its arguments; a clause; 3, the numbers
abbrev pub line_bytes : Line → List ℕ
line_bytes (Instance rule) = (1 ∷ []) ++ seven_bits rule.number ++ counted argument_bytes rule.args
line_bytes (Clause literals hints) = clause_bytes literal_bytes literals hints
line_bytes (Deletion numbers) = (3 ∷ []) ++ counted seven_bits numbers

-- the beginning in bytes: 4a 4d 52 32, and the number of steps
abbrev pub header_bytes : ℕ → List ℕ
header_bytes steps = (74 ∷ 77 ∷ 82 ∷ 50 ∷ []) ++ seven_bits steps

abbrev pub text_1 : ℕ → List Line → List ℕ
text_1 steps lines = header_text steps ++ flat_map line_text lines

abbrev pub text_2 : ℕ → List Line → List ℕ
text_2 steps lines = header_bytes steps ++ flat_map line_bytes lines

-- the bytes are the text of the lines in either version
abbrev pub IsTextOf : ℕ → List Line → List ℕ → Type 0
IsTextOf steps lines bytes = (bytes ≡ text_1 steps lines) ⊎ (bytes ≡ text_2 steps lines)
