-- Parts of lines in bytes that are not there.
use Rattle.std.specs.Prelude.{◌++◌, ◌^◌, ◌≡◌, ◌≢◌, ℕ, List, [], ◌∷◌}
use Rattle.texts.specs.SevenBits.{HasNoNumber}
use Rattle.var_names.specs.Readable.{HasNoLiteral}
use Rattle.refutation_lines.specs.LineText.{header_bytes}
use Rattle.refutation_items.specs.declared.refusal.Reason.{Reason}
use Rattle.refutation_items.specs.declared.refusal.Reason.TheVariants.{Form}

-- what is left begins with no number below 2^65 in its shortest form
abbrev pub LacksNumber : List ℕ → Reason → Type 0
LacksNumber bytes reason = HasNoNumber (2 ^ 65) bytes × (reason ≡ Form)

-- what is left begins with no literal
abbrev pub LacksLiteral : List ℕ → Reason → Type 0
LacksLiteral bytes reason = HasNoLiteral bytes × (reason ≡ Form)

-- what is left does not begin as a refutation of so many steps does
abbrev pub HasNoHeader : ℕ → List ℕ → Type 0
HasNoHeader steps bytes = (rest : List ℕ) → bytes ≢ header_bytes steps ++ rest

abbrev pub LacksHeader : ℕ → List ℕ → Reason → Type 0
LacksHeader steps bytes reason = HasNoHeader steps bytes × (reason ≡ Form)

-- something is left
abbrev pub GoesOn : List ℕ → Reason → Type 0
GoesOn bytes reason = (bytes ≢ []) × (reason ≡ Form)

-- what is left does not begin with a byte
abbrev pub LacksByte : ℕ → List ℕ → Reason → Type 0
LacksByte byte bytes reason = ((rest : List ℕ) → bytes ≢ byte ∷ rest) × (reason ≡ Form)
