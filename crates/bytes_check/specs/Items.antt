-- The items of a refutation in bytes that are wrong, and why. The first fault counts, by the numbers and literals of an
-- item in their order; a bad rule, a missing hint and a last hint that is not false are faults at its end.
use Rattle.std.specs.Prelude.{◌++◌, ◌+◌, ◌<◌, ◌==◌, ◌^◌, ◌≡◌, ◌≢◌, ◌⊎◌, ℕ, All, length, List, [], ◌∷◌, map}
use Rattle.std.specs.List.{flat_map}
use Rattle.texts.specs.SevenBits.{HasNoNumber, seven_bits}
use Rattle.var_names.specs.declared.var.Lit.{Lit}
use Rattle.var_names.specs.Formulas.{RuledClause}
use Rattle.var_names.specs.LiteralText.{argument_number, literal_bytes}
use Rattle.var_names.specs.Readable.{IsLiteral}
use Rattle.refutation_lines.specs.LineText.{counted}
use Rattle.refutation_lines.specs.Propagation.{Clauses, negation}
use Rattle.refutation_lines.specs.Refutations.{IsClause, TakesOut}
use Rattle.refutation_items.specs.declared.refusal.Reason.{Reason}
use Rattle.refutation_items.specs.declared.refusal.Reason.TheVariants.{Form, BadRule, HintNotUnit, HintUnknown, NoEmptyClause}
use Rattle.refutation_check.specs.declared.hints.HintRefusal.{HintRefusal}
use Rattle.refutation_check.specs.declared.hints.HintRefusal.TheVariants.{NotUnit, Unknown}
use Rattle.refutation_steps.specs.HintSteps.{FollowsAll, IsWrongHint}
use Rattle.refutation_steps.specs.Instances.{NamesNone}

-- only numbers below 2^65 are read
abbrev pub IsShort : ℕ → Type 0
IsShort n = n < 2 ^ 65

-- a list of so few items, each of which can be read
abbrev pub AreReadable : {A : Type 0} → (A → Type 0) → List A → Type 0
AreReadable Fits items = IsShort (length items) × All Fits items

-- a rule's number and its arguments by number
abbrev pub rule_bytes : ℕ → List ℕ → List ℕ
rule_bytes number arguments = seven_bits number ++ counted seven_bits arguments

-- no rule's number and arguments begin the bytes
abbrev pub HasNoRule : List ℕ → Type 0
HasNoRule bytes = (number : ℕ) (arguments rest : List ℕ) → IsShort number → AreReadable IsShort arguments
    → bytes ≢ rule_bytes number arguments ++ rest

-- a rule's number and arguments that name no instance
pub record BeginsBadRule (instances : List RuledClause) (bytes : List ℕ) : Type 0 where
  pub number : ℕ
  pub arguments : List ℕ
  pub rest : List ℕ
  pub short : IsShort number
  pub readable : AreReadable IsShort arguments
  pub begins : bytes ≡ rule_bytes number arguments ++ rest
  pub names_none : NamesNone (λ n. n) argument_number instances number arguments

-- what is wrong with the item of a rule, behind its first byte
abbrev pub IsWrongRule : List RuledClause → List ℕ → Reason → Type 0
IsWrongRule instances bytes Form = HasNoRule bytes
IsWrongRule instances bytes BadRule = BeginsBadRule instances bytes
IsWrongRule instances bytes HintNotUnit = ⊥
IsWrongRule instances bytes HintUnknown = ⊥
IsWrongRule instances bytes NoEmptyClause = ⊥

-- no literals of a clause begin the bytes
abbrev pub HasNoClause : List ℕ → Type 0
HasNoClause bytes = (literals : List Lit) (rest : List ℕ) → AreReadable IsLiteral literals → IsClause literals
    → bytes ≢ counted literal_bytes literals ++ rest

-- the bytes begin with a clause, how many hints it has, and some of these, which are good where they are not the last
pub record BeginsClause (clauses : Clauses) (bytes : List ℕ) (announced : ℕ) (hints : List ℕ) (now : List Lit) (rest : List ℕ) : Type 0 where
  pub literals : List Lit
  pub readable : AreReadable IsLiteral literals
  pub is_clause : IsClause literals
  pub few : IsShort announced
  pub followed : FollowsAll clauses (map negation literals) hints now
  pub begins : bytes ≡ counted literal_bytes literals ++ seven_bits announced ++ flat_map seven_bits hints ++ rest

-- behind a clause not so many hints follow as are announced
pub record BreaksOff (clauses : Clauses) (bytes : List ℕ) : Type 0 where
  pub announced : ℕ
  pub hints : List ℕ
  pub now : List Lit
  pub rest : List ℕ
  pub clause : BeginsClause clauses bytes announced hints now rest
  pub missing : length hints < announced
  pub none : HasNoNumber (2 ^ 65) rest

-- behind a clause there is no number of hints
pub record HasNoHintCount (bytes : List ℕ) : Type 0 where
  pub literals : List Lit
  pub readable : AreReadable IsLiteral literals
  pub is_clause : IsClause literals
  pub rest : List ℕ
  pub begins : bytes ≡ counted literal_bytes literals ++ rest
  pub none : HasNoNumber (2 ^ 65) rest

-- a hint is wrong for a reason, and those before it are good
pub record BeginsWrongHint (clauses : Clauses) (bytes : List ℕ) (refusal : HintRefusal) : Type 0 where
  pub announced : ℕ
  pub hints : List ℕ
  pub now : List Lit
  pub hint : ℕ
  pub rest : List ℕ
  pub clause : BeginsClause clauses bytes announced hints now (seven_bits hint ++ rest)
  pub within : length hints < announced
  pub short : IsShort hint
  pub wrong : IsWrongHint clauses now (length hints + 1 == announced) hint refusal

-- there is no hint
pub record HasNoHint (clauses : Clauses) (bytes : List ℕ) : Type 0 where
  pub now : List Lit
  pub rest : List ℕ
  pub clause : BeginsClause clauses bytes 0 [] now rest

-- what is wrong with the item of a clause, behind its first byte
abbrev pub IsWrongClause : Clauses → List ℕ → Reason → Type 0
IsWrongClause clauses bytes Form = HasNoClause bytes ⊎ (HasNoHintCount bytes ⊎ BreaksOff clauses bytes)
IsWrongClause clauses bytes BadRule = ⊥
IsWrongClause clauses bytes HintNotUnit = HasNoHint clauses bytes ⊎ BeginsWrongHint clauses bytes NotUnit
IsWrongClause clauses bytes HintUnknown = BeginsWrongHint clauses bytes Unknown
IsWrongClause clauses bytes NoEmptyClause = ⊥

-- no numbers of clauses that can be taken out begin the bytes
abbrev pub IsWrongDeletion : Clauses → List ℕ → Reason → Type 0
IsWrongDeletion clauses bytes reason = (reason ≡ Form) × ((numbers : List ℕ) (new : Clauses) (rest : List ℕ) → AreReadable IsShort numbers
    → TakesOut clauses numbers new → bytes ≢ counted seven_bits numbers ++ rest)

-- what is wrong with an item: there is none, or it begins with no byte that an item begins with, or it is wrong
abbrev pub IsWrongItem : List RuledClause → Clauses → List ℕ → Reason → Type 0
IsWrongItem instances clauses [] reason = reason ≡ NoEmptyClause
IsWrongItem instances clauses (head ∷ bytes) reason =
    ((head ≢ 1) × (head ≢ 2) × (head ≢ 3) × (reason ≡ Form))
    ⊎ (((head ≡ 1) × IsWrongRule instances bytes reason)
    ⊎ (((head ≡ 2) × IsWrongClause clauses bytes reason)
    ⊎ ((head ≡ 3) × IsWrongDeletion clauses bytes reason)))
