-- What parts of items take, and what they lack.
use Rattle.std.specs.Prelude.{◌++◌, ◌+◌, ◌<◌, ◌==◌, ◌↔◌, ◌^◌, ◌≡◌, ◌≢◌, ◌⊎◌, ℕ, All, Bool, IsTrue, length, List, [], ◌∷◌, map, Option, Some}
use Rattle.std.specs.List.{flat_map}
use Rattle.sources.specs.Leaving.{Takes}
use Rattle.texts.specs.SevenBits.{HasNoNumber, seven_bits}
use Rattle.var_names.specs.declared.args.Arg.{Arg}
use Rattle.var_names.specs.declared.rule.Rule.{Rule}
use Rattle.var_names.specs.declared.var.Lit.{Lit}
use Rattle.var_names.specs.Formulas.{RuledClause}
use Rattle.var_names.specs.Instances.{IsInstance}
use Rattle.var_names.specs.LiteralText.{argument_number, literal_bytes}
use Rattle.var_names.specs.Readable.{IsLiteral}
use Rattle.refutation_lines.specs.declared.line.Line.{Line}
use Rattle.refutation_lines.specs.LineText.{counted, line_bytes}
use Rattle.refutation_lines.specs.Propagation.{Clauses, FollowsFrom}
use Rattle.refutation_lines.specs.Refutations.{IsClause, IsEmptyClause, Steps, TakesOut}
use Rattle.refutation_items.specs.declared.refusal.Reason.{Reason}
use Rattle.refutation_items.specs.declared.refusal.Reason.TheVariants.{Form, BadRule, HintNotUnit, HintUnknown, NoEmptyClause}
use Rattle.refutation_check.specs.declared.hints.HintRefusal.{HintRefusal}
use Rattle.refutation_check.specs.declared.hints.HintRefusal.TheVariants.{NotUnit, Unknown}
use Rattle.refutation_steps.specs.HintSteps.{FollowsAll, IsFalsified, IsWrongHint}
use Rattle.refutation_steps.specs.RuleWords.{NamesArguments}
use Rattle.bytes_check.specs.Items.{IsShort, rule_bytes}

-- so many arguments, by number
pub record TakesArguments (old new : Option (List ℕ)) (count : ℕ) (args : Option (List Arg)) : Type 0 where
  pub words : List ℕ
  pub count_of : length words ≡ count
  pub short : All IsShort words
  pub named : NamesArguments argument_number words args
  pub taken : Takes old new (flat_map seven_bits words)

abbrev pub LacksArguments : ℕ → List ℕ → Reason → Type 0
LacksArguments count bytes reason =
    (reason ≡ Form) × ((words rest : List ℕ) → length words ≡ count → All IsShort words → bytes ≢ flat_map seven_bits words ++ rest)

-- a rule's number and arguments, and its instance
pub record TakesInstance (instances : List RuledClause) (old new : Option (List ℕ)) (clauses next : Clauses) : Type 0 where
  pub rule : Rule
  pub literals : List Lit
  pub instance : IsInstance instances rule literals
  pub added : next ≡ clauses ++ Some literals ∷ []
  pub taken : Takes old new (rule_bytes rule.number (map argument_number rule.args))

-- so many literals of a clause
pub record TakesLiterals (old new : Option (List ℕ)) (count : ℕ) (literals : List Lit) : Type 0 where
  pub count_of : length literals ≡ count
  pub fit : All IsLiteral literals
  pub is_clause : IsClause literals
  pub taken : Takes old new (flat_map literal_bytes literals)

abbrev pub LacksLiterals : ℕ → List ℕ → Reason → Type 0
LacksLiterals count bytes reason =
    (reason ≡ Form) × ((literals : List Lit) (rest : List ℕ) → length literals ≡ count → All IsLiteral literals → IsClause literals
    → bytes ≢ flat_map literal_bytes literals ++ rest)

-- so many hints, along which unit propagation leads to a clause that is false
pub record TakesHints (old new : Option (List ℕ)) (count : ℕ) (clauses : Clauses) (trues : List Lit) : Type 0 where
  pub hints : List ℕ
  pub last : ℕ
  pub now : List Lit
  pub count_of : length hints + 1 ≡ count
  pub followed : FollowsAll clauses trues hints now
  pub falsified : IsFalsified clauses now last
  pub taken : Takes old new (flat_map seven_bits hints ++ seven_bits last)

-- hints that break off
pub record LacksHint (count : ℕ) (clauses : Clauses) (trues : List Lit) (bytes : List ℕ) : Type 0 where
  pub hints : List ℕ
  pub now : List Lit
  pub rest : List ℕ
  pub begins : bytes ≡ flat_map seven_bits hints ++ rest
  pub missing : length hints < count
  pub followed : FollowsAll clauses trues hints now
  pub none : HasNoNumber (2 ^ 65) rest

-- hints of which one is wrong
pub record HasWrongHint (count : ℕ) (clauses : Clauses) (trues : List Lit) (bytes : List ℕ) (refusal : HintRefusal) : Type 0 where
  pub hints : List ℕ
  pub now : List Lit
  pub hint : ℕ
  pub rest : List ℕ
  pub begins : bytes ≡ flat_map seven_bits hints ++ (seven_bits hint ++ rest)
  pub within : length hints < count
  pub short : IsShort hint
  pub followed : FollowsAll clauses trues hints now
  pub wrong : IsWrongHint clauses now (length hints + 1 == count) hint refusal

abbrev pub AreWrongHints : ℕ → Clauses → List Lit → List ℕ → Reason → Type 0
AreWrongHints count clauses trues bytes Form = LacksHint count clauses trues bytes
AreWrongHints count clauses trues bytes BadRule = ⊥
AreWrongHints count clauses trues bytes HintNotUnit = (count ≡ 0) ⊎ HasWrongHint count clauses trues bytes NotUnit
AreWrongHints count clauses trues bytes HintUnknown = HasWrongHint count clauses trues bytes Unknown
AreWrongHints count clauses trues bytes NoEmptyClause = ⊥

-- a clause with its hints, which is the next; whether it has no literals
pub record TakesClause (old new : Option (List ℕ)) (clauses next : Clauses) (empty : Bool) : Type 0 where
  pub literals : List Lit
  pub hints : List ℕ
  pub is_clause : IsClause literals
  pub follows : FollowsFrom clauses literals hints
  pub added : next ≡ clauses ++ Some literals ∷ []
  pub taken : Takes old new (counted literal_bytes literals ++ counted seven_bits hints)
  pub emptiness : IsTrue empty ↔ (literals ≡ [])

-- numbers of clauses, which are taken out
pub record TakesDeletion (old new : Option (List ℕ)) (clauses next : Clauses) : Type 0 where
  pub numbers : List ℕ
  pub out : TakesOut clauses numbers next
  pub taken : Takes old new (counted seven_bits numbers)

-- an item, and what it makes of the clauses; whether it is the clause without literals
pub record TakesItem (instances : List RuledClause) (old new : Option (List ℕ)) (clauses next : Clauses) (empty : Bool) : Type 0 where
  pub line : Line
  pub steps : Steps instances clauses line next
  pub taken : Takes old new (line_bytes line)
  pub emptiness : IsTrue empty ↔ IsEmptyClause line
