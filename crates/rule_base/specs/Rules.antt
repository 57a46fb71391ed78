-- Rules: the letters of their arguments and their literals; instances, clauses and truth, once for all rules.
use Rattle.std.specs.Prelude.{◌≡◌, ◌⊎◌, ℕ, suc, Bool, true, false, ◌&&◌, nat_lt, List, [], ◌∷◌, ◌++◌, slice_index}
use Rattle.std.specs.List.{flat_map}
use Rattle.var_names.specs.declared.var.Lit.{Lit}
use Rattle.var_names.specs.Variables.{Variable}
use Rattle.rule_base.specs.declared.question.Question.{Question}
use Rattle.rule_base.specs.declared.letter.Letter.{Letter}
use Rattle.rule_base.specs.Domains.{IsIn, members, domain}

-- a clause for a number of each letter
abbrev pub ClauseOver : List Letter → Type 0
ClauseOver [] = List Lit
ClauseOver (_ ∷ letters) = ℕ → ClauseOver letters

pub record Rule : Type 0 where
  pub letters : List Letter
  pub clause : ClauseOver letters

-- a rule over these letters
abbrev pub over : (letters : List Letter) → ClauseOver letters → Rule
over letters clause = record { letters = letters; clause = clause }

-- the clause at these arguments
abbrev pub clause_from : (letters : List Letter) → ClauseOver letters → List ℕ → ℕ → List Lit
clause_from [] clause args at = clause
clause_from (_ ∷ letters) clause args at = clause_from letters (clause (slice_index args at)) args (suc at)

abbrev pub clause_at : Rule → List ℕ → List Lit
clause_at rule args = clause_from rule.letters rule.clause args 0

-- whether the arguments are ones of the letters, after those before
abbrev pub are_args : Question → List Letter → List ℕ → List ℕ → Bool
are_args q [] before [] = true
are_args q [] before (x ∷ args) = false
are_args q (letter ∷ letters) before [] = false
are_args q (letter ∷ letters) before (x ∷ args) =
    nat_lt x (domain q letter before).size && (domain q letter before).fits x && are_args q letters (before
    ++ x ∷ []) args

-- all lists of arguments of the letters, after those before
abbrev pub all_args : Question → List Letter → List ℕ → List (List ℕ)
all_args q [] before = before ∷ []
all_args q (letter ∷ letters) before =
    flat_map (λ x. all_args q letters (before ++ x ∷ [])) (members (domain q letter before))

-- the literal is true under the assignment
abbrev pub Holds : (Variable → Bool) → Lit → Type 0
Holds value l = value l.var ≡ l.positive

-- some literal of the clause is true
abbrev pub AnyHolds : (Variable → Bool) → List Lit → Type 0
AnyHolds value [] = ⊥
AnyHolds value (l ∷ ls) = Holds value l ⊎ AnyHolds value ls

-- each instance of the rule is true under an assignment
abbrev pub TrueFrom : Question → (Variable → Bool) → (letters : List Letter) → ClauseOver letters → List ℕ → Type 0
TrueFrom q value [] clause before = AnyHolds value clause
TrueFrom q value (letter ∷ letters) clause before =
    (x : ℕ) → IsIn (domain q letter before) x → TrueFrom q value letters (clause x) (before ++ x ∷ [])

abbrev pub IsTrueRule : Question → (Variable → Bool) → Rule → Type 0
IsTrueRule q value rule = TrueFrom q value rule.letters rule.clause []
