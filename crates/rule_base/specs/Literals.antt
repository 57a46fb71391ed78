-- Variables by their families, literals, and literals for each number of a letter (docs/TEXTS.md).
use Rattle.std.specs.Prelude.{ℕ, Bool, true, false, cond, nat_eq, List, [], ◌∷◌, map}
use Rattle.var_names.specs.declared.args.Arg.TheVariants.{Number}
use Rattle.var_names.specs.declared.family.Family.TheVariants.{On, Go, Sl, Re, Ca}
use Rattle.var_names.specs.declared.var.Lit.{Lit}
use Rattle.var_names.specs.Variables.{Variable}
use Rattle.rule_base.specs.declared.clause.Each.{Each}
use Rattle.rule_base.specs.declared.clause.Each.TheVariants.{EachNode, EachEdge}
use Rattle.rule_base.specs.declared.question.Question.{Question}
use Rattle.rule_base.specs.declared.letter.Letter.{Letter}
use Rattle.rule_base.specs.Domains.{members, domain}

-- ---- Variables

-- node n is taken in copy c
abbrev pub on : ℕ → ℕ → Variable
on c n = record { family = On; args = Number c ∷ Number n ∷ [] }

-- edge e is taken in copy c
abbrev pub go : ℕ → ℕ → Variable
go c e = record { family = Go; args = Number c ∷ Number e ∷ [] }

-- a bit of a slot at a node
abbrev pub sl : ℕ → ℕ → ℕ → ℕ → Variable
sl c n slot bit = record { family = Sl; args = Number c ∷ Number n ∷ Number slot ∷ Number bit ∷ [] }

-- a bit of the result of a node
abbrev pub re : ℕ → ℕ → ℕ → Variable
re c n bit = record { family = Re; args = Number c ∷ Number n ∷ Number bit ∷ [] }

-- an inner bit of the circuit of a node
abbrev pub ca : ℕ → ℕ → ℕ → Variable
ca c n j = record { family = Ca; args = Number c ∷ Number n ∷ Number j ∷ [] }

-- ---- Literals

abbrev pub literal : Bool → Variable → Lit
literal positive x = record { var = x; positive = positive }

abbrev pub plus : Variable → Lit
plus x = literal true x

abbrev pub minus : Variable → Lit
minus x = literal false x

-- u = v: for sign 1 the literals -u +v, for sign 0 +u -v
abbrev pub equal : Variable → Variable → ℕ → List Lit
equal u v x = cond (nat_eq x 1) (minus u ∷ plus v ∷ []) (plus u ∷ minus v ∷ [])

-- + the variable at each number of a letter, or -
abbrev pub plus_each : Question → Letter → List ℕ → (ℕ → Variable) → List Lit
plus_each q letter args f = map (λ x. plus (f x)) (members (domain q letter args))

abbrev pub minus_each : Question → Letter → List ℕ → (ℕ → Variable) → List Lit
minus_each q letter args f = map (λ x. minus (f x)) (members (domain q letter args))

-- the variable at a number
abbrev pub each_at : Each → ℕ → Variable
each_at (EachNode c) x = on c x
each_at (EachEdge c) x = go c x
