-- Where the clause of a rule stands.
use Rattle.std.proofs.Common.{◌≡◌, ◌≢◌, ◌+◌, ◌<◌, ◌≤◌, ◌⊎◌, ◌∙◌, ℕ, zero, suc, List, [], ◌∷◌, ◌++◌, Result, Ok, Err, Some, inl, inr, refl, ap, arith, get_or, length, subst, sym}
use Rattle.std.specs.Prelude.{AllPairs, OnErr, OnOk, slice_get}
use Rattle.std.proofs.lemmas.List.Quantifiers.{all_pairs_push}
use Rattle.std.proofs.lemmas.Option.{slice_get-get_or}
use Rattle.var_names.specs.declared.args.Arg.{Arg}
use Rattle.var_names.specs.declared.rule.Rule.{Rule}
use Rattle.var_names.specs.declared.var.Lit.{Lit}
use Rattle.var_names.specs.Formulas.{AppendsClause, FormulaValue, RuledClause}
use Rattle.var_names.specs.Instances.{IsInstance}
use Rattle.std.proofs.lemmas.List.Elements.{All-push}
use Rattle.solver_tests.specs.Numbers.{HaveNumbersUpto, number_of}
use Rattle.solver_tests.specs.Ruled.{HasRule, HaveTheirNumbers}

none-of : (args : List Arg) → length args ≡ 0 → args ≡ []
none-of [] none = refl
none-of (a ∷ args) none = absurd (omega (arith, none))

rule-same : (one other : Rule) → one.number ≡ other.number → length one.args ≡ 0 → length other.args ≡ 0 → one ≡ other
rule-same one other number none none' =
    let args : one.args ≡ other.args = none-of one.args none ∙ sym (none-of other.args none') in
    λ i. record { number = number i; args = args i }

pub place-found : (clauses : List RuledClause) (rule : Rule) (place : ℕ) → HaveTheirNumbers clauses → place < length clauses → rule.number ≡ place + 1 → length rule.args ≡ 0 → HasRule clauses rule place
place-found clauses rule place numbered within number none =
    let d : RuledClause = record { rule = rule; literals = [] } in
    let x = get_or clauses place d in
    let found = slice_get-get_or clauses place d within in
    let is = numbered place x found in
    (x, found, rule-same x.rule rule (is.0 ∙ sym number) is.1 none)

-- a rule that names an instance has the number of a place, and no arguments
pub instance-at : (clauses : List RuledClause) (rule : Rule) (literals : List Lit) → HaveTheirNumbers clauses → IsInstance clauses rule literals
    → (k : ℕ) × (k < length clauses) × (rule.number ≡ k + 1) × (length rule.args ≡ 0)
instance-at clauses rule literals numbered (k, within, is) =
    let x : RuledClause = record { rule = rule; literals = literals } in
    let at = numbered k (get_or clauses k x) (slice_get-get_or clauses k x within) in
    let same : (get_or clauses k x).rule ≡ rule = ap (λ (c : RuledClause). c.rule) is in
    (k, within, subst (λ (r : Rule). r.number ≡ k + 1) same at.0, subst (λ (r : Rule). length r.args ≡ 0) same at.1)

get-push : (clauses : List RuledClause) (c x : RuledClause) (at : ℕ) → slice_get (clauses ++ c ∷ []) at ≡ Some x → (slice_get clauses at ≡ Some x) ⊎ ((at ≡ length clauses) × (c ≡ x))
get-push [] c x zero is = inr (refl, cc)
get-push [] c x (suc at) is = absurd (let no : ⊥ = cc in no)
get-push (y ∷ clauses) c x zero is = inl is
get-push (y ∷ clauses) c x (suc at) is = elim (get-push clauses c x at is) [ inl was ↦ inl was | inr last ↦ inr (omega (arith, last.0), last.1) ]

-- a clause more
pub numbered-push : {A E : Type 0} (result : Result A E) (old new : FormulaValue) (literals : List Lit) (rule : Rule) → HaveTheirNumbers old.clauses → rule.number ≡ length old.clauses + 1 → length rule.args ≡ 0
    → OnOk result (AppendsClause old literals rule new) → OnErr result (new ≡ old) → HaveTheirNumbers new.clauses
numbered-push (Err e) old new literals rule numbered number none appends same at clause found = (subst (λ (f : FormulaValue). HaveTheirNumbers f.clauses) (sym same) numbered) at clause found
numbered-push (Ok a) old new literals rule numbered number none appends same at clause found =
    elim (get-push old.clauses (record { rule = rule; literals = literals }) clause at (sym (ap (λ (cs : List RuledClause). slice_get cs at) appends.clauses) ∙ found)) [
      | inl was ↦ numbered at clause was
      | inr last ↦
          (let same_number : clause.rule.number ≡ rule.number = ap (λ (c : RuledClause). c.rule.number) (sym last.1) in
          let same_args = ap (λ (c : RuledClause). length c.rule.args) (sym last.1) in
          (omega (arith, same_number, number, last.0), omega (arith, same_args, none)))
    ]

-- a literal more, of a higher number
pub pushed-higher : {A E : Type 0} (result : Result A E) (old new : List Lit) (lit : Lit) (last : ℕ) → AllPairs ◌≢◌ old → HaveNumbersUpto old last → last < number_of lit.var.args → OnOk result (new ≡ old ++ lit ∷ [])
    → OnOk result (AllPairs ◌≢◌ new)
pushed-higher (Err e) old new lit last apart upto higher pushed = tt
pushed-higher (Ok a) old new lit last apart upto higher pushed = subst (AllPairs ◌≢◌) (sym pushed) (all_pairs_push ◌≢◌ old lit apart (λ k d within same.
    let low = upto k d within in
    let numbers : number_of (get_or old k d).var.args ≡ number_of lit.var.args = ap (λ (l : Lit). number_of l.var.args) same in
    omega (arith, low, numbers, higher)))

pub upto-higher : {A E : Type 0} (result : Result A E) (old new : List Lit) (lit : Lit) (last : ℕ) → HaveNumbersUpto old last → last < number_of lit.var.args → OnOk result (new ≡ old ++ lit ∷ [])
    → OnOk result (HaveNumbersUpto new (number_of lit.var.args))
upto-higher (Err e) old new lit last upto higher pushed = tt
upto-higher (Ok a) old new lit last upto higher pushed =
    let number = number_of lit.var.args in
    subst (λ (ls : List Lit). HaveNumbersUpto ls number) (sym pushed)
    (All-push (λ (l : Lit). number_of l.var.args ≤ number) old lit (λ k d within. (let low = upto k d within in omega (arith, low, higher))) (omega arith))
