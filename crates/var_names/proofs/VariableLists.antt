-- Variables that are added to a list, each where it is new.
use Rattle.std.proofs.Common.{suc, ◌≡◌, ◌++◌, ◌<◌, ◌≤◌, ◌*◌, ◌+◌, ◌/◌, ◌%◌, ℕ, Bool, true, false, List, [], ◌∷◌, ap, sym, ◌∙◌, refl, inl, inr, subst, arith, length, get_or, slice_get, Some, map, nat_eq, eq-eqb, if◌then◌else◌}
use Rattle.std.specs.Prelude.{All, Contains}
use Rattle.std.specs.List.{list_any}
use Rattle.std.proofs.lemmas.List.{append-nil, append_assoc}
use Rattle.std.proofs.Math.ListN.{get_or-append}
use Rattle.std.proofs.lemmas.List.{map-append, length-append}
use Rattle.std.proofs.lemmas.List.Elements.{All-push}
use Rattle.std.proofs.lemmas.List.Folds.{list_any_at}
use Rattle.std.proofs.lemmas.Option.{get_or_from_slice_get}
use Rattle.indexmap.proofs.CallerLemmas.{Contains-list_any}
use Rattle.var_names.specs.Variables.{Variable}
use Rattle.var_names.specs.declared.var.Lit.{Lit}
use Rattle.var_names.specs.LiteralNumbers.{AddsVariable, AddsVariables, AreNumbers, Grown, lit_of, no_variable}
use Rattle.var_names.specs.contracts.var.VarPartialEq.TheImpl as var
use Rattle.var_names.proofs.Equal.{var-refl, var-same}

abbrev pub same : Variable → Variable → Bool
same = var.eq-value.it

pub inserted : (variables : List Variable) (variable : Variable) (new : List Variable)
    → new ≡ (if list_any (same variable) variables then variables else variables ++ variable ∷ []) → AddsVariable variables variable new
inserted variables variable new is = by (list_any (same variable) variables) refl is
  where
    found : list_any (same variable) variables ≡ false → ¬ (Contains variables variable)
    found none at =
        let here = list_any_at (same variable) variables at.0 variable at.1 (subst (λ v. same variable v ≡ true) (sym at.2) (var-refl variable)) in
        cc (none, here)

    by : (test : Bool) → list_any (same variable) variables ≡ test → new ≡ (if test then variables else variables ++ variable ∷ []) → AddsVariable variables variable new
    by true e is = inl (Contains-list_any same var-same variables variable e, is)
    by false e is = inr (found e, is)

-- a literal by the place of its variable
pub positive-lit : (variables : List Variable) (place : ℕ) (lit : Lit) → slice_get variables place ≡ Some lit.var → lit.positive ≡ true
    → lit_of variables (2 * place) ≡ lit
positive-lit variables place lit found sign =
    let half : 2 * place / 2 ≡ place = omega arith in
    let even : nat_eq (2 * place % 2) 0 ≡ true = eq-eqb (2 * place % 2) 0 (omega arith) in
    let is : get_or variables place no_variable ≡ lit.var = get_or_from_slice_get variables place lit.var no_variable found in
    rw (half, is, even, ← sign) refl

pub negative-lit : (variables : List Variable) (place : ℕ) (lit : Lit) → slice_get variables place ≡ Some lit.var → lit.positive ≡ false
    → lit_of variables (2 * place + 1) ≡ lit
negative-lit variables place lit found sign =
    let half : (2 * place + 1) / 2 ≡ place = omega arith in
    let odd : nat_eq ((2 * place + 1) % 2) 0 ≡ false = grind arith in
    let is : get_or variables place no_variable ≡ lit.var = get_or_from_slice_get variables place lit.var no_variable found in
    rw (half, is, odd, ← sign) refl

-- one more literal
pub adds-more : (old : List Variable) (lits : List Lit) (lit : Lit) (next new : List Variable)
    → AddsVariables old lits next → AddsVariable next lit.var new → AddsVariables old (lits ++ lit ∷ []) new
adds-more old [] lit next new before more = (new, subst (λ (vs : List Variable). AddsVariable vs lit.var new) before more, refl)
adds-more old (first ∷ lits) lit next new before more = (before.0, before.1, adds-more before.0 lits lit next new before.2 more)

pub adds-all : (old : List Variable) (lits others : List Lit) (next new : List Variable)
    → AddsVariables old lits next → AddsVariables next others new → AddsVariables old (lits ++ others) new
adds-all old [] others next new before more = subst (λ (vs : List Variable). AddsVariables vs others new) before more
adds-all old (first ∷ lits) others next new before more = (before.0, before.1, adds-all before.0 lits others next new before.2 more)

-- variables stay where they are
pub grown-one : (old : List Variable) (variable : Variable) (new : List Variable) → AddsVariable old variable new → Grown old new
grown-one old variable new (inl known) = ([], known.1 ∙ sym (append-nil old))
grown-one old variable new (inr fresh) = (variable ∷ [], fresh.1)

pub grown-then : (a b c : List Variable) → Grown a b → Grown b c → Grown a c
grown-then a b c first second = (first.0 ++ second.0, second.1 ∙ ap (λ (front : List Variable). front ++ second.0) first.1 ∙ append_assoc a first.0 second.0)

pub lit_of-grown : (old new : List Variable) (n : ℕ) → Grown old new → n < 2 * length old → lit_of new n ≡ lit_of old n
lit_of-grown old new n grown below =
    let same : get_or new (n / 2) no_variable ≡ get_or old (n / 2) no_variable =
    ap (λ (vs : List Variable). get_or vs (n / 2) no_variable) grown.1 ∙ get_or-append old grown.0 no_variable (n / 2) (omega arith) in
    rw same refl

pub longer : (old new : List Variable) → Grown old new → length old ≤ length new
longer old new grown = rw grown.1 (omega (arith, length-append old grown.0))

pub named-grown : (old new : List Variable) (numbers : List ℕ) → Grown old new → All (λ n. n < 2 * length old) numbers
    → map (lit_of new) numbers ≡ map (lit_of old) numbers
named-grown old new [] grown below = refl
named-grown old new (n ∷ numbers) grown below =
    let here : lit_of new n ≡ lit_of old n = lit_of-grown old new n grown (below 0 0 (omega arith)) in
    let rest : map (lit_of new) numbers ≡ map (lit_of old) numbers = named-grown old new numbers grown (λ k d within. below (suc k) d (omega (arith, within))) in
    λ i. here i ∷ rest i

pub below-grown : (old new : List Variable) (numbers : List ℕ) → Grown old new → All (λ n. n < 2 * length old) numbers → All (λ n. n < 2 * length new) numbers
below-grown old new numbers grown below = λ k d within. omega (arith, below k d within, longer old new grown)

-- one more literal has its number
pub numbers-more : (old : List Variable) (lits : List Lit) (numbers : List ℕ) (lit : Lit) (n : ℕ) (new : List Variable)
    → AreNumbers old lits numbers → AddsVariable old lit.var new → lit_of new n ≡ lit → n < 2 * length new
    → AreNumbers new (lits ++ lit ∷ []) (numbers ++ n ∷ [])
numbers-more old lits numbers lit n new before added is within =
    let grown = grown-one old lit.var new added in
    record {
      named = map-append (lit_of new) numbers (n ∷ [])
          ∙ ap (λ (front : List Lit). front ++ lit_of new n ∷ []) (named-grown old new numbers grown before.below ∙ before.named)
          ∙ ap (λ (back : Lit). lits ++ back ∷ []) is;
      below = All-push (λ m. m < 2 * length new) numbers n (below-grown old new numbers grown before.below) within;
    }

pub short : (old new : List Variable) (variable : Variable) → AddsVariable old variable new → length new ≤ length old + 1
short old new variable (inl known) = rw known.1 (omega arith)
short old new variable (inr fresh) = rw fresh.1 (omega (arith, length-append old (variable ∷ [])))
