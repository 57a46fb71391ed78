-- Unit propagation comes to no literals past a trail under which each clause is true or has two literals left.
use Rattle.std.proofs.Common.{◌≢◌, ◌≤◌, ◌⊎◌, ◌∙◌, ℕ, List, [], ◌∷◌, Option, inl, inr, refl, sym, subst, arith, length, get_or}
use Rattle.std.proofs.lemmas.Bool.{cases_eq}
use Rattle.clause_pool.specs.PoolValue.{IsIn, IsWatched, NoneTwice}
use Rattle.clause_pool.proofs.Swapped.{differ_at}
use Rattle.literals.specs.Literal.{opposite_of}
use Rattle.literals.specs.Propagation.{IsConsistent, IsFalseIn}
use Rattle.literals.proofs.Members.{IsIn-decided, IsIn-place}
use Rattle.propagation.specs.Watches.{WatchesHold}
use Rattle.var_names.specs.Formulas.{FormulaValue}
use Rattle.search_steps.specs.States.{HasTrue}
use Rattle.search_log.specs.Names.{SameLiterals}
use Rattle.logged_search.specs.Conflicts.{ArePropagated, GetsValue, HasClause, MakesFalse}

-- two literals of the clause are not false
pub record HasTwoLeft (trues clause : List ℕ) : Type 0 where
  pub one : ℕ
  pub other : ℕ
  pub apart : one ≢ other
  pub one_in : IsIn one clause
  pub other_in : IsIn other clause
  pub one_left : IsFalseIn trues one → ⊥
  pub other_left : IsFalseIn trues other → ⊥

abbrev pub IsQuiet : List ℕ → List ℕ → Type 0
IsQuiet trues clause = HasTrue trues clause ⊎ HasTwoLeft trues clause

pub quiet-same : (trues one other : List ℕ) → SameLiterals one other → IsQuiet trues one → IsQuiet trues other
quiet-same trues one other same (inl is) = inl (record { literal = is.literal; member = (same is.literal).0 is.member; is_true = is.is_true })
quiet-same trues one other same (inr two) = inr (record {
  one = two.one;
  other = two.other;
  apart = two.apart;
  one_in = (same two.one).0 two.one_in;
  other_in = (same two.other).0 two.other_in;
  one_left = two.one_left;
  other_left = two.other_left;
})

pub same-back : (one other : List ℕ) → SameLiterals one other → SameLiterals other one
same-back one other same x = ((same x).1, (same x).0)

-- a clause whose watches hold
pub quiet-watched : (trues literals : List ℕ) → 2 ≤ length literals → NoneTwice literals → WatchesHold trues trues literals → IsQuiet trues literals
quiet-watched trues literals two once holds =
    let a = get_or literals 0 0 in
    let b = get_or literals 1 0 in
    let wa : IsWatched literals a = record { two = two; side = inl refl } in
    let wb : IsWatched literals b = record { two = two; side = inr refl } in
    let ia = IsIn-place literals 0 (omega (arith, two)) in
    let ib = IsIn-place literals 1 (omega (arith, two)) in
    let apart : a ≢ b = differ_at literals 0 1 once (omega (arith, two)) (omega (arith, two)) (omega arith) in
    elim (IsIn-decided (opposite_of a) trues) [
      | inl a_false ↦ inl (record { literal = b; member = ib; is_true = holds a b wa wb apart a_false })
      | inr a_left ↦ elim (IsIn-decided (opposite_of b) trues) [
        | inl b_false ↦ inl (record { literal = a; member = ia; is_true = holds b a wb wa (λ e. apart (sym e)) b_false })
        | inr b_left ↦ inr (record { one = a; other = b; apart = apart; one_in = ia; other_in = ib; one_left = a_left; other_left = b_left })
      ]
    ]

module _ (formula : FormulaValue) (clauses : List (Option (List ℕ))) (trues : List ℕ) (fine : IsConsistent trues) (quiet : (clause : List ℕ) → HasClause formula clauses clause → IsQuiet trues clause) where
  one-more : (older : List ℕ) → ((x : ℕ) → IsIn x older → IsIn x trues) → (l : ℕ) → GetsValue formula clauses older l → IsIn l trues
  one-more older among l gets = elim (quiet gets.clause gets.has) [
    | inl is ↦ elim (cases_eq is.literal l) [
      | inl same ↦ subst (λ x. IsIn x trues) same is.is_true
      | inr apart ↦ absurd (fine is.literal is.is_true (among (opposite_of is.literal) (gets.unit.others_false is.literal is.member apart)))
    ]
    | inr two ↦ elim (cases_eq two.one l) [
      | inl same ↦ absurd (two.other_left (among (opposite_of two.other) (gets.unit.others_false two.other two.other_in (λ e. two.apart (same ∙ sym e)))))
      | inr apart ↦ absurd (two.one_left (among (opposite_of two.one) (gets.unit.others_false two.one two.one_in apart)))
    ]
  ]

  -- what becomes true is of the trail
  pub closed : (decided made : List ℕ) → ((x : ℕ) → IsIn x decided → IsIn x trues) → ArePropagated formula clauses decided made → (x : ℕ) → IsIn x made → IsIn x trues
  closed decided [] among are x i = absurd i
  closed decided (l ∷ older) among are x (inl here) = subst (λ y. IsIn y trues) (sym here) (elim are.0 [
    | inl d ↦ among l d
    | inr gets ↦ one-more older (closed decided older among are.1) l gets
  ])
  closed decided (l ∷ older) among are x (inr later) = closed decided older among are.1 x later

  -- and no clause becomes false
  pub none-false : (decided : List ℕ) → ((x : ℕ) → IsIn x decided → IsIn x trues) → MakesFalse formula clauses decided → ⊥
  none-false decided among makes = elim (quiet makes.clause makes.has) [
    | inl is ↦ fine is.literal is.is_true (closed decided makes.trues among makes.propagated (opposite_of is.literal) (makes.all_false is.literal is.member))
    | inr two ↦ two.one_left (closed decided makes.trues among makes.propagated (opposite_of two.one) (makes.all_false two.one two.one_in))
  ]
