-- A rule is true exactly where it has a true literal at all its arguments.
use Rattle.std.proofs.Common.{◌≡◌, ℕ, suc, List, [], ◌∷◌, ◌++◌, length, refl, append_assoc, arith, length-append, Bool, true, ◌&&◌, slice_index, nat_lt}
use Rattle.var_names.specs.Variables.{Variable}
use Rattle.rule_base.specs.declared.question.Question.{Question}
use Rattle.rule_base.specs.declared.letter.Letter.{Letter}
use Rattle.rule_base.specs.Domains.{domain}
use Rattle.rule_base.specs.Rules.{AnyHolds, Rule, ClauseOver, IsTrueRule, TrueFrom, are_args, clause_at, clause_from}
use Rattle.rule_base.proofs.EachOnce.{both, both_of, lt_true, true_lt, at_length}

one_more : (before : List ℕ) (x : ℕ) → suc (length before) ≡ length (before ++ x ∷ [])
one_more before x = omega (arith, length-append before (x ∷ []))

moved : (letters : List Letter) (clause : ℕ → ClauseOver letters) (before args : List ℕ) (x : ℕ) →
    clause_from letters (clause (slice_index (before ++ (x ∷ args)) (length before))) (before
    ++ (x ∷ args)) (suc (length before)) ≡ clause_from letters (clause x) ((before ++ x ∷ [])
    ++ args) (length (before ++ x ∷ []))
moved letters clause before args x = rw (
  at_length before args x,
  append_assoc before (x ∷ []) args,
  one_more before x,
) refl

module _ (about : Question) (value : Variable → Bool) where
  -- a true rule has a true literal at its arguments
  pub at_args : (letters : List Letter) (clause : ClauseOver letters) (before args : List ℕ) →
      TrueFrom about value letters clause before → are_args about letters before args ≡ true →
      AnyHolds value (clause_from letters clause (before ++ args) (length before))
  at_args [] clause before [] t a = t
  at_args [] clause before (x ∷ args) t a = cc
  at_args (l ∷ letters) clause before [] t a = cc
  at_args (l ∷ letters) clause before (x ∷ args) t a =
      let h = both (nat_lt x (domain about l before).size && (domain about l before).fits x)
      (are_args about letters (before ++ x ∷ []) args) a in
      let i = both (nat_lt x (domain about l before).size) ((domain about l before).fits x) h.0 in
      let r = at_args letters (clause x) (before ++ x ∷ []) args (t x (lt_true _ _ i.0, i.1)) h.1 in
      rw (moved letters clause before args x) r

  -- and a rule with a true literal at all its arguments is true
  pub from_args : (letters : List Letter) (clause : ClauseOver letters) (before : List ℕ) →
      ((args : List ℕ) → are_args about letters before args ≡ true →
      AnyHolds value (clause_from letters clause (before ++ args) (length before))) →
      TrueFrom about value letters clause before
  from_args [] clause before h = h [] refl
  from_args (l ∷ letters) clause before h = λ x i. from_args letters (clause x) (before ++ x ∷ [])
      (λ args a. rw (moved letters clause before args x) at
      (h (x ∷ args) (both_of _ _ (both_of _ _ (true_lt x (domain about l before).size i.0) i.1) a)))

  pub literal_of : (rule : Rule) (args : List ℕ) → IsTrueRule about value rule →
      are_args about rule.letters [] args ≡ true →
      AnyHolds value (clause_at rule args)
  literal_of rule args t a = at_args rule.letters rule.clause [] args t a

  pub rule_of : (rule : Rule) → ((args : List ℕ) → are_args about rule.letters [] args ≡ true →
      AnyHolds value (clause_at rule args)) →
      IsTrueRule about value rule
  rule_of rule h = from_args rule.letters rule.clause [] h
