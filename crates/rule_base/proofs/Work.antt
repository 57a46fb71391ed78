-- Each step of the odometer leaves less to do.
use Rattle.std.proofs.Common.{◌≡◌, ℕ, suc, ◌+◌, ◌-◌, ◌<◌, List, [], ◌∷◌, ◌++◌, length, refl, length-append, arith, slice_get, Some}
use Rattle.rule_base.specs.declared.question.Question.{Question}
use Rattle.rule_base.specs.declared.letter.Letter.{Letter}
use Rattle.rule_base.specs.Domains.{Domain, domain}
use Rattle.rule_base.specs.Instances.{costs, cost_after, args_work}
use Rattle.rule_base.proofs.Left.{suc_of_sub, sub_zero, here, further}

costs-more : (f : ℕ → ℕ) (x s : ℕ) → x < s → costs f x (s - x) ≡ f x + costs f (x + 1) (s - (x + 1))
costs-more f x s h = rw (suc_of_sub x s h) refl

module _ (about : Question) where
  pub work-skip : (letters : List Letter) (before todo : List ℕ) (l : Letter) (dom : Domain) (x : ℕ) →
      slice_get letters (length todo) ≡ Some l →
      domain about l (before ++ todo) ≡ dom → x < dom.size →
      args_work about letters before todo (x + 1) < args_work about letters before todo x
  work-skip [] before todo l dom x e p h = cc
  work-skip (m ∷ letters) before [] l dom x e p h =
      let q : domain about m before ≡ dom = here about m l before dom e p in
      let f : ℕ → ℕ = λ x. 2 + cost_after about letters (before ++ x ∷ []) in
      rw q (omega (arith, costs-more f x dom.size h))
  work-skip (m ∷ letters) before (a ∷ todo) l dom x e p h =
      omega (arith, work-skip letters (before ++ a ∷ []) todo l dom x e (further about l before todo a dom p) h)

  pub work-push : (letters : List Letter) (before todo : List ℕ) (l n : Letter) (dom : Domain) (x : ℕ) →
      slice_get letters (length todo) ≡ Some l →
      slice_get letters (suc (length todo)) ≡ Some n →
      domain about l (before ++ todo) ≡ dom → x < dom.size →
      args_work about letters before (todo ++ x ∷ []) 0 < args_work about letters before todo x
  work-push [] before todo l n dom x e s p h = cc
  work-push (m ∷ []) before [] l n dom x e s p h = cc
  work-push (m ∷ j ∷ letters) before [] l n dom x e s p h =
      let q : domain about m before ≡ dom = here about m l before dom e p in
      let f : ℕ → ℕ = λ x. 2 + cost_after about (j ∷ letters) (before ++ x ∷ []) in
      rw q (rw sub_zero (omega (arith, costs-more f x dom.size h)))
  work-push (m ∷ letters) before (a ∷ todo) l n dom x e s p h =
      omega (arith, work-push letters (before ++ a ∷ []) todo l n dom x e s (further about l before todo a dom p) h)

  pub work-pop : (letters : List Letter) (before todo : List ℕ) (a : ℕ) (x : ℕ) →
      args_work about letters before todo (a + 1) < args_work about letters before (todo ++ a ∷ []) x
  work-pop [] before todo a x = omega (arith, length-append todo (a ∷ []))
  work-pop (m ∷ []) before [] a x = omega arith
  work-pop (m ∷ j ∷ letters) before [] a x = omega arith
  work-pop (m ∷ letters) before (b ∷ todo) a x =
      omega (arith, work-pop letters (before ++ b ∷ []) todo a x)
