-- What is left after a step of the odometer.
use Rattle.std.proofs.Common.{◌≡◌, ℕ, suc, ◌+◌, ◌-◌, ◌<◌, ◌≤◌, List, [], ◌∷◌, ◌++◌, length, refl, ap, ◌∙◌, append_assoc, append-nil, arith, Bool, true, false, slice_get, Some, None}
use Rattle.std.specs.List.{flat_map}
use Rattle.rule_base.specs.declared.question.Question.{Question}
use Rattle.rule_base.specs.declared.letter.Letter.{Letter}
use Rattle.rule_base.specs.Domains.{Domain, passing, domain}
use Rattle.rule_base.specs.Rules.{all_args}
use Rattle.rule_base.specs.Instances.{args_left}

pub suc_of_sub : (x s : ℕ) → x < s → s - x ≡ suc (s - (x + 1))
suc_of_sub x s h = omega arith

pub none_of_sub : (x s : ℕ) → s ≤ x → s - x ≡ 0
none_of_sub x s h = omega arith

pub sub_zero : (n : ℕ) → n - 0 ≡ n
sub_zero n = omega arith

-- a number that does not fit is passed over
pub passing-skip : (fits : ℕ → Bool) (x s : ℕ) → x < s → fits x ≡ false →
    passing fits x (s - x) ≡ passing fits (x + 1) (s - (x + 1))
passing-skip fits x s h e = rw (suc_of_sub x s h, e) refl

-- one that fits comes first
pub passing-take : (fits : ℕ → Bool) (x s : ℕ) → x < s → fits x ≡ true →
    passing fits x (s - x) ≡ x ∷ passing fits (x + 1) (s - (x + 1))
passing-take fits x s h e = rw (suc_of_sub x s h, e) refl

pub passing-none : (fits : ℕ → Bool) (x s : ℕ) → s ≤ x → passing fits x (s - x) ≡ []
passing-none fits x s h = rw (none_of_sub x s h) refl

pub unpack : (l m : Letter) → Some l ≡ Some m → l ≡ m
unpack l m e = cc

module _ (about : Question) where
  -- the domain of the next choice, where none is chosen yet
  pub here : (m l : Letter) (before : List ℕ) (dom : Domain) → Some m ≡ Some l →
      domain about l (before ++ []) ≡ dom → domain about m before ≡ dom
  here m l before dom e p = let u : m ≡ l = unpack m l e in let v : before ++ [] ≡ before = append-nil before in
      cc (ap (λ b. domain about l b) v, ap (λ y. domain about y before) u)

  -- the same, where one more is chosen
  pub further : (l : Letter) (before todo : List ℕ) (a : ℕ) (dom : Domain) →
      domain about l (before ++ (a ∷ todo)) ≡ dom → domain about l ((before ++ a ∷ []) ++ todo) ≡ dom
  further l before todo a dom p = ap (domain about l) (append_assoc before (a ∷ []) todo) ∙ p

  pub left-skip : (letters : List Letter) (before todo : List ℕ) (l : Letter) (dom : Domain) (x : ℕ) →
      slice_get letters (length todo) ≡ Some l →
      domain about l (before ++ todo) ≡ dom → x < dom.size → dom.fits x ≡ false →
      args_left about letters before todo x ≡ args_left about letters before todo (x + 1)
  left-skip [] before todo l dom x e p h f = cc
  left-skip (m ∷ letters) before [] l dom x e p h f =
      let q : domain about m before ≡ dom = here m l before dom e p in
      rw q (ap (flat_map (λ x. all_args about letters (before ++ x ∷ []))) (passing-skip dom.fits x dom.size h f))
  left-skip (m ∷ letters) before (a ∷ todo) l dom x e p h f =
      rw (left-skip letters (before ++ a ∷ []) todo l dom x e (further l before todo a dom p) h f) refl

  pub left-push : (letters : List Letter) (before todo : List ℕ) (l n : Letter) (dom : Domain) (x : ℕ) →
      slice_get letters (length todo) ≡ Some l →
      slice_get letters (suc (length todo)) ≡ Some n →
      domain about l (before ++ todo) ≡ dom → x < dom.size → dom.fits x ≡ true →
      args_left about letters before todo x ≡ args_left about letters before (todo ++ x ∷ []) 0
  left-push [] before todo l n dom x e s p h f = cc
  left-push (m ∷ []) before [] l n dom x e s p h f = cc
  left-push (m ∷ j ∷ letters) before [] l n dom x e s p h f =
      let q : domain about m before ≡ dom = here m l before dom e p in
      rw q (rw (passing-take dom.fits x dom.size h f) (rw sub_zero refl))
  left-push (m ∷ letters) before (a ∷ todo) l n dom x e s p h f =
      rw (left-push letters (before ++ a ∷ []) todo l n dom x e s (further l before todo a dom p) h f) refl

  pub left-take : (letters : List Letter) (before todo : List ℕ) (l : Letter) (dom : Domain) (x : ℕ) →
      slice_get letters (length todo) ≡ Some l →
      slice_get letters (suc (length todo)) ≡ None →
      domain about l (before ++ todo) ≡ dom → x < dom.size → dom.fits x ≡ true →
      args_left about letters before todo x ≡ (before ++ (todo ++ x ∷ [])) ∷ args_left about letters before todo (x + 1)
  left-take [] before todo l dom x e s p h f = cc
  left-take (m ∷ j ∷ letters) before [] l dom x e s p h f = cc
  left-take (m ∷ []) before [] l dom x e s p h f =
      let q : domain about m before ≡ dom = here m l before dom e p in
      rw q (rw (passing-take dom.fits x dom.size h f) refl)
  left-take (m ∷ letters) before (a ∷ todo) l dom x e s p h f =
      rw (
        left-take letters (before ++ a ∷ []) todo l dom x e s (further l before todo a dom p) h f,
        append_assoc before (a ∷ []) (todo ++ x ∷ []),
      ) refl

  pub left-pop : (letters : List Letter) (before todo : List ℕ) (a : ℕ) (l : Letter) (dom : Domain) (x : ℕ) →
      slice_get letters (suc (length todo)) ≡ Some l →
      domain about l (before ++ (todo ++ a ∷ [])) ≡ dom → dom.size ≤ x →
      args_left about letters before (todo ++ a ∷ []) x ≡ args_left about letters before todo (a + 1)
  left-pop [] before todo a l dom x e p h = cc
  left-pop (m ∷ []) before [] a l dom x e p h = cc
  left-pop (m ∷ j ∷ letters) before [] a l dom x e p h =
      let q : domain about j (before ++ a ∷ []) ≡ dom = here j l (before
      ++ a ∷ []) dom e (ap (domain about l) (append-nil (before ++ a ∷ [])) ∙ p) in
      rw q (rw (passing-none dom.fits x dom.size h) refl)
  left-pop (m ∷ letters) before (b ∷ todo) a l dom x e p h =
      rw (left-pop letters (before ++ b ∷ []) todo a l dom x e (further l before (todo ++ a ∷ []) b dom p) h) refl

  pub left-done : (letters : List Letter) (before : List ℕ) (l : Letter) (dom : Domain) (x : ℕ) →
      slice_get letters 0 ≡ Some l →
      domain about l before ≡ dom → dom.size ≤ x →
      args_left about letters before [] x ≡ []
  left-done [] before l dom x e p h = cc
  left-done (m ∷ letters) before l dom x e p h =
      let q : domain about m before ≡ dom = ap (λ y. domain about y before) (unpack m l e) ∙ p in
      rw q (rw (passing-none dom.fits x dom.size h) refl)

  -- where no letter follows, nothing is left behind the last choice
  pub left-pop-none : (letters : List Letter) (before todo : List ℕ) (a x : ℕ) →
      slice_get letters (suc (length todo)) ≡ None →
      args_left about letters before (todo ++ a ∷ []) x ≡ args_left about letters before todo (a + 1)
  left-pop-none [] before todo a x e = cc
  left-pop-none (m ∷ []) before [] a x e = refl
  left-pop-none (m ∷ j ∷ letters) before [] a x e = cc
  left-pop-none (m ∷ letters) before (b ∷ todo) a x e = rw (left-pop-none letters (before ++ b ∷ []) todo a x e) refl

  pub left-done-none : (letters : List Letter) (before : List ℕ) (x : ℕ) → slice_get letters 0 ≡ None →
      args_left about letters before [] x ≡ []
  left-done-none [] before x e = refl
  left-done-none (m ∷ letters) before x e = cc

  -- before the first choice all are left
  pub left-all : (letters : List Letter) → 0 < length letters →
      args_left about letters [] [] 0 ≡ all_args about letters []
  left-all [] h = absurd (omega arith)
  left-all (m ∷ letters) h = rw sub_zero refl
