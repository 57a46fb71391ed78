-- A method has one refusal or one list of typed states at most.
use Rattle.std.proofs.Common.{◌≡◌, ◌<◌, ℕ, zero, suc, List, Some, Contains, length, get_or, ◌⊎◌, inl, inr, refl, sym, ap, ap₂, subst, ◌∙◌, arith, [], ◌∷◌, reverse}
use Rattle.std.specs.Prelude.{AllPairs}
use Rattle.std.specs.List.{slice_get}
use Rattle.std.proofs.lemmas.List.{reverse-reverse, same_lists}
use Rattle.std.proofs.lemmas.Option.{slice_get-get_or}
use Rattle.opcodes.specs.declared.listed.Listed.{Listed}
use Rattle.program.specs.declared.value_type.HeldMonitor.{HeldMonitor}
use Rattle.program.specs.declared.value_type.TypedLocal.{TypedLocal}
use Rattle.program.specs.declared.value_type.TypedState.{TypedState}
use Rattle.typing.specs.Faults.{rank_of}
use Rattle.typing.specs.Laws.{OneRefusal, OneTyping, NoRefusalOfTyped}
use Rattle.typing.specs.Paths.{HasFault}
use Rattle.typing.specs.Typing.{IsTypedState, IsTyping}
use Rattle.typing.specs.declared.refusal.TypeKind.{TypeKind}
use Rattle.typing.specs.declared.refusal.TypeKind.TheVariants as kind
use Rattle.typing.specs.declared.untyped.UntypedMethod.{UntypedMethod}

abbrev kind_of : ℕ → TypeKind
kind_of zero = kind.TypeMisfit
kind_of (suc zero) = kind.StackDepth
kind_of (suc (suc zero)) = kind.LockOperand
kind_of (suc (suc (suc zero))) = kind.Unstructured
kind_of (suc (suc (suc (suc n)))) = kind.ThreadState

kind_back : (k : TypeKind) → kind_of (rank_of k) ≡ k
kind_back kind.TypeMisfit = refl
kind_back kind.StackDepth = refl
kind_back kind.LockOperand = refl
kind_back kind.Unstructured = refl
kind_back kind.ThreadState = refl

same_rank : (k l : TypeKind) → rank_of k ≡ rank_of l → k ≡ l
same_rank k l e = sym (kind_back k) ∙ ap kind_of e ∙ kind_back l

pub one_refusal : OneRefusal
one_refusal m k l pc to a b =
    let same_most : a.most ≡ b.most = omega (arith, a.shortest.least b.most b.shortest.holds, b.shortest.least a.most a.shortest.holds) in
    let P : ℕ → Type 0 = λ n. HasFault m n to l in
    let Q : ℕ → Type 0 = λ n. HasFault m n pc k in
    let b_fault = subst P (sym same_most) b.fault in
    let a_fault = subst Q same_most a.fault in
    let same_pc : pc ≡ to = omega (arith, a.least.least to (record { k = l; fault = b_fault }), b.least.least pc (record { k = k; fault = a_fault })) in
    let R : ℕ → Type 0 = λ n. HasFault m a.most n l in
    let S : ℕ → Type 0 = λ n. HasFault m b.most n k in
    (same_rank k l (omega (arith, a.first l (subst R (sym same_pc) b_fault), b.first k (subst S same_pc a_fault))), same_pc)

pub no_refusal_of_typed : NoRefusalOfTyped
no_refusal_of_typed m k pc states typing r = typing.sound r.most r.shortest.holds

-- ---- Lists by number

module _ {X : Type 0} (number : X → ℕ) where
  abbrev ByNumber : List X → Type 0
  ByNumber = AllPairs (λ a b. number a < number b)

  contains_head : (x : X) (xs : List X) → Contains (x ∷ xs) x
  contains_head x xs = (zero, omega arith, refl)

  contains_tail : (x z : X) (xs : List X) → Contains xs z → Contains (x ∷ xs) z
  contains_tail x z xs c = (suc c.0, omega (arith, c.1), c.2)

  cons_cases_at : (x z : X) (xs : List X) (k : ℕ) → k < length (x ∷ xs) → get_or (x ∷ xs) k z ≡ z → (x ≡ z) ⊎ Contains xs z
  cons_cases_at x z xs zero lt e = inl e
  cons_cases_at x z xs (suc k) lt e = inr (k, omega (arith, lt), e)

  head_below : (x z : X) (xs : List X) → ByNumber (x ∷ xs) → Contains xs z → number x < number z
  head_below x z xs by c = let P : X → Type 0 = λ y. number x < number y in subst P c.2 (by 0 (suc c.0) z (omega arith) (omega (arith, c.1)))

  tail_by : (x : X) (xs : List X) → ByNumber (x ∷ xs) → ByNumber xs
  tail_by x xs by = λ i j d lt inside. by (suc i) (suc j) d (omega (arith, lt)) (omega (arith, inside))

  in_tail : (x z : X) (xs ys : List X) → ByNumber (x ∷ xs) → Contains xs z → Contains (x ∷ ys) z → Contains ys z
  in_tail x z xs ys by c d = elim (cons_cases_at x z ys d.0 d.1 d.2) [
    | inl same ↦ absurd (omega (arith, head_below x z xs by c, ap number same))
    | inr later ↦ later
  ]

  heads_equal : (x y : X) (xs ys : List X) → ByNumber (x ∷ xs) → ByNumber (y ∷ ys) → Contains (y ∷ ys) x → Contains (x ∷ xs) y → x ≡ y
  heads_equal x y xs ys by_x by_y in_y in_x = elim (cons_cases_at y x ys in_y.0 in_y.1 in_y.2) [
    | inl same ↦ sym same
    | inr after_y ↦ elim (cons_cases_at x y xs in_x.0 in_x.1 in_x.2) [
      | inl same ↦ same
      | inr after_x ↦ absurd (omega (arith, head_below y x ys by_y after_y, head_below x y xs by_x after_x))
    ]
  ]

  same_members : (l m : List X) → ByNumber l → ByNumber m → ((z : X) → Contains l z → Contains m z) → ((z : X) → Contains m z → Contains l z) → l ≡ m
  same_members [] [] by_l by_m to from = refl
  same_members [] (y ∷ ys) by_l by_m to from = let c = from y (contains_head y ys) in absurd (omega (arith, c.1))
  same_members (x ∷ xs) [] by_l by_m to from = let c = to x (contains_head x xs) in absurd (omega (arith, c.1))
  same_members (x ∷ xs) (y ∷ ys) by_l by_m to from =
      let same = heads_equal x y xs ys by_l by_m (to x (contains_head x xs)) (from y (contains_head y ys)) in
      let P : X → Type 0 = λ h. (z : X) → Contains xs z → Contains (h ∷ ys) z in
      let Q : X → Type 0 = λ h. (z : X) → Contains ys z → Contains (h ∷ xs) z in
      let rest = same_members xs ys (tail_by x xs by_l) (tail_by y ys by_m)
      (λ z c. in_tail x z xs ys by_l c (subst P (sym same) (λ w d. to w (contains_tail x w xs d)) z c))
      (λ z c. in_tail y z ys xs by_m c (subst Q same (λ w d. from w (contains_tail y w ys d)) z c)) in
      ap₂ (λ h t. h ∷ t) same rest

-- ---- Typed states

one_state : (m : UntypedMethod) (pc : ℕ) (a b : TypedState) → IsTypedState m pc a → IsTypedState m pc b → a ≡ b
one_state m pc a b s t =
    let locals : a.locals ≡ b.locals = same_members (λ (l : TypedLocal). l.slot) a.locals b.locals s.by_slot t.by_slot
    (λ z c. (t.locals z.slot z.holds).1 ((s.locals z.slot z.holds).0 c)) (λ z c. (s.locals z.slot z.holds).1 ((t.locals z.slot z.holds).0 c)) in
    let held : a.held ≡ b.held = same_members (λ (h : HeldMonitor). h.monitor) a.held b.held s.by_monitor t.by_monitor
    (λ z c. (t.held z.monitor z.count).1 ((s.held z.monitor z.count).0 c)) (λ z c. (s.held z.monitor z.count).1 ((t.held z.monitor z.count).0 c)) in
    let r = s.is_reached in
    let reversed : reverse a.stack ≡ reverse b.stack = sym (s.stack r.0 r.1) ∙ t.stack r.0 r.1 in
    let stack : a.stack ≡ b.stack = sym (reverse-reverse a.stack) ∙ ap reverse reversed ∙ reverse-reverse b.stack in
    λ i. record { locals = locals i; stack = stack i; held = held i }

some_at : (xs : List Listed) (k : ℕ) → k < length xs → (l : Listed) × (slice_get xs k ≡ Some l)
some_at [] k lt = absurd (omega arith)
some_at (x ∷ xs) zero lt = (x, refl)
some_at (x ∷ xs) (suc k) lt = some_at xs k (omega arith)

one_at : (m : UntypedMethod) (a b : List TypedState) → IsTyping m a → IsTyping m b → (k : ℕ) (d : TypedState) → k < length a → k < length b → k < length m.listing → get_or a k d ≡ get_or b k d
one_at m a b s t k d in_a in_b inside =
    let l = some_at m.listing k inside in
    one_state m l.0.pc (get_or a k d) (get_or b k d) (s.typed k l.0 (get_or a k d) l.1 (slice_get-get_or a k d in_a)) (t.typed k l.0 (get_or b k d) l.1 (slice_get-get_or b k d in_b))

pub one_typing : OneTyping
one_typing m a b s t = same_lists a b (s.whole ∙ sym t.whole) (λ k d lt.
    let inside : k < length m.listing = omega (arith, s.whole) in
    let lt' : k < length b = omega (arith, s.whole, t.whole) in
    one_at m a b s t k d lt lt' inside)
