-- Lists that are linked both ways.
use Rattle.std.proofs.Common.{◌≡◌, ℕ, zero, suc, ◌<◌, ◌≤◌, ◌≢◌, ◌⊎◌, ◌||◌, inl, inr, List, [], ◌∷◌, Option, Some, None, true, false, cond, length, not, refl, sym, ◌∙◌, ap, subst, arith}
use Rattle.std.specs.List.{IsDistinct, AllByRecursion, list_any}
use Rattle.std.proofs.lemmas.Bool.{cases_eq}
use Rattle.std.proofs.lemmas.Bool.Decides.{eqb_tells}
use Rattle.std.proofs.lemmas.Map.Steps.{length-le_from_distinct_below}
use Rattle.std.proofs.Common.{eqb}
use Rattle.clause_pool.specs.PoolValue.{IsIn, NoneTwice, without, following}
use Rattle.clause_pool.specs.WatchLists.{IsChain, walk}

pub some_same : (x y : ℕ) → Some x ≡ Some y → x ≡ y
some_same x y e = cc

pub some_not_none : (x : ℕ) → Some x ≡ None → ⊥
some_not_none x e = cc

pub walk-chain : (n : ℕ) (f g : ℕ → Option ℕ) (from link : Option ℕ) (hs : List ℕ) → IsChain f g from link hs → length hs ≤ n → walk n f link ≡ hs
walk-chain zero f g from link [] c l = ap (walk zero f) c
walk-chain (suc n) f g from link [] c l = ap (walk (suc n) f) c
walk-chain zero f g from link (h ∷ hs) c l = absurd (omega arith)
walk-chain (suc n) f g from link (h ∷ hs) c l =
    ap (walk (suc n) f) c.0 ∙ ap (λ t. h ∷ t) (walk-chain n f g (Some h) (f h) hs c.2 (omega arith))

pub IsChain-same : (f g f' g' : ℕ → Option ℕ) (from link : Option ℕ) (hs : List ℕ) → IsChain f g from link hs → ((k : ℕ) → IsIn k hs → f' k ≡ f k) → ((k : ℕ) → IsIn k hs → g' k ≡ g k) → IsChain f' g' from link hs
IsChain-same f g f' g' from link [] c p q = c
IsChain-same f g f' g' from link (h ∷ hs) c p q = (
  c.0,
  q h (inl refl) ∙ c.1,
  subst (λ l. IsChain f' g' (Some h) l hs) (sym (p h (inl refl))) (IsChain-same f g f' g' (Some h) (f h) hs c.2 (λ k i. p k (inr i)) (λ k i. q k (inr i))),
)

-- a clause put first: only it and the old head change their links
pub IsChain-first : (f g f' g' : ℕ → Option ℕ) (link : Option ℕ) (h : ℕ) (hs : List ℕ) → IsChain f g None link hs → NoneTwice hs → f' h ≡ link → g' h ≡ None → ((k : ℕ) → link ≡ Some k → g' k ≡ Some h) → ((k : ℕ) → IsIn k hs → f' k ≡ f k) → ((k : ℕ) → IsIn k hs → link ≢ Some k → g' k ≡ g k) → IsChain f' g' None (Some h) (h ∷ hs)
IsChain-first f g f' g' link h [] c once here none head p q = (refl, none, here ∙ c)
IsChain-first f g f' g' link h (k ∷ ks) c once here none head p q =
    let not_head : (j : ℕ) → IsIn j ks → link ≢ Some j = λ j i e. once.0 (subst (λ x. IsIn x ks) (sym (some_same k j (sym c.0 ∙ e))) i) in (
      refl,
      none,
      (
        here ∙ c.0,
        head k c.0,
        subst (λ l. IsChain f' g' (Some k) l ks) (sym (p k (inl refl)))
            (IsChain-same f g f' g' (Some k) (f k) ks c.2 (λ j i. p j (inr i)) (λ j i. q j (inr i) (not_head j i))),
      ),
    )

without-head : (h : ℕ) (hs : List ℕ) → without h (h ∷ hs) ≡ without h hs
without-head h hs = elim (eqb_tells h h) [
  | inl same ↦ ap (λ b. cond (not b) (h ∷ without h hs) (without h hs)) same.0
  | inr differ ↦ absurd (differ.1 refl)
]

without-other : (h k : ℕ) (hs : List ℕ) → k ≢ h → without h (k ∷ hs) ≡ k ∷ without h hs
without-other h k hs ne = elim (eqb_tells k h) [
  | inl same ↦ absurd (ne same.1)
  | inr differ ↦ ap (λ b. cond (not b) (k ∷ without h hs) (without h hs)) differ.0
]

pub without-absent : (h : ℕ) (hs : List ℕ) → (IsIn h hs → ⊥) → without h hs ≡ hs
without-absent h [] a = refl
without-absent h (k ∷ hs) a =
    without-other h k hs (λ e. a (inl (sym e))) ∙ ap (λ t. k ∷ t) (without-absent h hs (λ i. a (inr i)))

pub IsIn-without : (h j : ℕ) (hs : List ℕ) → IsIn j (without h hs) → IsIn j hs × (j ≢ h)
IsIn-without h j [] i = absurd i
IsIn-without h j (k ∷ hs) i = elim (cases_eq k h) [
  | inl same ↦
      (let r = IsIn-without h j hs (subst (IsIn j) (ap (λ x. without h (x ∷ hs)) same ∙ without-head h hs) i) in (inr r.0, r.1))
  | inr ne ↦
      elim (subst (IsIn j) (without-other h k hs ne) i) [
        | inl is ↦ (inl is, λ e. ne (sym is ∙ e))
        | inr later ↦ (let r = IsIn-without h j hs later in (inr r.0, r.1))
      ]
]

pub without-IsIn : (h j : ℕ) (hs : List ℕ) → IsIn j hs → j ≢ h → IsIn j (without h hs)
without-IsIn h j [] i ne = absurd i
without-IsIn h j (k ∷ hs) i ne = elim (cases_eq k h) [
  | inl same ↦
      subst (IsIn j) (sym (ap (λ x. without h (x ∷ hs)) same ∙ without-head h hs))
      (elim i [ inl is ↦ absurd (ne (is ∙ same)) | inr later ↦ without-IsIn h j hs later ne ])
  | inr differ ↦
      subst (IsIn j) (sym (without-other h k hs differ))
      (elim i [ inl is ↦ inl is | inr later ↦ inr (without-IsIn h j hs later ne) ])
]

pub NoneTwice-without : (h : ℕ) (hs : List ℕ) → NoneTwice hs → NoneTwice (without h hs)
NoneTwice-without h [] n = tt
NoneTwice-without h (k ∷ hs) n = elim (cases_eq k h) [
  | inl same ↦ subst NoneTwice (sym (ap (λ x. without h (x ∷ hs)) same ∙ without-head h hs)) (NoneTwice-without h hs n.1)
  | inr differ ↦ subst NoneTwice (sym (without-other h k hs differ)) (λ i. n.0 (IsIn-without h k hs i).0, NoneTwice-without h hs n.1)
]

-- what follows a clause in its list is in the list too, or nothing
pub next_in_list : (f g : ℕ → Option ℕ) (from link : Option ℕ) (hs : List ℕ) (h k : ℕ) → IsChain f g from link hs → IsIn h hs → f h ≡ Some k → IsIn k hs
next_in_list f g from link [] h k c i e = absurd i
next_in_list f g from link (x ∷ []) h k c i e = elim i [
  | inl is ↦ absurd (some_not_none k (sym e ∙ ap f is ∙ c.2))
  | inr bad ↦ absurd bad
]
next_in_list f g from link (x ∷ y ∷ ys) h k c i e = elim i [
  | inl is ↦ inr (inl (some_same k y (sym e ∙ ap f is ∙ c.2.0)))
  | inr later ↦ inr (next_in_list f g (Some x) (f x) (y ∷ ys) h k c.2 later e)
]

-- the clause before one in its list is in the list, or what the list came from
pub before_in_list : (f g : ℕ → Option ℕ) (from link : Option ℕ) (hs : List ℕ) (h : ℕ) → IsChain f g from link hs → IsIn h hs → (g h ≡ from) ⊎ ((k : ℕ) × (g h ≡ Some k) × IsIn k hs)
before_in_list f g from link [] h c i = absurd i
before_in_list f g from link (x ∷ xs) h c i = elim i [
  | inl is ↦ inl (ap g is ∙ c.1)
  | inr later ↦ elim (before_in_list f g (Some x) (f x) xs h c.2 later) [
    | inl first ↦ inr (x, first, inl refl)
    | inr found ↦ inr (found.0, found.1, inr found.2)
  ]
]

-- what unlinking a clause does to the others' links
pub record Bridges (f g f' g' : ℕ → Option ℕ) (h : ℕ) (hs : List ℕ) : Type 0 where
  pub next_joined : (k : ℕ) → IsIn k hs → g h ≡ Some k → f' k ≡ f h
  pub next_kept : (k : ℕ) → IsIn k hs → k ≢ h → g h ≢ Some k → f' k ≡ f k
  pub before_joined : (k : ℕ) → IsIn k hs → f h ≡ Some k → g' k ≡ g h
  pub before_kept : (k : ℕ) → IsIn k hs → k ≢ h → f h ≢ Some k → g' k ≡ g k

Bridges-tail : (f g f' g' : ℕ → Option ℕ) (h x : ℕ) (xs : List ℕ) → Bridges f g f' g' h (x ∷ xs) → Bridges f g f' g' h xs
Bridges-tail f g f' g' h x xs b = record {
  next_joined = λ k i. b.next_joined k (inr i);
  next_kept = λ k i. b.next_kept k (inr i);
  before_joined = λ k i. b.before_joined k (inr i);
  before_kept = λ k i. b.before_kept k (inr i);
}

-- the clause was the first: what follows it comes first
unlink_head : (f g f' g' : ℕ → Option ℕ) (from : Option ℕ) (h : ℕ) (hs : List ℕ) → IsChain f g (Some h) (f h) hs → g h ≡ from → NoneTwice (h ∷ hs) → ((k : ℕ) → IsIn k hs → from ≢ Some k) → Bridges f g f' g' h hs → IsChain f' g' from (f h) hs
unlink_head f g f' g' from h [] c here once apart b = c
unlink_head f g f' g' from h (y ∷ ys) c here once apart b =
    let not_h : (k : ℕ) → IsIn k (y ∷ ys) → k ≢ h = λ k i e. once.0 (subst (λ z. IsIn z (y ∷ ys)) e i) in
    let nexts : (k : ℕ) → IsIn k (y ∷ ys) → f' k ≡ f k = λ k i. b.next_kept k i (not_h k i) (λ e. apart k i (sym here ∙ e)) in (
      c.0,
      b.before_joined y (inl refl) c.0 ∙ here,
      subst (λ l. IsChain f' g' (Some y) l ys) (sym (nexts y (inl refl)))
          (IsChain-same f g f' g' (Some y) (f y) ys c.2 (λ k i. nexts k (inr i))
          (λ k i. b.before_kept k (inr i) (not_h k (inr i)) (λ e. once.1.0 (subst (λ z. IsIn z ys) (sym (some_same y k (sym c.0 ∙ e))) i)))),
    )

pub record Unlinked (f' g' : ℕ → Option ℕ) (g : ℕ → Option ℕ) (f : ℕ → Option ℕ) (from link : Option ℕ) (h : ℕ) (hs : List ℕ) : Type 0 where
  pub at_head : g h ≡ from → IsChain f' g' from (f h) (without h hs)
  pub behind : g h ≢ from → IsChain f' g' from link (without h hs)

pub IsChain-unlink : (f g f' g' : ℕ → Option ℕ) (from link : Option ℕ) (h : ℕ) (hs : List ℕ) → IsChain f g from link hs → IsIn h hs → NoneTwice hs → ((k : ℕ) → IsIn k hs → from ≢ Some k) → Bridges f g f' g' h hs → Unlinked f' g' g f from link h hs
IsChain-unlink f g f' g' from link h [] c i once apart b = absurd i
IsChain-unlink f g f' g' from link h (y ∷ ys) c i once apart b =
    elim (cases_eq y h) [
      | inl same ↦
          (let gone : without h (y ∷ ys) ≡ ys = ap (λ x. without h (x ∷ ys)) same ∙ without-head h ys ∙ without-absent h ys (λ j. once.0 (subst (λ x. IsIn x ys) (sym same) j)) in
          let here : g h ≡ from = ap g (sym same) ∙ c.1 in
          let rest = subst (λ x. IsChain f g (Some x) (f x) ys) same c.2 in
          let once' = subst (λ x. NoneTwice (x ∷ ys)) same once in
          record {
            at_head = λ e. subst (IsChain f' g' from (f h)) (sym gone)
                (unlink_head f g f' g' from h ys rest here once' (λ k j. apart k (inr j)) (Bridges-tail f g f' g' h y ys b));
            behind = λ ne. absurd (ne here);
          })
      | inr differ ↦
          (let later : IsIn h ys = elim i [ inl is ↦ absurd (differ (sym is)) | inr r ↦ r ] in
          let keeps : without h (y ∷ ys) ≡ y ∷ without h ys = without-other h y ys differ in
          let apart' : (k : ℕ) → IsIn k ys → Some y ≢ Some k = λ k j e. once.0 (subst (λ x. IsIn x ys) (sym (some_same y k e)) j) in
          let u = IsChain-unlink f g f' g' (Some y) (f y) h ys c.2 later once.1 apart' (Bridges-tail f g f' g' h y ys b) in
          let not_from : g h ≢ from = λ e. elim (before_in_list f g (Some y) (f y) ys h c.2 later) [
            | inl first ↦ apart y (inl refl) (sym e ∙ first)
            | inr found ↦ apart found.0 (inr found.2) (sym e ∙ found.1)
          ] in
          let not_next : f h ≢ Some y = λ e. once.0 (next_in_list f g (Some y) (f y) ys h y c.2 later e) in
          let back : g' y ≡ from = b.before_kept y (inl refl) differ not_next ∙ c.1 in
          record {
            at_head = λ e. absurd (not_from e);
            behind = λ ne. subst (IsChain f' g' from link) (sym keeps) (
              c.0,
              back,
              elim (before_in_list f g (Some y) (f y) ys h c.2 later) [
                | inl first ↦ subst (λ l. IsChain f' g' (Some y) l (without h ys)) (sym (b.next_joined y (inl refl) first)) (u.at_head first)
                | inr found ↦
                    (let not_y : g h ≢ Some y = λ e. apart' found.0 found.2 (sym e ∙ found.1) in
                    subst (λ l. IsChain f' g' (Some y) l (without h ys)) (sym (b.next_kept y (inl refl) differ not_y)) (u.behind not_y))
              ],
            );
          })
    ]

-- what follows a clause by its link
pub following-next : (f g : ℕ → Option ℕ) (from link : Option ℕ) (hs : List ℕ) (h : ℕ) → IsChain f g from link hs → IsIn h hs → NoneTwice hs → following h hs ≡ f h
following-next f g from link [] h c i once = absurd i
following-next f g from link (x ∷ []) h c i once = elim (eqb_tells x h) [
  | inl same ↦ ap (λ b. cond b None None) same.0 ∙ sym (ap f (sym same.1) ∙ c.2)
  | inr differ ↦ elim i [ inl is ↦ absurd (differ.1 (sym is)) | inr bad ↦ absurd bad ]
]
following-next f g from link (x ∷ y ∷ ys) h c i once = elim (eqb_tells x h) [
  | inl same ↦ ap (λ b. cond b (Some y) (following h (y ∷ ys))) same.0 ∙ sym (ap f (sym same.1) ∙ c.2.0)
  | inr differ ↦ ap (λ b. cond b (Some y) (following h (y ∷ ys))) differ.0
      ∙ following-next f g (Some x) (f x) (y ∷ ys) h c.2 (elim i [ inl is ↦ absurd (differ.1 (sym is)) | inr r ↦ r ]) once.1
]

-- numbers below n of which none stands twice are at most n
tests_false : (x : ℕ) (xs : List ℕ) → (IsIn x xs → ⊥) → AllByRecursion (λ y. eqb x y ≡ false) xs
tests_false x [] a = tt
tests_false x (y ∷ ys) a = (elim (eqb_tells x y) [ inl same ↦ absurd (a (inl same.1)) | inr differ ↦ differ.0 ], tests_false x ys (λ i. a (inr i)))

pub IsDistinct-NoneTwice : (xs : List ℕ) → NoneTwice xs → IsDistinct eqb xs
unfolding IsDistinct
IsDistinct-NoneTwice [] n = tt
IsDistinct-NoneTwice (x ∷ xs) n = (tests_false x xs n.0, IsDistinct-NoneTwice xs n.1)

IsIn-any : (q : ℕ) (xs : List ℕ) → list_any (eqb q) xs ≡ true → IsIn q xs
IsIn-any q [] e = cc
IsIn-any q (x ∷ xs) e = elim (eqb_tells q x) [
  | inl same ↦ inl same.1
  | inr differ ↦ inr (IsIn-any q xs (sym (ap (λ b. b || list_any (eqb q) xs) differ.0) ∙ e))
]

pub length-le_NoneTwice : (xs : List ℕ) (n : ℕ) → NoneTwice xs → ((k : ℕ) → IsIn k xs → k < n) → length xs ≤ n
length-le_NoneTwice xs n once below = length-le_from_distinct_below xs n (IsDistinct-NoneTwice xs once) (λ q e. below q (IsIn-any q xs e))
