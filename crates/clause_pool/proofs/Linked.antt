-- The lists as a whole: a clause put first, a clause taken out, and a change outside of the lists.
use Rattle.std.proofs.Common.{◌≡◌, ℕ, zero, suc, ◌+◌, ◌<◌, ◌≢◌, ◌⊎◌, inl, inr, List, [], ◌∷◌, Option, Some, None, length, get_or, set, refl, sym, ◌∙◌, ap, subst, arith}
use Rattle.std.proofs.lemmas.Bool.{cases_eq}
use Rattle.std.proofs.lemmas.List.{ext_get_or, get_or-set_same, get_or-set_other, length-set, length-map}
use Rattle.clause_pool.specs.Blocks.{Block}
use Rattle.clause_pool.specs.PoolValue.{IsIn, NoneTwice, IsWatching, list_at, without, with_first, without_in}
use Rattle.clause_pool.specs.WatchLists.{IsChain, walk, lists_from, watch_lists, clauses_of, clause_in, next_of, before_of, heads_after, IsLinked, IsLinkedAs, RelinksBefore, SetsAfter, SetsBefore, LeadsToWatching}
use Rattle.clause_pool.specs.declared.lists.Previous.{Previous}
use Rattle.clause_pool.specs.declared.lists.WatchLists.{WatchLists}
use Rattle.clause_pool.proofs.Chains.{walk-chain, IsChain-same, IsChain-first, IsChain-unlink, IsIn-without, NoneTwice-without, next_in_list, before_in_list, length-le_NoneTwice, some_not_none, some_same}
use Rattle.clause_pool.proofs.ListSteps.{in_range_from_clause}

abbrev head_at : List (Option ℕ) → ℕ → Option ℕ
head_at heads l = get_or heads l None

pub IsLinked-kept : (C D : List (Option (List ℕ))) (N B M A : ℕ → ℕ → Option ℕ) (H : List (Option ℕ)) (W : List (List ℕ)) → IsLinked C N B H W → ((m k : ℕ) → m < length H → IsIn k (list_at W m) → IsWatching D m k × (M m k ≡ N m k) × (A m k ≡ B m k)) → IsLinked D M A H W
IsLinked-kept C D N B M A H W l same = record {
  same_length = l.same_length;
  chains = λ m lt. IsChain-same (N m) (B m) (M m) (A m) None (head_at H m) (list_at W m) (l.chains m lt) (λ k i. (same m k lt i).1) (λ k i. (same m k lt i).2);
  watching = λ m k lt i. (same m k lt i).0;
  once = l.once;
}

pub IsLinked-first : (C : List (Option (List ℕ))) (N B M A : ℕ → ℕ → Option ℕ) (H : List (Option ℕ)) (W : List (List ℕ)) (l h : ℕ) → IsLinked C N B H W → l < length H → IsWatching C l h → (IsIn h (list_at W l) → ⊥) → M l h ≡ head_at H l → ((m k : ℕ) → IsWatching C m k → (m ≢ l) ⊎ (k ≢ h) → M m k ≡ N m k) → A l h ≡ None → ((k : ℕ) → head_at H l ≡ Some k → A l k ≡ Some h) → ((m k : ℕ) → IsWatching C m k → (m ≢ l) ⊎ ((k ≢ h) × (head_at H l ≢ Some k)) → A m k ≡ B m k) → IsLinked C M A (set H l (Some h)) (with_first W l h)
IsLinked-first C N B M A H W l h linked lt w out next nexts before head befores =
    let lw : l < length W = subst (λ n. l < n) (sym linked.same_length) lt in
    let not_h : (k : ℕ) → IsIn k (list_at W l) → k ≢ h = λ k i e. out (subst (λ x. IsIn x (list_at W l)) e i) in
    let here : list_at (with_first W l h) l ≡ h ∷ list_at W l = get_or-set_same W l (h ∷ list_at W l) [] lw in
    let there : (m : ℕ) → m ≢ l → list_at (with_first W l h) m ≡ list_at W m = λ m ne. get_or-set_other W l m (h ∷ list_at W l) [] ne in
    let chain : IsChain (M l) (A l) None (Some h) (h ∷ list_at W l) =
    IsChain-first (N l) (B l) (M l) (A l) (head_at H l) h (list_at W l) (linked.chains l lt) (linked.once l lt) next before head
    (λ k i. nexts l k (linked.watching l k lt i) (inr (not_h k i)))
    (λ k i n. befores l k (linked.watching l k lt i) (inr (not_h k i, n))) in
    record {
      same_length = length-set W l (h ∷ list_at W l) ∙ linked.same_length ∙ sym (length-set H l (Some h));
      chains = λ m b. elim (cases_eq m l) [
        | inl e ↦ subst (λ x. IsChain (M x) (A x) None (head_at (set H l (Some h)) x) (list_at (with_first W l h) x)) (sym e)
            (subst (IsChain (M l) (A l) None (head_at (set H l (Some h)) l)) (sym here)
            (subst (λ k. IsChain (M l) (A l) None k (h ∷ list_at W l)) (sym (get_or-set_same H l (Some h) None lt)) chain))
        | inr ne ↦
            (let b' : m < length H = subst (λ n. m < n) (length-set H l (Some h)) b in
            subst (IsChain (M m) (A m) None (head_at (set H l (Some h)) m)) (sym (there m ne))
            (subst (λ k. IsChain (M m) (A m) None k (list_at W m)) (sym (get_or-set_other H l m (Some h) None ne))
            (IsChain-same (N m) (B m) (M m) (A m) None (head_at H m) (list_at W m) (linked.chains m b')
            (λ k i. nexts m k (linked.watching m k b' i) (inl ne)) (λ k i. befores m k (linked.watching m k b' i) (inl ne)))))
      ];
      watching = λ m k b i. elim (cases_eq m l) [
        | inl e ↦ elim (subst (IsIn k) (ap (list_at (with_first W l h)) e ∙ here) i) [
          | inl is ↦ subst (λ x. IsWatching C x k) (sym e) (subst (IsWatching C l) (sym is) w)
          | inr old ↦ subst (λ x. IsWatching C x k) (sym e) (linked.watching l k lt old)
        ]
        | inr ne ↦ linked.watching m k (subst (λ n. m < n) (length-set H l (Some h)) b) (subst (IsIn k) (there m ne) i)
      ];
      once = λ m b. elim (cases_eq m l) [
        | inl e ↦ subst NoneTwice (sym (ap (list_at (with_first W l h)) e ∙ here)) (out, linked.once l lt)
        | inr ne ↦ subst NoneTwice (sym (there m ne)) (linked.once m (subst (λ n. m < n) (length-set H l (Some h)) b))
      ];
    }

-- the list of the literal after a clause was taken out of it
head_after : (f g M A : ℕ → Option ℕ) (H : List (Option ℕ)) (l h : ℕ) (hs : List ℕ) (o : Option ℕ) → l < length H → g h ≡ o → (g h ≡ None → IsChain M A None (f h) hs) → (g h ≢ None → IsChain M A None (head_at H l) hs) → IsChain M A None (head_at (heads_after o H l (f h)) l) hs
head_after f g M A H l h hs None lt e first later = subst (λ k. IsChain M A None k hs) (sym (get_or-set_same H l (f h) None lt)) (first e)
head_after f g M A H l h hs (Some k) lt e first later = later (λ n. some_not_none k (sym e ∙ n))

head_apart : (H : List (Option ℕ)) (l m : ℕ) (o link : Option ℕ) → m ≢ l → head_at (heads_after o H l link) m ≡ head_at H m
head_apart H l m None link ne = get_or-set_other H l m link None ne
head_apart H l m (Some k) link ne = refl

pub length-heads_after : (o : Option ℕ) (H : List (Option ℕ)) (l : ℕ) (link : Option ℕ) → length (heads_after o H l link) ≡ length H
length-heads_after None H l link = length-set H l link
length-heads_after (Some k) H l link = refl

pub IsLinked-unlink : (C : List (Option (List ℕ))) (N B M A : ℕ → ℕ → Option ℕ) (H : List (Option ℕ)) (W : List (List ℕ)) (l h : ℕ) → IsLinked C N B H W → l < length H → IsIn h (list_at W l) → ((k : ℕ) → B l h ≡ Some k → M l k ≡ N l h) → ((m k : ℕ) → IsWatching C m k → (m ≢ l) ⊎ (B l h ≢ Some k) → M m k ≡ N m k) → ((k : ℕ) → N l h ≡ Some k → A l k ≡ B l h) → ((m k : ℕ) → IsWatching C m k → (m ≢ l) ⊎ (N l h ≢ Some k) → A m k ≡ B m k) → IsLinked C M A (heads_after (B l h) H l (N l h)) (without_in W l h)
IsLinked-unlink C N B M A H W l h linked lt inside next nexts before befores =
    let lw : l < length W = subst (λ n. l < n) (sym linked.same_length) lt in
    let lens = length-heads_after (B l h) H l (N l h) in
    let here : list_at (without_in W l h) l ≡ without h (list_at W l) = get_or-set_same W l (without h (list_at W l)) [] lw in
    let there : (m : ℕ) → m ≢ l → list_at (without_in W l h) m ≡ list_at W m = λ m ne. get_or-set_other W l m (without h (list_at W l)) [] ne in
    let u = IsChain-unlink (N l) (B l) (M l) (A l) None (head_at H l) h (list_at W l) (linked.chains l lt) inside (linked.once l lt)
    (λ k i e. some_not_none k (sym e))
    (record {
      next_joined = λ k i. next k;
      next_kept = λ k i ne n. nexts l k (linked.watching l k lt i) (inr n);
      before_joined = λ k i. before k;
      before_kept = λ k i ne n. befores l k (linked.watching l k lt i) (inr n);
    }) in
    record {
      same_length = length-set W l (without h (list_at W l)) ∙ linked.same_length ∙ sym lens;
      chains = λ m b. elim (cases_eq m l) [
        | inl e ↦ subst (λ x. IsChain (M x) (A x) None (head_at (heads_after (B l h) H l (N l h)) x) (list_at (without_in W l h) x)) (sym e)
            (subst (IsChain (M l) (A l) None (head_at (heads_after (B l h) H l (N l h)) l)) (sym here)
            (head_after (N l) (B l) (M l) (A l) H l h (without h (list_at W l)) (B l h) lt refl u.at_head u.behind))
        | inr ne ↦
            (let b' : m < length H = subst (λ n. m < n) lens b in
            subst (IsChain (M m) (A m) None (head_at (heads_after (B l h) H l (N l h)) m)) (sym (there m ne))
            (subst (λ k. IsChain (M m) (A m) None k (list_at W m)) (sym (head_apart H l m (B l h) (N l h) ne))
            (IsChain-same (N m) (B m) (M m) (A m) None (head_at H m) (list_at W m) (linked.chains m b')
            (λ k i. nexts m k (linked.watching m k b' i) (inl ne)) (λ k i. befores m k (linked.watching m k b' i) (inl ne)))))
      ];
      watching = λ m k b i. elim (cases_eq m l) [
        | inl e ↦ subst (λ x. IsWatching C x k) (sym e)
            (linked.watching l k lt (IsIn-without h k (list_at W l) (subst (IsIn k) (ap (list_at (without_in W l h)) e ∙ here) i)).0)
        | inr ne ↦ linked.watching m k (subst (λ n. m < n) lens b) (subst (IsIn k) (there m ne) i)
      ];
      once = λ m b. elim (cases_eq m l) [
        | inl e ↦ subst NoneTwice (sym (ap (list_at (without_in W l h)) e ∙ here)) (NoneTwice-without h (list_at W l) (linked.once l lt))
        | inr ne ↦ subst NoneTwice (sym (there m ne)) (linked.once m (subst (λ n. m < n) lens b))
      ];
    }

-- the lists that the links make
list_at-lists_from : (blocks : List (Option Block)) (a : ℕ) (H : List (Option ℕ)) (i : ℕ) → i < length H → list_at (lists_from blocks a H) i ≡ walk (length blocks) (next_of blocks (a + i)) (head_at H i)
list_at-lists_from blocks a [] i lt = absurd (omega arith)
list_at-lists_from blocks a (h ∷ hs) zero lt =
    (let e : a ≡ a + 0 = omega arith in ap (λ x. walk (length blocks) (next_of blocks x) h) e)
list_at-lists_from blocks a (h ∷ hs) (suc i) lt =
    (let e : a + 1 + i ≡ a + suc i = omega arith in
    list_at-lists_from blocks (a + 1) hs i (omega arith) ∙ ap (λ x. walk (length blocks) (next_of blocks x) (head_at hs i)) e)

length-lists_from : (blocks : List (Option Block)) (a : ℕ) (H : List (Option ℕ)) → length (lists_from blocks a H) ≡ length H
length-lists_from blocks a [] = refl
length-lists_from blocks a (h ∷ hs) = ap suc (length-lists_from blocks (a + 1) hs)

pub lists_are : (lists : WatchLists) (W : List (List ℕ)) → IsLinkedAs lists W → watch_lists lists ≡ W
lists_are lists W is =
    let l = is.linked in
    let blocks = lists.region.blocks in
    let H = lists.heads.items in
    ext_get_or [] (watch_lists lists) W (length-lists_from blocks 0 H ∙ sym l.same_length)
    (λ i b.
    let lt : i < length H = subst (λ n. i < n) (length-lists_from blocks 0 H) b in
    let e : 0 + i ≡ i = omega arith in
    list_at-lists_from blocks 0 H i lt
    ∙ ap (λ x. walk (length blocks) (next_of blocks x) (head_at H i)) e
    ∙ walk-chain (length blocks) (next_of blocks i) (before_of (clauses_of blocks) lists.previous.items i) None (head_at H i) (list_at W i) (l.chains i lt)
    (length-le_NoneTwice (list_at W i) (length blocks) (l.once i lt)
    (λ k j. in_range_from_clause blocks k (l.watching i k lt j).literals (l.watching i k lt j).found)))

head_in : (f g : ℕ → Option ℕ) (from link : Option ℕ) (hs : List ℕ) (h : ℕ) → IsChain f g from link hs → link ≡ Some h → IsIn h hs
head_in f g from link [] h c e = absurd (some_not_none h (sym e ∙ c))
head_in f g from link (k ∷ ks) h c e = inl (some_same h k (sym e ∙ c.0))

-- the same fact of equal parts
IsLinkedAs-from : (new : WatchLists) (C : List (Option (List ℕ))) (bs : List (Option Block)) (ps : List Previous) (H : List (Option ℕ)) (W : List (List ℕ)) → IsLinked C (next_of bs) (before_of C ps) H W → clauses_of bs ≡ C → new.region.blocks ≡ bs → new.previous.items ≡ ps → new.heads.items ≡ H → length new.previous.items ≡ length new.region.blocks → IsLinkedAs new W
IsLinkedAs-from new C bs ps H W l clauses blocks previous heads fit =
    let a = subst (λ cs. IsLinked cs (next_of bs) (before_of cs ps) H W) (sym clauses) l in
    let b = subst (λ xs. IsLinked (clauses_of bs) (next_of bs) (before_of (clauses_of bs) xs) H W) (sym previous) a in
    let d = subst (λ hs. IsLinked (clauses_of bs) (next_of bs) (before_of (clauses_of bs) new.previous.items) hs W) (sym heads) b in
    record {
      linked = subst (λ xs. IsLinked (clauses_of xs) (next_of xs) (before_of (clauses_of xs) new.previous.items) new.heads.items W) (sym blocks) d;
      previous_fit = fit;
    }

length-clauses : (bs cs : List (Option Block)) → clauses_of bs ≡ clauses_of cs → length bs ≡ length cs
length-clauses bs cs e = omega (arith, length-map bs clause_in, length-map cs clause_in, ap length e)

pub IsLinkedAs-first : (old one two three new : WatchLists) (l h : ℕ) (link : Option ℕ) → IsLinkedAs old (watch_lists old) → l < length old.heads.items → IsWatching (clauses_of old.region.blocks) l h → (IsIn h (list_at (watch_lists old) l) → ⊥) → link ≡ head_at old.heads.items l → SetsAfter old one l (Some h) link → SetsBefore one two l (Some h) None → SetsBefore two three l link (Some h) → new.region ≡ three.region → new.heads.items ≡ set three.heads.items l (Some h) → new.previous.items ≡ three.previous.items → IsLinkedAs new (with_first (watch_lists old) l h)
IsLinkedAs-first old one two three new l h link is lt w out head a b c region heads previous =
    let C = clauses_of old.region.blocks in
    let to_one : clauses_of one.region.blocks ≡ C = a.keeps.clauses in
    let to_two : clauses_of two.region.blocks ≡ C = ap (λ r. clauses_of r.blocks) b.region ∙ to_one in
    let r1 = a.links in
    let r2 = subst (λ cs. RelinksBefore cs one.previous.items two.previous.items l (Some h) None) to_one b.links in
    let r3 = subst (λ cs. RelinksBefore cs two.previous.items three.previous.items l link (Some h)) to_two c.links in
    let not_link : link ≢ Some h = λ e. out (head_in (next_of old.region.blocks l) (before_of C old.previous.items l) None (head_at old.heads.items l) (list_at (watch_lists old) l) h (is.linked.chains l lt) (sym head ∙ e)) in
    let back : (m k : ℕ) → before_of C one.previous.items m k ≡ before_of C old.previous.items m k = λ m k. ap (λ ps. before_of C ps m k) a.previous in
    let linked = IsLinked-first C (next_of old.region.blocks) (before_of C old.previous.items) (next_of one.region.blocks) (before_of C three.previous.items) old.heads.items (watch_lists old) l h is.linked lt w out
    (r1.here h refl ∙ head)
    (λ m k v apart. r1.others m k v (elim apart [ inl n ↦ inl n | inr n ↦ inr (λ e. n (sym (some_same h k e))) ]))
    (r3.others l h w (inr not_link) ∙ r2.here h refl)
    (λ k e. r3.here k (head ∙ e))
    (λ m k v apart.
    r3.others m k v (elim apart [ inl n ↦ inl n | inr n ↦ inr (λ e. n.1 (sym head ∙ e)) ])
    ∙ r2.others m k v (elim apart [ inl n ↦ inl n | inr n ↦ inr (λ e. n.0 (sym (some_same h k e))) ])
    ∙ back m k) in
    let blocks : new.region.blocks ≡ one.region.blocks = ap (λ r. r.blocks) (region ∙ c.region ∙ b.region) in
    IsLinkedAs-from new C one.region.blocks three.previous.items (set old.heads.items l (Some h)) (with_first (watch_lists old) l h) linked to_one blocks previous
    (heads ∙ ap (λ hs. set hs l (Some h)) (c.heads ∙ b.heads ∙ a.heads))
    (ap length previous ∙ c.previous_fit ∙ b.previous_fit ∙ ap length a.previous ∙ is.previous_fit ∙ sym (ap length blocks ∙ length-clauses one.region.blocks old.region.blocks to_one))

pub IsLinkedAs-unlink : (old one new : WatchLists) (l h : ℕ) → IsLinkedAs old (watch_lists old) → l < length old.heads.items → IsIn h (list_at (watch_lists old) l) → SetsAfter old one l (before_of (clauses_of old.region.blocks) old.previous.items l h) (next_of old.region.blocks l h) → SetsBefore one new l (next_of old.region.blocks l h) (before_of (clauses_of old.region.blocks) old.previous.items l h) → IsLinkedAs new (without_in (watch_lists old) l h)
IsLinkedAs-unlink old one new l h is lt inside a b =
    let C = clauses_of old.region.blocks in
    let N = next_of old.region.blocks in
    let B = before_of C old.previous.items in
    let to_one : clauses_of one.region.blocks ≡ C = a.keeps.clauses in
    let r1 = a.links in
    let r2 = subst (λ cs. RelinksBefore cs one.previous.items new.previous.items l (N l h) (B l h)) to_one b.links in
    let back : (m k : ℕ) → before_of C one.previous.items m k ≡ B m k = λ m k. ap (λ ps. before_of C ps m k) a.previous in
    let linked = IsLinked-unlink C N B (next_of one.region.blocks) (before_of C new.previous.items) old.heads.items (watch_lists old) l h is.linked lt inside
    r1.here r1.others r2.here (λ m k v apart. r2.others m k v apart ∙ back m k) in
    let blocks : new.region.blocks ≡ one.region.blocks = ap (λ r. r.blocks) b.region in
    IsLinkedAs-from new C one.region.blocks new.previous.items (heads_after (B l h) old.heads.items l (N l h)) (without_in (watch_lists old) l h) linked to_one blocks refl
    (b.heads ∙ a.heads)
    (b.previous_fit ∙ ap length a.previous ∙ is.previous_fit ∙ sym (ap length blocks ∙ length-clauses one.region.blocks old.region.blocks to_one))

-- the clauses that a link of a list leads to
pub LeadsToWatching-next : (old : WatchLists) (l h : ℕ) → IsLinkedAs old (watch_lists old) → l < length old.heads.items → IsIn h (list_at (watch_lists old) l) → LeadsToWatching (clauses_of old.region.blocks) l (next_of old.region.blocks l h)
LeadsToWatching-next old l h is lt inside k e =
    is.linked.watching l k lt (next_in_list (next_of old.region.blocks l) (before_of (clauses_of old.region.blocks) old.previous.items l) None (head_at old.heads.items l) (list_at (watch_lists old) l) h k (is.linked.chains l lt) inside e)

pub LeadsToWatching-before : (old : WatchLists) (l h : ℕ) → IsLinkedAs old (watch_lists old) → l < length old.heads.items → IsIn h (list_at (watch_lists old) l) → LeadsToWatching (clauses_of old.region.blocks) l (before_of (clauses_of old.region.blocks) old.previous.items l h)
LeadsToWatching-before old l h is lt inside k e =
    elim (before_in_list (next_of old.region.blocks l) (before_of (clauses_of old.region.blocks) old.previous.items l) None (head_at old.heads.items l) (list_at (watch_lists old) l) h (is.linked.chains l lt) inside) [
      | inl first ↦ absurd (some_not_none k (sym e ∙ first))
      | inr found ↦ is.linked.watching l k lt (subst (λ x. IsIn x (list_at (watch_lists old) l)) (some_same found.0 k (sym found.1 ∙ e)) found.2)
    ]

pub LeadsToWatching-head : (old : WatchLists) (l : ℕ) → IsLinkedAs old (watch_lists old) → l < length old.heads.items → LeadsToWatching (clauses_of old.region.blocks) l (head_at old.heads.items l)
LeadsToWatching-head old l is lt k e =
    is.linked.watching l k lt (head_in (next_of old.region.blocks l) (before_of (clauses_of old.region.blocks) old.previous.items l) None (head_at old.heads.items l) (list_at (watch_lists old) l) k (is.linked.chains l lt) e)
