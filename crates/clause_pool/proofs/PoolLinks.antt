-- What the calls leave of the links, and of the pool as callers see it.
use Rattle.std.proofs.Common.{◌≡◌, ℕ, zero, suc, ◌+◌, ◌<◌, ◌≤◌, ◌≢◌, inl, inr, List, [], ◌∷◌, Option, Some, None, IsSome, cond, eqb, length, get_or, set, map, replicate, sum_by, refl, sym, ◌∙◌, ap, subst, arith, rules, slice_get}
use Rattle.std.specs.List.{All, swap}
use Rattle.std.proofs.lemmas.Bool.{cases_eq}
use Rattle.std.proofs.lemmas.Bool.Decides.{eqb_tells}
use Rattle.std.proofs.lemmas.List.{ext_get_or, get_or-set_same, get_or-set_other, get_or-replicate, length-set, length-map, length-replicate, map-set, get_or-map}
use Rattle.std.proofs.lemmas.List.Sums.{sum_by-cons}
use Rattle.clause_pool.specs.Blocks.{Block, block_in, literals_of, literals_in, block_words, put_block, replaced, compacted, new_block, with_swapped, empty_region}
use Rattle.clause_pool.specs.PoolValue.{PoolValue, IsIn, IsInNone, IsFree, IsFull, NoneTwice, IsWatched, IsWatching, IsSound, clause_at, or_empty, literals_at, list_at, words_of, clause_words, with_first, without, without_in, with_watches, empty_pool, put_clause, forget_clause, compact_pool, place_of, swap_watched, following}
use Rattle.clause_pool.specs.WatchLists.{clause_in, clauses_of, side_in, side_of, place_on, next_on, next_of, before_on, before_of, no_previous, watch_lists, pool_value, IsChain, IsLinked, IsLinkedAs, IsPool, KeepsClauses}
use Rattle.clause_pool.specs.declared.lists.Previous.{Previous}
use Rattle.clause_pool.specs.declared.lists.WatchLists.{WatchLists}
use Rattle.clause_pool.specs.declared.region.Side.{Side}
use Rattle.clause_pool.specs.declared.region.Side.TheVariants.{First, Second}
use Rattle.clause_pool.proofs.Chains.{IsIn-without, without-absent, following-next}
use Rattle.clause_pool.proofs.ListSteps.{clause_at-clauses_of, in_range_from_clause}
use Rattle.clause_pool.proofs.Linked.{IsLinked-kept, lists_are}
use Rattle.clause_pool.proofs.Sound.{some_literals, none_literals, absent_from_lists}
use Rattle.clause_pool.proofs.Swapped.{swaps, other_of, place_is, IsIn-without_in, differ_at, length-without_in}

or_empty-clause_in : (b : Option Block) → literals_in b ≡ or_empty (clause_in b)
or_empty-clause_in None = refl
or_empty-clause_in (Some b) = refl

pub literals_of-clauses : (blocks : List (Option Block)) (c : ℕ) → literals_of blocks c ≡ literals_at (clauses_of blocks) c
literals_of-clauses blocks c = or_empty-clause_in (block_in blocks c) ∙ ap or_empty (sym (clause_at-clauses_of blocks c))

-- a clause in use, with its literals
found_literals : (o : Option (List ℕ)) → IsSome o → o ≡ Some (or_empty o)
found_literals None s = absurd (no_some s)
  where
    no_some : IsSome {T = List ℕ} None → ⊥
    no_some s = search rules
found_literals (Some ls) s = refl

pub found_at : (C : List (Option (List ℕ))) (c : ℕ) → IsSome (clause_at C c) → clause_at C c ≡ Some (literals_at C c)
found_at C c s = found_literals (clause_at C c) s

pub is_some_clause : (C : List (Option (List ℕ))) (c : ℕ) (ls : List ℕ) → clause_at C c ≡ Some ls → IsSome (clause_at C c)
is_some_clause C c ls e = subst (IsSome {T = List ℕ}) (sym e) (search rules)

pub clauses_of-set : (blocks : List (Option Block)) (c : ℕ) (b : Option Block) → clauses_of (set blocks c b) ≡ set (clauses_of blocks) c (clause_in b)
clauses_of-set blocks c b = map-set clause_in blocks c b

-- a change of a clause that is in no list
linked_away : (bs cs : List (Option Block)) (P : List Previous) (H : List (Option ℕ)) (W : List (List ℕ)) (c : ℕ) → ((k : ℕ) → k ≢ c → block_in cs k ≡ block_in bs k) → IsInNone c W → IsLinked (clauses_of bs) (next_of bs) (before_of (clauses_of bs) P) H W → IsLinked (clauses_of cs) (next_of cs) (before_of (clauses_of cs) P) H W
linked_away bs cs P H W c same out l =
    let clause : (k : ℕ) → k ≢ c → clause_at (clauses_of cs) k ≡ clause_at (clauses_of bs) k = λ k ne. clause_at-clauses_of cs k ∙ ap clause_in (same k ne) ∙ sym (clause_at-clauses_of bs k) in
    IsLinked-kept (clauses_of bs) (clauses_of cs) (next_of bs) (before_of (clauses_of bs) P) (next_of cs) (before_of (clauses_of cs) P) H W l
    (λ m k lt i.
    let ne : k ≢ c = λ e. out m (subst (λ n. m < n) (sym l.same_length) lt) (subst (λ x. IsIn x (list_at W m)) e i) in
    let w = l.watching m k lt i in (
      record { literals = w.literals; found = clause k ne ∙ w.found; watched = w.watched },
      ap (λ o. next_on (side_in (or_empty o) m) (block_in cs k)) (clause k ne) ∙ ap (next_on (side_of (clauses_of bs) m k)) (same k ne),
      ap (λ o. before_on (side_in (or_empty o) m) (get_or P k no_previous)) (clause k ne),
    ))

pub IsLinkedAs-away : (old new : WatchLists) (W : List (List ℕ)) (c : ℕ) (b : Option Block) → IsLinkedAs old W → IsInNone c W → new.region.blocks ≡ set old.region.blocks c b → new.heads.items ≡ old.heads.items → new.previous.items ≡ old.previous.items → IsLinkedAs new W
IsLinkedAs-away old new W c b is out blocks heads previous =
    let l = linked_away old.region.blocks new.region.blocks old.previous.items old.heads.items W c
    (λ k ne. ap (λ bs. block_in bs k) blocks ∙ get_or-set_other old.region.blocks c k b None ne) out is.linked in
    let C = clauses_of new.region.blocks in
    record {
      linked = subst (λ ps. IsLinked C (next_of new.region.blocks) (before_of C ps) new.heads.items W) (sym previous)
          (subst (λ hs. IsLinked C (next_of new.region.blocks) (before_of C old.previous.items) hs W) (sym heads) l);
      previous_fit = ap length previous ∙ is.previous_fit ∙ sym (ap length blocks ∙ length-set old.region.blocks c b);
    }

abbrev pool_of : List (Option (List ℕ)) → List (List ℕ) → ℕ → ℕ → PoolValue
pool_of C W used words = record { clauses = C; watches = W; used = used; words = words }

pub pool_value-is : (new : WatchLists) (W : List (List ℕ)) (C : List (Option (List ℕ))) (used words : ℕ) → IsLinkedAs new W → clauses_of new.region.blocks ≡ C → new.region.used ≡ used → new.region.words ≡ words → pool_value new ≡ pool_of C W used words
pool_value-is new W C used words is clauses u w =
    ap (λ x. pool_of x (watch_lists new) new.region.used new.region.words) clauses
    ∙ ap (λ x. pool_of C x new.region.used new.region.words) (lists_are new W is)
    ∙ ap (λ x. pool_of C W x new.region.words) u
    ∙ ap (pool_of C W used) w

pub IsPool-from : (new : WatchLists) (W : List (List ℕ)) (v : PoolValue) → IsLinkedAs new W → pool_value new ≡ v → IsSound v → IsPool new
IsPool-from new W v is same s = record {
  linked = subst (IsLinkedAs new) (sym (lists_are new W is)) is;
  sound = subst IsSound (sym same) s;
}

-- `open`
pub IsLinkedAs-open : (new : WatchLists) (words handles literals : ℕ) → new.region ≡ empty_region words handles → new.heads.items ≡ replicate literals None → length new.previous.items ≡ handles → IsLinkedAs new (replicate literals [])
IsLinkedAs-open new words handles literals region heads previous =
    let none : (m : ℕ) → m < length new.heads.items → list_at (replicate literals []) m ≡ [] =
    λ m b. get_or-replicate literals m [] [] (omega (arith, ap length heads, length-replicate {A = Option ℕ} literals None)) in
    record {
      linked = record {
        same_length = length-replicate literals [] ∙ sym (ap length heads ∙ length-replicate literals None);
        chains = λ m b. subst (IsChain (next_of new.region.blocks m) (before_of (clauses_of new.region.blocks) new.previous.items m) None (get_or new.heads.items m None)) (sym (none m b))
            (ap (λ hs. get_or hs m None) heads ∙ get_or-replicate literals m None None (omega (arith, ap length heads, length-replicate {A = Option ℕ} literals None)));
        watching = λ m k b i. absurd (subst (IsIn k) (none m b) i);
        once = λ m b. subst NoneTwice (sym (none m b)) tt;
      };
      previous_fit = previous ∙ sym (ap (λ r. length r.blocks) region ∙ length-replicate handles None);
    }

no_clauses : (n : ℕ) → clauses_of (replicate n None) ≡ replicate n None
no_clauses zero = refl
no_clauses (suc n) = ap (λ cs. None ∷ cs) (no_clauses n)

pub pool_value-open : (new : WatchLists) (words handles literals : ℕ) → IsLinkedAs new (replicate literals []) → new.region ≡ empty_region words handles → pool_value new ≡ empty_pool words handles literals
pool_value-open new words handles literals is region =
    pool_value-is new (replicate literals []) (replicate handles None) 0 words is
    (ap (λ r. clauses_of r.blocks) region ∙ no_clauses handles) (ap (λ r. r.used) region) (ap (λ r. r.words) region)

-- `put`
some_blocks : (b : Option Block) → IsSome b → IsSome (clause_in b)
some_blocks None s = absurd (no_some s)
  where
    no_some : IsSome {T = Block} None → ⊥
    no_some s = search rules
some_blocks (Some b) s = search rules

pub all_clauses : (blocks : List (Option Block)) → All (IsSome {T = Block}) blocks → All (IsSome {T = List ℕ}) (clauses_of blocks)
all_clauses blocks a k d lt =
    let l : k < length blocks = omega (arith, length-map blocks clause_in) in
    subst (IsSome {T = List ℕ}) (sym (get_or-map clause_in blocks k None d l)) (some_blocks (get_or blocks k None) (a k None l))

pub free_clause : (old : WatchLists) (c : ℕ) → (c < length old.region.blocks) × (block_in old.region.blocks c ≡ None) → IsFree (pool_value old) c
free_clause old c h =
    (omega (arith, h.0, length-map old.region.blocks clause_in), clause_at-clauses_of old.region.blocks c ∙ ap clause_in h.1)

no_some_clause : (o : Option (List ℕ)) → o ≡ None → IsSome o → ⊥
no_some_clause None e s = search rules
no_some_clause (Some ls) e s = none_literals ls (sym e)

pub not_full : (v : PoolValue) (c n : ℕ) → v.used + clause_words n ≤ v.words → IsFree v c → IsFull v n → ⊥
not_full v c n fits free full = elim full [
  | inl over ↦ omega arith
  | inr all ↦ no_some_clause (clause_at v.clauses c) free.1 (all c None free.0)
]

pub outside_when_free : (old : WatchLists) (c : ℕ) → IsPool old → IsFree (pool_value old) c → IsInNone c (watch_lists old)
outside_when_free old c p free m lt i = absent_from_lists (pool_value old) c m p.sound free.1 lt i

pub clauses-put : (blocks : List (Option Block)) (c : ℕ) (ls : List ℕ) → c < length blocks → clause_at (clauses_of (set blocks c (new_block ls))) c ≡ Some ls
clauses-put blocks c ls lt =
    clause_at-clauses_of (set blocks c (new_block ls)) c ∙ ap clause_in (get_or-set_same blocks c (new_block ls) None lt)

pub with_watches-short : (W : List (List ℕ)) (c : ℕ) (ls : List ℕ) → length ls < 2 → with_watches W c ls ≡ W
with_watches-short W c [] lt = refl
with_watches-short W c (a ∷ []) lt = refl
with_watches-short W c (a ∷ b ∷ rest) lt = absurd (omega arith)

pub with_watches-two : (W : List (List ℕ)) (c : ℕ) (ls : List ℕ) → 2 ≤ length ls → with_watches W c ls ≡ with_first (with_first W (get_or ls 1 0) c) (get_or ls 0 0) c
with_watches-two W c [] le = absurd (omega arith)
with_watches-two W c (a ∷ []) le = absurd (omega arith)
with_watches-two W c (a ∷ b ∷ rest) le = refl

pub pool_value-put : (old one new : WatchLists) (c : ℕ) (ls : List ℕ) → IsPool old → one.region ≡ put_block old.region c ls → watch_lists one ≡ watch_lists old → IsLinkedAs new (with_watches (watch_lists one) c ls) → KeepsClauses one new → pool_value new ≡ put_clause (pool_value old) c ls
pool_value-put old one new c ls p region lists is keeps =
    pool_value-is new (with_watches (watch_lists old) c ls) (set (clauses_of old.region.blocks) c (Some ls)) (old.region.used + clause_words (length ls)) old.region.words
    (subst (λ W. IsLinkedAs new (with_watches W c ls)) lists is)
    (keeps.clauses ∙ ap (λ r. clauses_of r.blocks) region ∙ clauses_of-set old.region.blocks c (new_block ls))
    (keeps.used ∙ ap (λ r. r.used) region) (keeps.words ∙ ap (λ r. r.words) region)

-- `forget`
map_without-from : (W V : List (List ℕ)) (c : ℕ) → length V ≡ length W → ((m : ℕ) → m < length W → list_at V m ≡ without c (list_at W m)) → V ≡ map (without c) W
map_without-from W V c len same =
    ext_get_or [] V (map (without c) W) (len ∙ sym (length-map W (without c)))
    (λ m b. let lt : m < length W = omega arith in same m lt ∙ sym (get_or-map (without c) W m [] [] lt))

pub out_of_short : (old : WatchLists) (c : ℕ) → IsPool old → length (literals_of old.region.blocks c) < 2 → IsInNone c (watch_lists old)
out_of_short old c p short m lt i =
    let w = (p.sound.watching m c lt).0 i in
    let e : literals_at (clauses_of old.region.blocks) c ≡ w.literals = ap or_empty w.found in
    omega (arith, w.watched.two, ap length (literals_of-clauses old.region.blocks c ∙ e))

pub map_without-short : (old : WatchLists) (c : ℕ) → IsInNone c (watch_lists old) → watch_lists old ≡ map (without c) (watch_lists old)
map_without-short old c out = map_without-from (watch_lists old) (watch_lists old) c refl (λ m lt. sym (without-absent c (list_at (watch_lists old) m) (out m lt)))

pub map_without-two : (old : WatchLists) (c : ℕ) (ls : List ℕ) → IsPool old → clause_at (clauses_of old.region.blocks) c ≡ Some ls → 2 ≤ length ls → without_in (without_in (watch_lists old) (get_or ls 0 0) c) (get_or ls 1 0) c ≡ map (without c) (watch_lists old)
map_without-two old c ls p found two =
    let W = watch_lists old in
    let a = get_or ls 0 0 in
    let b = get_or ls 1 0 in
    let V = without_in W a c in
    let below = p.sound.below c ls found in
    let la : a < length W = below 0 0 (omega arith) in
    let lb : b < length W = below 1 0 (omega arith) in
    let lbv : b < length V = subst (λ n. b < n) (sym (length-without_in W a c)) lb in
    let ne : b ≢ a = differ_at ls 1 0 (p.sound.different c ls found) (omega arith) (omega arith) (omega arith) in
    map_without-from W (without_in V b c) c (length-without_in V b c ∙ length-without_in W a c)
    (λ m lt. elim (cases_eq m b) [
      | inl e ↦ ap (list_at (without_in V b c)) e ∙ get_or-set_same V b (without c (list_at V b)) [] lbv
          ∙ ap (without c) (get_or-set_other W a b (without c (list_at W a)) [] ne) ∙ ap (λ x. without c (list_at W x)) (sym e)
      | inr n ↦ get_or-set_other V b m (without c (list_at V b)) [] n ∙ elim (cases_eq m a) [
        | inl e ↦ ap (list_at V) e ∙ get_or-set_same W a (without c (list_at W a)) [] la ∙ ap (λ x. without c (list_at W x)) (sym e)
        | inr n' ↦ get_or-set_other W a m (without c (list_at W a)) [] n'
            ∙ sym (without-absent c (list_at W m) (λ i.
            (let w = (p.sound.watching m c lt).0 i in
            let side = subst (λ xs. IsWatched xs m) (some_literals w.literals ls (sym w.found ∙ found)) w.watched in
            elim side.side [ inl x ↦ n' (sym x) | inr x ↦ n (sym x) ])))
      ]
    ])

pub IsInNone-without : (c : ℕ) (W : List (List ℕ)) → IsInNone c (map (without c) W)
IsInNone-without c W m lt i =
    (let l : m < length W = omega (arith, length-map W (without c)) in
    (IsIn-without c c (list_at W m) (subst (IsIn c) (get_or-map (without c) W m [] [] l) i)).1 refl)

pub pool_value-forget : (old one new : WatchLists) (c : ℕ) → IsLinkedAs new (map (without c) (watch_lists old)) → KeepsClauses old one → new.region ≡ replaced one.region c None → pool_value new ≡ forget_clause (pool_value old) c
pool_value-forget old one new c is keeps region =
    pool_value-is new (map (without c) (watch_lists old)) (set (clauses_of old.region.blocks) c None) old.region.used old.region.words is
    (ap (λ r. clauses_of r.blocks) region ∙ clauses_of-set one.region.blocks c None ∙ ap (λ cs. set cs c None) keeps.clauses)
    (ap (λ r. r.used) region ∙ keeps.used) (ap (λ r. r.words) region ∙ keeps.words)

-- `compact`
sum_words_of : (blocks : List (Option Block)) → sum_by block_words blocks ≡ sum_by words_of (clauses_of blocks)
sum_words_of [] = refl
sum_words_of (None ∷ bs) = omega (arith, sum_words_of bs, sum_by-cons block_words None bs, sum_by-cons words_of None (clauses_of bs))
sum_words_of (Some b ∷ bs) = omega (arith, sum_words_of bs, sum_by-cons block_words (Some b) bs, sum_by-cons words_of (Some b.literals) (clauses_of bs))

pub IsLinkedAs-same : (old new : WatchLists) (W : List (List ℕ)) → IsLinkedAs old W → new.region.blocks ≡ old.region.blocks → new.heads.items ≡ old.heads.items → new.previous.items ≡ old.previous.items → IsLinkedAs new W
IsLinkedAs-same old new W is blocks heads previous =
    let l = subst (λ bs. IsLinked (clauses_of bs) (next_of bs) (before_of (clauses_of bs) old.previous.items) old.heads.items W) (sym blocks) is.linked in
    let C = clauses_of new.region.blocks in
    record {
      linked = subst (λ ps. IsLinked C (next_of new.region.blocks) (before_of C ps) new.heads.items W) (sym previous)
          (subst (λ hs. IsLinked C (next_of new.region.blocks) (before_of C old.previous.items) hs W) (sym heads) l);
      previous_fit = ap length previous ∙ is.previous_fit ∙ sym (ap length blocks);
    }

pub pool_value-compact : (old new : WatchLists) → IsLinkedAs new (watch_lists old) → new.region ≡ compacted old.region → pool_value new ≡ compact_pool (pool_value old)
pool_value-compact old new is region =
    pool_value-is new (watch_lists old) (clauses_of old.region.blocks) (sum_by words_of (clauses_of old.region.blocks)) old.region.words is
    (ap (λ r. clauses_of r.blocks) region) (ap (λ r. r.used) region ∙ sum_words_of old.region.blocks) (ap (λ r. r.words) region)

-- `first_watch` and `next_watch`
head_of_chain : (f g : ℕ → Option ℕ) (from link : Option ℕ) (hs : List ℕ) → IsChain f g from link hs → link ≡ slice_get hs 0
head_of_chain f g from link [] c = c
head_of_chain f g from link (h ∷ hs) c = c.0

pub first_is : (old : WatchLists) (l : ℕ) → IsPool old → l < length (watch_lists old) → get_or old.heads.items l None ≡ slice_get (list_at (watch_lists old) l) 0
first_is old l p lt =
    head_of_chain _ _ None (get_or old.heads.items l None) (list_at (watch_lists old) l) (p.linked.linked.chains l (subst (λ n. l < n) p.linked.linked.same_length lt))

pub next_is : (old : WatchLists) (l h : ℕ) → IsPool old → l < length (watch_lists old) → IsWatching (clauses_of old.region.blocks) l h → next_of old.region.blocks l h ≡ following h (list_at (watch_lists old) l)
next_is old l h p lt w =
    let b : l < length old.heads.items = subst (λ n. l < n) p.linked.linked.same_length lt in
    sym (following-next (next_of old.region.blocks l) (before_of (clauses_of old.region.blocks) old.previous.items l) None (get_or old.heads.items l None) (list_at (watch_lists old) l) h
    (p.linked.linked.chains l b) ((p.sound.watching l h lt).1 w) (p.linked.linked.once l b))

-- `swap_watch`
clause_in-with_swapped : (p q : ℕ) (b : Option Block) (ls : List ℕ) → clause_in b ≡ Some ls → clause_in (with_swapped p q b) ≡ Some (swap ls p q)
clause_in-with_swapped p q None ls e = absurd (none_literals ls e)
clause_in-with_swapped p q (Some b) ls e = ap (λ xs. Some (swap xs p q)) (some_literals b.literals ls e)

next_on-with_swapped : (s : Option Side) (p q : ℕ) (b : Option Block) → next_on s (with_swapped p q b) ≡ next_on s b
next_on-with_swapped None p q b = refl
next_on-with_swapped (Some First) p q None = refl
next_on-with_swapped (Some First) p q (Some b) = refl
next_on-with_swapped (Some Second) p q None = refl
next_on-with_swapped (Some Second) p q (Some b) = refl

-- the clause is in no list of the literal that it left, and its literals have changed places
pub record SwapStep (old two : WatchLists) (c watched at : ℕ) (ls : List ℕ) : Type 0 where
  pub linked : IsLinkedAs two (without_in (watch_lists old) watched c)
  pub watching : IsWatching (clauses_of two.region.blocks) (get_or ls at 0) c
  pub outside : IsIn c (list_at (without_in (watch_lists old) watched c) (get_or ls at 0)) → ⊥
  pub clauses : clauses_of two.region.blocks ≡ set (clauses_of old.region.blocks) c (Some (swap ls (place_of ls watched) at))
  pub in_range : get_or ls at 0 < length (watch_lists old)

pub swap_step : (old one two : WatchLists) (c watched at place : ℕ) (ls : List ℕ) → IsPool old → watched < length (watch_lists old) → clause_at (clauses_of old.region.blocks) c ≡ Some ls → IsWatched ls watched → 2 ≤ at → at < length ls → place ≡ place_of ls watched → IsLinkedAs one (without_in (watch_lists old) watched c) → KeepsClauses old one → two.region ≡ replaced one.region c (with_swapped place at (block_in one.region.blocks c)) → two.heads.items ≡ one.heads.items → two.previous.items ≡ one.previous.items → SwapStep old two c watched at ls
swap_step old one two c watched at place ls pool lw found w low high where_ is keeps region heads previous =
    let W = watch_lists old in
    let C = clauses_of old.region.blocks in
    let V = without_in W watched c in
    let ms = swap ls (place_of ls watched) at in
    let C1 = clauses_of one.region.blocks in
    let C2 = clauses_of two.region.blocks in
    let moved = get_or ls at 0 in
    let other = other_of ls watched in
    let sw = swaps ls watched at (pool.sound.different c ls found) w low high in
    let found1 : clause_at C1 c ≡ Some ls = ap (λ x. clause_at x c) keeps.clauses ∙ found in
    let b = block_in one.region.blocks c in
    let in_b : clause_in b ≡ Some ls = sym (clause_at-clauses_of one.region.blocks c) ∙ found1 in
    let blocks : two.region.blocks ≡ set one.region.blocks c (with_swapped place at b) = ap (λ r. r.blocks) region in
    let swapped : clause_in (with_swapped place at b) ≡ Some ms = clause_in-with_swapped place at b ls in_b ∙ ap (λ p. Some (swap ls p at)) where_ in
    let clauses : C2 ≡ set C c (Some ms) = ap clauses_of blocks ∙ clauses_of-set one.region.blocks c (with_swapped place at b) ∙ ap (λ o. set C1 c o) swapped ∙ ap (λ x. set x c (Some ms)) keeps.clauses in
    let lt : c < length one.region.blocks = in_range_from_clause one.region.blocks c ls found1 in
    let here : block_in two.region.blocks c ≡ with_swapped place at b = ap (λ bs. block_in bs c) blocks ∙ get_or-set_same one.region.blocks c (with_swapped place at b) None lt in
    let found2 : clause_at C2 c ≡ Some ms = clause_at-clauses_of two.region.blocks c ∙ ap clause_in here ∙ swapped in
    let there : (k : ℕ) → k ≢ c → block_in two.region.blocks k ≡ block_in one.region.blocks k = λ k ne. ap (λ bs. block_in bs k) blocks ∙ get_or-set_other one.region.blocks c k (with_swapped place at b) None ne in
    let clause : (k : ℕ) → k ≢ c → clause_at C2 k ≡ clause_at C1 k = λ k ne. clause_at-clauses_of two.region.blocks k ∙ ap clause_in (there k ne) ∙ sym (clause_at-clauses_of one.region.blocks k) in
    let below = pool.sound.below c ls found in
    let lm : moved < length W = below at 0 high in
    let of_c : (m : ℕ) → m < length W → IsIn c (list_at W m) → IsWatched ls m = λ m b i.
    (let v = (pool.sound.watching m c b).0 i in subst (λ xs. IsWatched xs m) (some_literals v.literals ls (sym v.found ∙ found)) v.watched) in
    let P = one.previous.items in
    let H = one.heads.items in
    let l = IsLinked-kept C1 C2 (next_of one.region.blocks) (before_of C1 P) (next_of two.region.blocks) (before_of C2 P) H V is.linked
    (λ m k bound i. elim (cases_eq k c) [
      | inl e ↦
          (let bw : m < length W = subst (λ n. m < n) (sym is.linked.same_length ∙ length-without_in W watched c) bound in
          let r = IsIn-without_in W watched c m k lw i in
          let m_is : m ≡ other = elim (sw.was m (of_c m bw (subst (λ x. IsIn x (list_at W m)) e r.0))) [ inl bad ↦ absurd (r.1 bad e) | inr good ↦ good ] in
          let side : side_in ms m ≡ side_in ls m = ap (side_in ms) m_is ∙ sw.side ∙ ap (side_in ls) (sym m_is) in
          let side2 : side_of C2 m c ≡ side_in ls m = ap (λ o. side_in (or_empty o) m) found2 ∙ side in
          let side1 : side_of C1 m c ≡ side_in ls m = ap (λ o. side_in (or_empty o) m) found1 in (
            record { literals = ms; found = ap (clause_at C2) e ∙ found2; watched = subst (IsWatched ms) (sym m_is) sw.now_other },
            ap (next_of two.region.blocks m) e ∙ ap (next_on (side_of C2 m c)) here ∙ next_on-with_swapped (side_of C2 m c) place at b
                ∙ ap (λ s. next_on s b) (side2 ∙ sym side1) ∙ ap (next_of one.region.blocks m) (sym e),
            ap (before_of C2 P m) e ∙ ap (λ s. before_on s (get_or P c no_previous)) (side2 ∙ sym side1) ∙ ap (before_of C1 P m) (sym e),
          ))
      | inr ne ↦
          (let v = is.linked.watching m k bound i in (
            record { literals = v.literals; found = clause k ne ∙ v.found; watched = v.watched },
            ap (λ o. next_on (side_in (or_empty o) m) (block_in two.region.blocks k)) (clause k ne) ∙ ap (next_on (side_of C1 m k)) (there k ne),
            ap (λ o. before_on (side_in (or_empty o) m) (get_or P k no_previous)) (clause k ne),
          ))
    ]) in
    record {
      linked = record {
        linked = subst (λ ps. IsLinked C2 (next_of two.region.blocks) (before_of C2 ps) two.heads.items V) (sym previous)
            (subst (λ hs. IsLinked C2 (next_of two.region.blocks) (before_of C2 P) hs V) (sym heads) l);
        previous_fit = ap length previous ∙ is.previous_fit ∙ sym (ap length blocks ∙ length-set one.region.blocks c (with_swapped place at b));
      };
      watching = record { literals = ms; found = found2; watched = sw.now_moved };
      outside = λ i.
          (let r = IsIn-without_in W watched c moved c lw i in
          elim (sw.was moved (of_c moved lm r.0)) [ inl bad ↦ sw.moved_not_watched bad | inr bad ↦ sw.moved_not_other bad ]);
      clauses = clauses;
      in_range = lm;
    }

pub place_on-side : (ls : List ℕ) (l : ℕ) (side : Side) → IsWatched ls l → side_in ls l ≡ Some side → place_on side ≡ place_of ls l
place_on-side ls l side w e = elim (eqb_tells (get_or ls 0 0) l) [
  | inl first ↦
      ap place_on (some_side side First (sym e ∙ ap (λ b. cond b (Some First) (cond (eqb (get_or ls 1 0) l) (Some Second) None)) first.0))
      ∙ sym (ap (λ b. cond b 0 1) first.0)
  | inr second ↦
      (let is : get_or ls 1 0 ≡ l = elim w.side [ inl bad ↦ absurd (second.1 bad) | inr good ↦ good ] in
      ap place_on (some_side side Second (sym e ∙ ap (λ b. cond b (Some First) (cond (eqb (get_or ls 1 0) l) (Some Second) None)) second.0
      ∙ elim (eqb_tells (get_or ls 1 0) l) [ inl same ↦ ap (λ b. cond b (Some Second) None) same.0 | inr differ ↦ absurd (differ.1 is) ]))
      ∙ sym (ap (λ b. cond b 0 1) second.0))
]
  where
    some_side : (x y : Side) → Some x ≡ Some y → x ≡ y
    some_side x y e = cc

pub pool_value-swap : (old two new : WatchLists) (c watched at : ℕ) (ls : List ℕ) → clause_at (clauses_of old.region.blocks) c ≡ Some ls → SwapStep old two c watched at ls → two.region.used ≡ old.region.used → two.region.words ≡ old.region.words → IsLinkedAs new (with_first (watch_lists two) (get_or ls at 0) c) → KeepsClauses two new → pool_value new ≡ swap_watched (pool_value old) c watched at
pool_value-swap old two new c watched at ls found step used words is keeps =
    let same : literals_at (clauses_of old.region.blocks) c ≡ ls = ap or_empty found in
    subst (λ xs. pool_value new ≡ pool_of (set (clauses_of old.region.blocks) c (Some (swap xs (place_of xs watched) at))) (with_first (without_in (watch_lists old) watched c) (get_or xs at 0) c) old.region.used old.region.words) (sym same)
    (pool_value-is new (with_first (without_in (watch_lists old) watched c) (get_or ls at 0) c) (set (clauses_of old.region.blocks) c (Some (swap ls (place_of ls watched) at))) old.region.used old.region.words
    (subst (λ W. IsLinkedAs new (with_first W (get_or ls at 0) c)) (lists_are two (without_in (watch_lists old) watched c) step.linked) is)
    (keeps.clauses ∙ step.clauses) (keeps.used ∙ used) (keeps.words ∙ words))

pub watched_in_range : (old : WatchLists) (c watched : ℕ) → IsPool old → IsWatching (clauses_of old.region.blocks) watched c → watched < length (watch_lists old)
watched_in_range old c watched p w =
    let at = place_is w.literals watched w.watched in
    subst (λ x. x < length (watch_lists old)) at.1 (p.sound.below c w.literals w.found (place_of w.literals watched) 0 (omega (arith, at.0, w.watched.two)))
