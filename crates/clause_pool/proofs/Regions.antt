-- What each call of the region leaves of its blocks and of its layout.
use Rattle.std.proofs.Common.{◌≡◌, ℕ, zero, suc, ◌+◌, ◌^◌, ◌<◌, ◌≤◌, ◌≢◌, ◌⊎◌, inl, inr, List, [], ◌∷◌, ◌++◌, Option, Some, None, length, get_or, set, map, sum_by, refl, sym, ◌∙◌, ap, subst, arith}
use Rattle.std.proofs.lemmas.Bool.{cases_eq}
use Rattle.std.proofs.lemmas.List.{ext_get_or, get_or-set_same, get_or-set_other, length-set, length-map}
use Rattle.std.proofs.lemmas.List.Sums.{sum_by-set}
use Rattle.clause_pool.specs.Links.{no_link, link_of}
use Rattle.clause_pool.specs.Blocks.{Block, Piece, Live, Dead, IsLive, Tiles, IsTiled, IsFreeList, IsRegion, IsFreeChain, entry_at, entry_words, words_for, block_from, block_of, block_in, IsTaken, IsFreeEntry, WritesBlock, new_block}
use Rattle.clause_pool.specs.PoolValue.{IsIn, NoneTwice}
use Rattle.clause_pool.specs.declared.region.Entry.{Entry}
use Rattle.clause_pool.specs.declared.region.Entry.TheVariants.{Free, Taken}
use Rattle.clause_pool.proofs.Tiles.{LiesWithin, LiesWithin-from_Tiles, apart_from_Tiles, Tiles-kept, Tiles-append, Tiles-inside, Forgets-from_Tiles, IsLive-append_left, IsLive-append_right, live_words-append, part_moved}

pub block_in-map : (ws : List ℕ) (es : List Entry) (c : ℕ) → block_in (map (block_of ws) es) c ≡ block_of ws (entry_at es c)
block_in-map ws [] c = refl
block_in-map ws (e ∷ es) zero = refl
block_in-map ws (e ∷ es) (suc c) = block_in-map ws es c

pub in_range_from_taken : (es : List Entry) (c : ℕ) → IsTaken (entry_at es c) → c < length es
in_range_from_taken [] c h = absurd h
in_range_from_taken (e ∷ es) zero h = omega arith
in_range_from_taken (e ∷ es) (suc c) h = omega (arith, in_range_from_taken es c h)

pub in_range_from_place : (es : List Entry) (c q n : ℕ) → entry_at es c ≡ Taken q n → c < length es
in_range_from_place es c q n a = in_range_from_taken es c (subst IsTaken (sym a) tt)

pub IsLive-taken : (ws : List ℕ) (es : List Entry) (p e : ℕ) (ps : List Piece) (c : ℕ) → Tiles ws es p e ps → IsLive c ps → IsTaken (entry_at es c)
IsLive-taken ws es p e [] c t h = absurd h
IsLive-taken ws es p e (Live o n ∷ ps) c t h =
    elim h [
      | inl is ↦ subst IsTaken (sym (ap (entry_at es) is ∙ t.1)) tt
      | inr r ↦ IsLive-taken ws es (p + words_for n) e ps c t.2 r
    ]
IsLive-taken ws es p e (Dead n ∷ ps) c t h = IsLive-taken ws es (p + words_for n) e ps c t.2 h

pub lies : (ws : List ℕ) (es : List Entry) (used : ℕ) → IsTiled ws es used → (c q n : ℕ) → entry_at es c ≡ Taken q n → LiesWithin ws 0 used c q n
lies ws es used t c q n a = LiesWithin-from_Tiles ws es 0 used t.pieces c q n t.tiles (t.all_live c q n a) a

pub place_fits : (ws : List ℕ) (es : List Entry) (used : ℕ) (free : Option ℕ) → IsRegion ws es used free → (c q n : ℕ) → entry_at es c ≡ Taken q n → q + words_for n ≤ length ws
place_fits ws es used free r c q n a = omega (arith, (lies ws es used r.tiled c q n a).high, r.within)

pub block_is : (blocks : List (Option Block)) (ws : List ℕ) (es : List Entry) (c q n : ℕ) → map (block_of ws) es ≡ blocks → entry_at es c ≡ Taken q n → block_in blocks c ≡ Some (block_from ws q n)
block_is blocks ws es c q n same a = ap (λ bs. block_in bs c) (sym same) ∙ block_in-map ws es c ∙ ap (block_of ws) a

-- blocks that agree but for one
pub blocks-set : (ws vs : List ℕ) (es fs : List Entry) (c : ℕ) (b : Option Block) → length fs ≡ length es → c < length es → ((k : ℕ) → k ≢ c → block_of vs (entry_at fs k) ≡ block_of ws (entry_at es k)) → block_of vs (entry_at fs c) ≡ b → map (block_of vs) fs ≡ set (map (block_of ws) es) c b
blocks-set ws vs es fs c b len lt others this =
    ext_get_or None (map (block_of vs) fs) (set (map (block_of ws) es) c b) (length-map fs (block_of vs) ∙ len ∙ sym (length-map es (block_of ws)) ∙ sym (length-set (map (block_of ws) es) c b))
    (λ k h. elim (cases_eq k c) [
      | inl is ↦ ap (λ i. block_in (map (block_of vs) fs) i) is ∙ block_in-map vs fs c ∙ this
          ∙ sym (get_or-set_same (map (block_of ws) es) c b None (subst (λ n. c < n) (sym (length-map es (block_of ws))) lt))
          ∙ ap (λ i. get_or (set (map (block_of ws) es) c b) i None) (sym is)
      | inr ne ↦ block_in-map vs fs k ∙ others k ne ∙ sym (block_in-map ws es k) ∙ sym (get_or-set_other (map (block_of ws) es) c k b None ne)
    ])

pub blocks-same : (ws vs : List ℕ) (es fs : List Entry) → length fs ≡ length es → ((k : ℕ) → block_of vs (entry_at fs k) ≡ block_of ws (entry_at es k)) → map (block_of vs) fs ≡ map (block_of ws) es
blocks-same ws vs es fs len same =
    ext_get_or None (map (block_of vs) fs) (map (block_of ws) es) (length-map fs (block_of vs) ∙ len ∙ sym (length-map es (block_of ws)))
    (λ k h. block_in-map vs fs k ∙ same k ∙ sym (block_in-map ws es k))

abbrev make_block : Option ℕ → Option ℕ → List ℕ → Block
make_block a b ls = record { first_next = a; second_next = b; literals = ls }

pub make_block-same : (a b c d : Option ℕ) (ls ms : List ℕ) → a ≡ c → b ≡ d → ls ≡ ms → make_block a b ls ≡ make_block c d ms
make_block-same a b c d ls ms p q r = ap (λ x. make_block x b ls) p ∙ ap (λ x. make_block c x ls) q ∙ ap (make_block c d) r

-- a clause's words, moved
pub block_from-moved : (ws vs : List ℕ) (a b n : ℕ) → a + words_for n ≤ length ws → b + words_for n ≤ length vs → ((i : ℕ) → i < words_for n → get_or vs (b + i) 0 ≡ get_or ws (a + i) 0) → block_from vs b n ≡ block_from ws a n
block_from-moved ws vs a b n fit fit' same =
    make_block-same _ _ _ _ _ _
    (ap link_of (same 1 (omega arith)))
    (ap link_of (same 2 (omega arith)))
    (part_moved ws vs (a + 3) (b + 3) n (omega arith) (omega arith)
    (λ i h. let e : b + 3 + i ≡ b + (3 + i) = omega arith in let f : a + (3 + i) ≡ a + 3 + i = omega arith in
    ap (λ j. get_or vs j 0) e ∙ same (3 + i) (omega arith) ∙ ap (λ j. get_or ws j 0) f))

pub block_from-kept : (ws vs : List ℕ) (a n : ℕ) → a + words_for n ≤ length ws → length vs ≡ length ws → ((i : ℕ) → a ≤ i → i < a + words_for n → get_or vs i 0 ≡ get_or ws i 0) → block_from vs a n ≡ block_from ws a n
block_from-kept ws vs a n fit len same = block_from-moved ws vs a a n fit (omega arith) (λ i h. same (a + i) (omega arith) (omega arith))

pub block_of-cases : (ws vs : List ℕ) (e : Entry) → ((q n : ℕ) → e ≡ Taken q n → block_from vs q n ≡ block_from ws q n) → block_of vs e ≡ block_of ws e
block_of-cases ws vs (Free next) h = refl
block_of-cases ws vs (Taken q n) h = ap Some (h q n refl)

-- a write in one clause leaves the others
pub block_of-apart : (ws vs : List ℕ) (es : List Entry) (used : ℕ) (c q n : ℕ) → IsTiled ws es used → used ≤ length ws → length vs ≡ length ws → entry_at es c ≡ Taken q n → ((i : ℕ) → (i < q) ⊎ (q + words_for n ≤ i) → get_or vs i 0 ≡ get_or ws i 0) → (k : ℕ) → k ≢ c → block_of vs (entry_at es k) ≡ block_of ws (entry_at es k)
block_of-apart ws vs es used c q n t within len a same k ne =
    block_of-cases ws vs (entry_at es k) (λ r m b.
    let w = lies ws es used t k r m b in
    let high = w.high in
    block_from-kept ws vs r m (omega arith) len (λ i l h.
    elim (apart_from_Tiles ws es 0 used t.pieces k r m c q n t.tiles (t.all_live k r m b) (t.all_live c q n a) b a ne) [
      | inl before ↦ same i (inl (omega arith))
      | inr after ↦ same i (inr (omega arith))
    ]))

-- a write behind a clause's handle
pub IsRegion-inside : (ws vs : List ℕ) (es : List Entry) (used : ℕ) (free : Option ℕ) (c q n : ℕ) → IsRegion ws es used free → length vs ≡ length ws → entry_at es c ≡ Taken q n → ((i : ℕ) → (i ≤ q) ⊎ (q + words_for n ≤ i) → get_or vs i 0 ≡ get_or ws i 0) → IsRegion vs es used free
IsRegion-inside ws vs es used free c q n r len a same =
    let t = r.tiled in
    record {
      tiled = record { pieces = t.pieces; tiles = Tiles-inside ws vs es 0 used t.pieces c q n t.tiles (t.all_live c q n a) a same; all_live = t.all_live; total = t.total };
      free_list = r.free_list;
      within = subst (λ l. used ≤ l) (sym len) r.within;
      words_fit = subst (λ l. l < 2 ^ 32) (sym len) r.words_fit;
      handles_fit = r.handles_fit;
    }

pub IsFreeChain-kept : (es fs : List Entry) (link : Option ℕ) (hs : List ℕ) → length fs ≡ length es → IsFreeChain es link hs → ((k : ℕ) → IsIn k hs → entry_at fs k ≡ entry_at es k) → IsFreeChain fs link hs
IsFreeChain-kept es fs link [] len f kept = f
IsFreeChain-kept es fs link (h ∷ hs) len f kept =
    (f.0, subst (λ l. h < l) (sym len) f.1, (f.2.0, kept h (inl refl) ∙ f.2.1, IsFreeChain-kept es fs f.2.0 hs len f.2.2 (λ k i. kept k (inr i))))

pub IsIn-free : (es : List Entry) (link : Option ℕ) (hs : List ℕ) (k : ℕ) → IsFreeChain es link hs → IsIn k hs → IsFreeEntry (entry_at es k)
IsIn-free es link [] k f i = absurd i
IsIn-free es link (h ∷ hs) k f i =
    elim i [
      | inl is ↦ subst IsFreeEntry (sym (ap (entry_at es) is ∙ f.2.1)) tt
      | inr r ↦ IsIn-free es f.2.0 hs k f.2.2 r
    ]

pub not_both : (e : Entry) → IsFreeEntry e → IsTaken e → ⊥
not_both (Free next) f t = t
not_both (Taken q n) f t = f

pub entry_at-set_same : (es : List Entry) (c : ℕ) (e : Entry) → c < length es → entry_at (set es c e) c ≡ e
entry_at-set_same es c e h = get_or-set_same es c e (Free None) h

pub entry_at-set_other : (es : List Entry) (c d : ℕ) (e : Entry) → d ≢ c → entry_at (set es c e) d ≡ entry_at es d
entry_at-set_other es c d e ne = get_or-set_other es c d e (Free None) ne

pub sum-set_entry : (es : List Entry) (c : ℕ) (e : Entry) → c < length es → sum_by entry_words (set es c e) + entry_words (entry_at es c) ≡ sum_by entry_words es + entry_words e
sum-set_entry es c e h = sum_by-set entry_words es c e (Free None) h

pub not_taken : (next : Option ℕ) (q n : ℕ) → Free next ≡ Taken q n → ⊥
not_taken next q n e = cc

-- `forget`
pub IsTiled-forget : (ws vs : List ℕ) (es : List Entry) (used c q n : ℕ) (link : Option ℕ) → IsTiled ws es used → entry_at es c ≡ Taken q n → get_or vs q 0 ≡ no_link → get_or vs (q + 1) 0 ≡ n → ((i : ℕ) → i ≢ q → i ≢ q + 1 → get_or vs i 0 ≡ get_or ws i 0) → IsTiled vs (set es c (Free link)) used
IsTiled-forget ws vs es used c q n link t a mark size same =
    let fs = set es c (Free link) in
    let lt = in_range_from_place es c q n a in
    let f = Forgets-from_Tiles ws vs es fs 0 used t.pieces c q n t.tiles (t.all_live c q n a) a mark size same (λ d ne. entry_at-set_other es c d (Free link) ne) in
    let s = sum-set_entry es c (Free link) lt in
    let e : entry_words (entry_at es c) ≡ words_for n = ap entry_words a in
    record {
      pieces = f.pieces;
      tiles = f.tiles;
      all_live = λ d r m b. elim (cases_eq d c) [
        | inl is ↦ absurd (not_taken link r m (sym (entry_at-set_same es c (Free link) lt) ∙ ap (entry_at fs) (sym is) ∙ b))
        | inr ne ↦ f.others d ne (t.all_live d r m (sym (entry_at-set_other es c d (Free link) ne) ∙ b))
      ];
      total = omega (arith, f.total, t.total);
    }

pub IsFreeList-forget : (es : List Entry) (free : Option ℕ) (c q n : ℕ) → IsFreeList es free → entry_at es c ≡ Taken q n → IsFreeList (set es c (Free free)) (Some c)
IsFreeList-forget es free c q n f a =
    let fs = set es c (Free free) in
    let lt = in_range_from_place es c q n a in
    let fresh : IsIn c f.handles → ⊥ = λ i. not_both (entry_at es c) (IsIn-free es free f.handles c f.chain i) (subst IsTaken (sym a) tt) in
    record {
      handles = c ∷ f.handles;
      chain = (
        refl,
        subst (λ l. c < l) (sym (length-set es c (Free free))) lt,
        (
          free,
          entry_at-set_same es c (Free free) lt,
          IsFreeChain-kept es fs free f.handles (length-set es c (Free free)) f.chain
              (λ k i. entry_at-set_other es c k (Free free) (λ is. fresh (subst (λ x. IsIn x f.handles) is i))),
        ),
      );
      distinct = (fresh, f.distinct);
      all_free = λ k next l b. elim (cases_eq k c) [
        | inl is ↦ inl is
        | inr ne ↦ inr (f.all_free k next (subst (λ x. k < x) (length-set es c (Free free)) l) (sym (entry_at-set_other es c k (Free free) ne) ∙ b))
      ];
    }

pub IsRegion-forget : (ws : List ℕ) (es : List Entry) (used : ℕ) (free : Option ℕ) (c q n : ℕ) → IsRegion ws es used free → entry_at es c ≡ Taken q n → IsRegion (set (set ws q no_link) (q + 1) n) (set es c (Free free)) used (Some c)
IsRegion-forget ws es used free c q n r a =
    let vs = set (set ws q no_link) (q + 1) n in
    let fit = place_fits ws es used free r c q n a in
    let len : length vs ≡ length ws = length-set (set ws q no_link) (q + 1) n ∙ length-set ws q no_link in
    let len' = length-set ws q no_link in
    record {
      tiled = IsTiled-forget ws vs es used c q n free r.tiled a
          (get_or-set_other (set ws q no_link) (q + 1) q n 0 (omega arith) ∙ get_or-set_same ws q no_link 0 (omega arith))
          (get_or-set_same (set ws q no_link) (q + 1) n 0 (omega arith))
          (λ i h k. get_or-set_other (set ws q no_link) (q + 1) i n 0 k ∙ get_or-set_other ws q i no_link 0 h);
      free_list = IsFreeList-forget es free c q n r.free_list a;
      within = subst (λ l. used ≤ l) (sym len) r.within;
      words_fit = subst (λ l. l < 2 ^ 32) (sym len) r.words_fit;
      handles_fit = subst (λ l. l < 2 ^ 32) (sym (length-set es c (Free free))) r.handles_fit;
    }

pub blocks-forget : (ws : List ℕ) (es : List Entry) (used : ℕ) (free : Option ℕ) (c q n : ℕ) → IsRegion ws es used free → entry_at es c ≡ Taken q n → map (block_of (set (set ws q no_link) (q + 1) n)) (set es c (Free free)) ≡ set (map (block_of ws) es) c None
blocks-forget ws es used free c q n r a =
    let vs = set (set ws q no_link) (q + 1) n in
    let lt = in_range_from_place es c q n a in
    let len : length vs ≡ length ws = length-set (set ws q no_link) (q + 1) n ∙ length-set ws q no_link in
    blocks-set ws vs es (set es c (Free free)) c None (length-set es c (Free free)) lt
    (λ k ne. ap (block_of vs) (entry_at-set_other es c k (Free free) ne)
    ∙ block_of-apart ws vs es used c q n r.tiled r.within len a
    (λ i h. get_or-set_other (set ws q no_link) (q + 1) i n 0 (omega arith) ∙ get_or-set_other ws q i no_link 0 (omega arith)) k ne)
    (ap (block_of vs) (entry_at-set_same es c (Free free) lt))

-- `put`
pub IsTiled-put : (ws vs : List ℕ) (es : List Entry) (used c : ℕ) (next : Option ℕ) (ls : List ℕ) → IsTiled ws es used → c < length es → entry_at es c ≡ Free next → WritesBlock ws vs used c ls → IsTiled vs (set es c (Taken used (length ls))) (used + words_for (length ls))
IsTiled-put ws vs es used c next ls t lt a w =
    let n = length ls in
    let fs = set es c (Taken used n) in
    let s = sum-set_entry es c (Taken used n) lt in
    let e : entry_words (entry_at es c) ≡ 0 = ap entry_words a in
    record {
      pieces = t.pieces ++ Live c n ∷ [];
      tiles = Tiles-append vs fs 0 used (used + words_for n) t.pieces (Live c n ∷ [])
          (Tiles-kept ws vs es fs 0 used t.pieces t.tiles (λ i l h. w.below i h)
          (λ d live. entry_at-set_other es c d (Taken used n) (λ is.
          not_both (entry_at es c) (subst IsFreeEntry (sym a) tt) (subst (λ x. IsTaken (entry_at es x)) is (IsLive-taken ws es 0 used t.pieces d t.tiles live)))))
          (w.handle, entry_at-set_same es c (Taken used n) lt, refl);
      all_live = λ d r m b. elim (cases_eq d c) [
        | inl is ↦ IsLive-append_right d t.pieces (Live c n ∷ []) (inl is)
        | inr ne ↦ IsLive-append_left d t.pieces (Live c n ∷ []) (t.all_live d r m (sym (entry_at-set_other es c d (Taken used n) ne) ∙ b))
      ];
      total = omega (arith, t.total, live_words-append t.pieces (Live c n ∷ []));
    }

free_next : (x y : Option ℕ) → Free x ≡ Free y → x ≡ y
free_next x y e = cc

some_same : (x y : ℕ) → Some x ≡ Some y → x ≡ y
some_same x y e = cc

some_not_none : (x : ℕ) → Some x ≡ None → ⊥
some_not_none x e = cc

IsFreeList-pop : (es : List Entry) (c q n : ℕ) (next : Option ℕ) (hs : List ℕ) → IsFreeChain es (Some c) hs → NoneTwice hs → ((k : ℕ) (link : Option ℕ) → k < length es → entry_at es k ≡ Free link → IsIn k hs) → entry_at es c ≡ Free next → IsFreeList (set es c (Taken q n)) next
IsFreeList-pop es c q n next [] f distinct all a = absurd (some_not_none c f)
IsFreeList-pop es c q n next (h ∷ hs) f distinct all a =
    let is : c ≡ h = some_same c h f.0 in
    let fs = set es c (Taken q n) in
    let lt : c < length es = subst (λ x. x < length es) (sym is) f.1 in
    let after : next ≡ f.2.0 = free_next next f.2.0 (sym a ∙ ap (entry_at es) is ∙ f.2.1) in
    let others : (k : ℕ) → IsIn k hs → k ≢ c = λ k i e. distinct.0 (subst (λ x. IsIn x hs) (e ∙ is) i) in
    record {
      handles = hs;
      chain = subst (λ l. IsFreeChain fs l hs) (sym after)
          (IsFreeChain-kept es fs f.2.0 hs (length-set es c (Taken q n)) f.2.2 (λ k i. entry_at-set_other es c k (Taken q n) (others k i)));
      distinct = distinct.1;
      all_free = λ k link l b. elim (cases_eq k c) [
        | inl e ↦ absurd (not_taken link q n (sym b ∙ ap (entry_at fs) e ∙ entry_at-set_same es c (Taken q n) lt))
        | inr ne ↦
            elim (all k link (subst (λ x. k < x) (length-set es c (Taken q n)) l) (sym (entry_at-set_other es c k (Taken q n) ne) ∙ b)) [
              | inl e ↦ absurd (ne (e ∙ sym is))
              | inr later ↦ later
            ]
      ];
    }

pub IsFreeList-put : (es : List Entry) (c q n : ℕ) (next : Option ℕ) → IsFreeList es (Some c) → entry_at es c ≡ Free next → IsFreeList (set es c (Taken q n)) next
IsFreeList-put es c q n next f a = IsFreeList-pop es c q n next f.handles f.chain f.distinct f.all_free a

-- what the head of the free handles is
pub free_head : (es : List Entry) (c : ℕ) (hs : List ℕ) → IsFreeChain es (Some c) hs → (c < length es) × IsFreeEntry (entry_at es c)
free_head es c [] f = absurd (some_not_none c f)
free_head es c (h ∷ hs) f =
    let is : c ≡ h = some_same c h f.0 in
    (subst (λ x. x < length es) (sym is) f.1, subst IsFreeEntry (sym (ap (entry_at es) is ∙ f.2.1)) tt)

pub IsRegion-put : (ws vs : List ℕ) (es : List Entry) (used c : ℕ) (next : Option ℕ) (ls : List ℕ) → IsRegion ws es used (Some c) → length vs ≡ length ws → used + words_for (length ls) ≤ length ws → entry_at es c ≡ Free next → WritesBlock ws vs used c ls → IsRegion vs (set es c (Taken used (length ls))) (used + words_for (length ls)) next
IsRegion-put ws vs es used c next ls r len fit a w =
    let f = r.free_list in
    let n = length ls in
    record {
      tiled = IsTiled-put ws vs es used c next ls r.tiled (free_head es c f.handles f.chain).0 a w;
      free_list = IsFreeList-put es c used n next f a;
      within = subst (λ l. used + words_for n ≤ l) (sym len) fit;
      words_fit = subst (λ l. l < 2 ^ 32) (sym len) r.words_fit;
      handles_fit = subst (λ l. l < 2 ^ 32) (sym (length-set es c (Taken used n))) r.handles_fit;
    }

pub blocks-put : (ws vs : List ℕ) (es : List Entry) (used c : ℕ) (free : Option ℕ) (ls : List ℕ) → IsRegion ws es used free → length vs ≡ length ws → c < length es → WritesBlock ws vs used c ls → map (block_of vs) (set es c (Taken used (length ls))) ≡ set (map (block_of ws) es) c (new_block ls)
blocks-put ws vs es used c free ls r len lt w =
    let n = length ls in
    let fs = set es c (Taken used n) in
    blocks-set ws vs es fs c (new_block ls) (length-set es c (Taken used n)) lt
    (λ k ne. ap (block_of vs) (entry_at-set_other es c k (Taken used n) ne)
    ∙ block_of-cases ws vs (entry_at es k) (λ q m b.
    let l = lies ws es used r.tiled k q m b in
    let high = l.high in
    block_from-kept ws vs q m (omega (arith, r.within)) len (λ i h g. w.below i (omega arith))))
    (ap (block_of vs) (entry_at-set_same es c (Taken used n) lt)
    ∙ ap Some (make_block-same _ _ _ _ _ _ (ap link_of w.first) (ap link_of w.second) w.written))

no_block : (ws : List ℕ) (e : Entry) → IsFreeEntry e → block_of ws e ≡ None
no_block ws (Free next) h = refl
no_block ws (Taken q n) h = absurd h

pub fresh_block : (ws : List ℕ) (es : List Entry) (c : ℕ) → (c < length es) × IsFreeEntry (entry_at es c) → (c < length (map (block_of ws) es)) × (block_in (map (block_of ws) es) c ≡ None)
fresh_block ws es c h = (omega (arith, h.0, length-map es (block_of ws)), block_in-map ws es c ∙ no_block ws (entry_at es c) h.1)
