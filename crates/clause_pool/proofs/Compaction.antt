-- A compaction, piece by piece.
use Rattle.std.proofs.Common.{◌≡◌, ℕ, suc, ◌+◌, ◌-◌, ◌^◌, ◌<◌, ◌≤◌, ◌≢◌, ◌⊎◌, inl, inr, List, [], ◌∷◌, ◌++◌, Option, Some, length, get_or, drop, set, map, sum_by, refl, sym, ◌∙◌, ap, subst, arith}
use Rattle.std.specs.List.{CopiedTo, SameBelow, SameFrom}
use Rattle.std.proofs.lemmas.Bool.{cases_eq}
use Rattle.std.proofs.lemmas.List.Sums.{sum_by-cons}
use Rattle.std.proofs.lemmas.List.{length-set, length-take-le, length-drop}
use Rattle.clause_pool.specs.Links.{no_link}
use Rattle.clause_pool.specs.Blocks.{Piece, Live, Dead, IsLive, live_words, Tiles, IsTiled, IsRegion, IsFreeList, entry_at, entry_words, words_for, block_from, block_of, block_words, IsTaken, IsFreeEntry, IsHalfCompacted, SameBlocks}
use Rattle.clause_pool.specs.declared.region.Entry.{Entry}
use Rattle.clause_pool.specs.declared.region.Entry.TheVariants.{Free, Taken}
use Rattle.clause_pool.proofs.Tiles.{le_from_Tiles, LiesWithin-from_Tiles, Tiles-kept, Tiles-append, IsLive-append_left, IsLive-append_right, live_words-append}
use Rattle.clause_pool.proofs.RegionWrites.{region_with}
use Rattle.clause_pool.proofs.Regions.{not_taken, not_both, IsIn-free, IsFreeChain-kept, in_range_from_place, sum-set_entry, entry_at-set_same, entry_at-set_other, blocks-same, block_from-moved, block_from-kept, block_of-cases}

pub IsHalfCompacted-start : (ws : List ℕ) (es : List Entry) (used : ℕ) (free : Option ℕ) → IsRegion ws es used free → IsHalfCompacted ws es 0 0 used
IsHalfCompacted-start ws es used free r =
    let t = r.tiled in
    record {
      done = [];
      rest = t.pieces;
      moved = refl;
      left = t.tiles;
      all_live = λ c q n a. inr (t.all_live c q n a);
      total = refl;
      both = omega (arith, t.total);
      behind = omega arith;
      within = r.within;
      words_fit = r.words_fit;
      handles_fit = r.handles_fit;
    }

left_over : (c : ℕ) (done : List Piece) → IsLive c done ⊎ ⊥ → IsLive c done
left_over c done h = elim h [ inl l ↦ l | inr bad ↦ absurd bad ]

IsTiled-pieces : (ws : List ℕ) (es : List Entry) (from to end : ℕ) (done rest : List Piece) → Tiles ws es 0 to done → Tiles ws es from end rest → end ≤ from → ((c q n : ℕ) → entry_at es c ≡ Taken q n → IsLive c done ⊎ IsLive c rest) → live_words done ≡ to → sum_by entry_words es ≡ to + live_words rest → IsTiled ws es to × (to ≡ sum_by entry_words es) × (from ≡ end)
IsTiled-pieces ws es from to end done [] m l over all total both =
    (record { pieces = done; tiles = m; all_live = λ c q n a. left_over c done (all c q n a); total = omega arith }, omega arith, l)
IsTiled-pieces ws es from to end done (Live c n ∷ rest) m l over all total both = absurd (omega (arith, le_from_Tiles ws es (from + words_for n) end rest l.2))
IsTiled-pieces ws es from to end done (Dead n ∷ rest) m l over all total both = absurd (omega (arith, le_from_Tiles ws es (from + words_for n) end rest l.2))

pub IsTiled-end : (ws : List ℕ) (es : List Entry) (from to end : ℕ) → IsHalfCompacted ws es from to end → end ≤ from → IsTiled ws es to × (to ≡ sum_by entry_words es) × (from ≡ end)
IsTiled-end ws es from to end h over = IsTiled-pieces ws es from to end h.done h.rest h.moved h.left over h.all_live h.total h.both

-- a clause that was forgotten
pub record Skips (ws : List ℕ) (es : List Entry) (from to end : ℕ) : Type 0 where
  pub fits : from + words_for (get_or ws (from + 1) 0) ≤ end
  pub half : IsHalfCompacted ws es (from + words_for (get_or ws (from + 1) 0)) to end

skips : (ws : List ℕ) (es : List Entry) (from to end : ℕ) (done rest : List Piece) → Tiles ws es 0 to done → Tiles ws es from end rest → ((c q n : ℕ) → entry_at es c ≡ Taken q n → IsLive c done ⊎ IsLive c rest) → live_words done ≡ to → sum_by entry_words es ≡ to + live_words rest → to ≤ from → end ≤ length ws → length ws < 2 ^ 32 → length es < 2 ^ 32 → from < end → get_or ws from 0 ≡ no_link → Skips ws es from to end
skips ws es from to end done [] m l all total both behind within wf hf more mark = absurd (omega arith)
skips ws es from to end done (Live c n ∷ rest) m l all total both behind within wf hf more mark =
    absurd (omega (arith, in_range_from_place es c from n l.1, l.0))
skips ws es from to end done (Dead n ∷ rest) m l all total both behind within wf hf more mark =
    let left = subst (λ k. Tiles ws es (from + words_for k) end rest) (sym l.1) l.2 in
    record {
      fits = le_from_Tiles ws es (from + words_for (get_or ws (from + 1) 0)) end rest left;
      half = record {
        done = done;
        rest = rest;
        moved = m;
        left = left;
        all_live = all;
        total = total;
        both = both;
        behind = omega arith;
        within = within;
        words_fit = wf;
        handles_fit = hf;
      };
    }

pub Skips-from_half : (ws : List ℕ) (es : List Entry) (from to end : ℕ) → IsHalfCompacted ws es from to end → from < end → get_or ws from 0 ≡ no_link → Skips ws es from to end
Skips-from_half ws es from to end h more mark =
    skips ws es from to end h.done h.rest h.moved h.left h.all_live h.total h.both h.behind h.within h.words_fit h.handles_fit more mark

-- a clause in use
pub record LiesHere (ws : List ℕ) (es : List Entry) (from end c : ℕ) : Type 0 where
  pub count : ℕ
  pub entry : entry_at es c ≡ Taken from count
  pub fits : from + words_for count ≤ end

lies_here : (ws : List ℕ) (es : List Entry) (from end c : ℕ) (rest : List Piece) → Tiles ws es from end rest → from < end → get_or ws from 0 ≡ c → c < no_link → LiesHere ws es from end c
lies_here ws es from end c [] l more here small = absurd (omega arith)
lies_here ws es from end c (Live o n ∷ rest) l more here small =
    record { count = n; entry = ap (entry_at es) (sym here ∙ l.0) ∙ l.1; fits = le_from_Tiles ws es (from + words_for n) end rest l.2 }
lies_here ws es from end c (Dead n ∷ rest) l more here small = absurd (omega (arith, l.0))

pub LiesHere-from_half : (ws : List ℕ) (es : List Entry) (from to end c : ℕ) → IsHalfCompacted ws es from to end → from < end → get_or ws from 0 ≡ c → c < no_link → LiesHere ws es from end c
LiesHere-from_half ws es from to end c h more here small = lies_here ws es from end c h.rest h.left more here small

-- the words with a part of them copied to a place before it
pub record Copies (ws vs : List ℕ) (from to size : ℕ) : Type 0 where
  pub copied : (i : ℕ) → i < size → get_or vs (to + i) 0 ≡ get_or ws (from + i) 0
  pub below : (i : ℕ) → i < to → get_or vs i 0 ≡ get_or ws i 0
  pub above : (i : ℕ) → to + size ≤ i → get_or vs i 0 ≡ get_or ws i 0
  pub same_length : length vs ≡ length ws

pub IsFreeList-moved : (es : List Entry) (free : Option ℕ) (c q n r m : ℕ) → entry_at es c ≡ Taken q n → IsFreeList es free → IsFreeList (set es c (Taken r m)) free
IsFreeList-moved es free c q n r m a f =
    let fs = set es c (Taken r m) in
    let lt = in_range_from_place es c q n a in
    record {
      handles = f.handles;
      chain = IsFreeChain-kept es fs free f.handles (length-set es c (Taken r m)) f.chain
          (λ k i. entry_at-set_other es c k (Taken r m) (λ is.
          not_both (entry_at es c) (subst (λ x. IsFreeEntry (entry_at es x)) is (IsIn-free es free f.handles k f.chain i)) (subst IsTaken (sym a) tt)));
      distinct = f.distinct;
      all_free = λ k next l b. elim (cases_eq k c) [
        | inl is ↦ absurd (not_taken next r m (sym b ∙ ap (entry_at fs) is ∙ entry_at-set_same es c (Taken r m) lt))
        | inr ne ↦ f.all_free k next (subst (λ x. k < x) (length-set es c (Taken r m)) l) (sym (entry_at-set_other es c k (Taken r m) ne) ∙ b)
      ];
    }

count_same : (q n m : ℕ) → Taken q n ≡ Taken q m → n ≡ m
count_same q n m e = cc

pub record Moves (ws vs : List ℕ) (es : List Entry) (from to end c n : ℕ) : Type 0 where
  pub half : IsHalfCompacted vs (set es c (Taken to n)) (from + words_for n) (to + words_for n) end
  pub same : SameBlocks ws vs es (set es c (Taken to n))

moves : (ws vs : List ℕ) (es : List Entry) (from to end c n : ℕ) (done rest : List Piece) → Tiles ws es 0 to done → Tiles ws es from end rest → ((k q m : ℕ) → entry_at es k ≡ Taken q m → IsLive k done ⊎ IsLive k rest) → live_words done ≡ to → sum_by entry_words es ≡ to + live_words rest → to ≤ from → end ≤ length ws → length ws < 2 ^ 32 → length es < 2 ^ 32 → from < end → get_or ws from 0 ≡ c → c < no_link → entry_at es c ≡ Taken from n → Copies ws vs from to (words_for n) → Moves ws vs es from to end c n
moves ws vs es from to end c n done [] m l all total both behind within wf hf more here small a copy = absurd (omega arith)
moves ws vs es from to end c n done (Dead k ∷ rest) m l all total both behind within wf hf more here small a copy = absurd (omega (arith, l.0))
moves ws vs es from to end c n done (Live o k ∷ rest) m l all total both behind within wf hf more here small a copy =
    let is : o ≡ c = sym l.0 ∙ here in
    let same_count : k ≡ n = count_same from k n (sym l.1 ∙ ap (entry_at es) is ∙ a) in
    let left = subst (λ x. Tiles ws es (from + words_for x) end rest) same_count l.2 in
    let fit = le_from_Tiles ws es (from + words_for n) end rest left in
    let fs = set es c (Taken to n) in
    let lt = in_range_from_place es c from n a in
    let not_done : (d : ℕ) → IsLive d done → d ≢ c = λ d live e.
    (let w = LiesWithin-from_Tiles ws es 0 to done c from n m (subst (λ x. IsLive x done) e live) a in omega (arith, w.high)) in
    let not_left : (d : ℕ) → IsLive d rest → d ≢ c = λ d live e.
    (let w = LiesWithin-from_Tiles ws es (from + words_for n) end rest c from n left (subst (λ x. IsLive x rest) e live) a in omega (arith, w.low)) in
    let first : to ≡ to + 0 = omega arith in
    let second : from + 0 ≡ from = omega arith in
    let header : get_or vs to 0 ≡ get_or ws from 0 = ap (λ i. get_or vs i 0) first ∙ copy.copied 0 (omega arith) ∙ ap (λ i. get_or ws i 0) second in
    let s = sum-set_entry es c (Taken to n) lt in
    let old : entry_words (entry_at es c) ≡ words_for n = ap entry_words a in
    record {
      half = record {
        done = done ++ Live c n ∷ [];
        rest = rest;
        moved = Tiles-append vs fs 0 to (to + words_for n) done (Live c n ∷ [])
            (Tiles-kept ws vs es fs 0 to done m (λ i b h. copy.below i h) (λ d live. entry_at-set_other es c d (Taken to n) (not_done d live)))
            (header ∙ here, entry_at-set_same es c (Taken to n) lt, refl);
        left = Tiles-kept ws vs es fs (from + words_for n) end rest left (λ i b h. copy.above i (omega arith)) (λ d live. entry_at-set_other es c d (Taken to n) (not_left d live));
        all_live = λ d q j b. elim (cases_eq d c) [
          | inl e ↦ inl (IsLive-append_right d done (Live c n ∷ []) (inl e))
          | inr ne ↦ elim (all d q j (sym (entry_at-set_other es c d (Taken to n) ne) ∙ b)) [
            | inl live ↦ inl (IsLive-append_left d done (Live c n ∷ []) live)
            | inr live ↦ elim live [ inl e ↦ absurd (ne (e ∙ is)) | inr later ↦ inr later ]
          ]
        ];
        total = omega (arith, live_words-append done (Live c n ∷ []));
        both = omega arith;
        behind = omega arith;
        within = subst (λ x. end ≤ x) (sym copy.same_length) within;
        words_fit = subst (λ x. x < 2 ^ 32) (sym copy.same_length) wf;
        handles_fit = subst (λ x. x < 2 ^ 32) (sym (length-set es c (Taken to n))) hf;
      };
      same = record {
        blocks = blocks-same ws vs es fs (length-set es c (Taken to n)) (λ d. elim (cases_eq d c) [
          | inl e ↦ ap (λ x. block_of vs (entry_at fs x)) e ∙ ap (block_of vs) (entry_at-set_same es c (Taken to n) lt)
              ∙ ap Some (block_from-moved ws vs from to n (omega arith) (omega (arith, copy.same_length)) copy.copied)
              ∙ sym (ap (block_of ws) a) ∙ sym (ap (λ x. block_of ws (entry_at es x)) e)
          | inr ne ↦ ap (block_of vs) (entry_at-set_other es c d (Taken to n) ne)
              ∙ block_of-cases ws vs (entry_at es d) (λ q j b.
              elim (all d q j b) [
                | inl live ↦
                    (let w = LiesWithin-from_Tiles ws es 0 to done d q j m live b in
                    let high = w.high in
                    block_from-kept ws vs q j (omega arith) copy.same_length (λ i x h. copy.below i (omega arith)))
                | inr live ↦ elim live [
                  | inl e ↦ absurd (ne (e ∙ is))
                  | inr later ↦
                      (let w = LiesWithin-from_Tiles ws es (from + words_for n) end rest d q j left later b in
                      let high = w.high in
                      let low = w.low in
                      block_from-kept ws vs q j (omega arith) copy.same_length (λ i x h. copy.above i (omega arith)))
                ]
              ])
        ]);
        free_list = λ free f. IsFreeList-moved es free c from n to n a f;
        same_length = copy.same_length;
      };
    }

pub Moves-from_half : (ws vs : List ℕ) (es : List Entry) (from to end c n : ℕ) → IsHalfCompacted ws es from to end → from < end → get_or ws from 0 ≡ c → c < no_link → entry_at es c ≡ Taken from n → Copies ws vs from to (words_for n) → Moves ws vs es from to end c n
Moves-from_half ws vs es from to end c n h more here small a copy =
    moves ws vs es from to end c n h.done h.rest h.moved h.left h.all_live h.total h.both h.behind h.within h.words_fit h.handles_fit more here small a copy

pub SameBlocks-refl : (ws : List ℕ) (es : List Entry) → SameBlocks ws ws es es
SameBlocks-refl ws es = record { blocks = refl; free_list = λ free f. f; same_length = refl }

pub SameBlocks-trans : (ws vs us : List ℕ) (es fs gs : List Entry) → SameBlocks ws vs es fs → SameBlocks vs us fs gs → SameBlocks ws us es gs
SameBlocks-trans ws vs us es fs gs a b = record {
  blocks = b.blocks ∙ a.blocks;
  free_list = λ free f. b.free_list free (a.free_list free f);
  same_length = b.same_length ∙ a.same_length;
}

-- the words of all clauses, by the table and by the blocks
sum_words : (ws : List ℕ) (es : List Entry) → ((k q n : ℕ) → entry_at es k ≡ Taken q n → q + words_for n ≤ length ws) → sum_by block_words (map (block_of ws) es) ≡ sum_by entry_words es
sum_words ws [] fits = refl
sum_words ws (Free next ∷ es) fits = omega (arith, sum_words ws es (λ k. fits (suc k)))
sum_words ws (Taken q n ∷ es) fits =
    let fit = fits 0 q n refl in
    omega (
      arith,
      sum_words ws es (λ k. fits (suc k)),
      length-take-le n (drop (q + 3) ws) (omega (arith, length-drop (q + 3) ws)),
      sum_by-cons block_words (Some (block_from ws q n)) (map (block_of ws) es),
      sum_by-cons entry_words (Taken q n) es,
    )

pub sum_words-tiled : (ws : List ℕ) (es : List Entry) (used : ℕ) → IsTiled ws es used → used ≤ length ws → sum_by block_words (map (block_of ws) es) ≡ sum_by entry_words es
sum_words-tiled ws es used t within =
    sum_words ws es (λ k q n a. omega (arith, (LiesWithin-from_Tiles ws es 0 used t.pieces k q n t.tiles (t.all_live k q n a) a).high))

pub Copies-from_index : (ws vs : List ℕ) (from to n size : ℕ) → CopiedTo ws vs from to n × SameBelow ws vs to × SameFrom ws vs (to + n) → n ≡ size → length vs ≡ length ws → Copies ws vs from to size
Copies-from_index ws vs from to n size h same len = record {
  copied = λ i lt. (let e : from + (to + i - to) ≡ from + i = omega arith in
      h.0 (to + i) 0 (omega arith) (omega arith) ∙ ap (λ j. get_or ws j 0) e);
  below = λ i lt. h.1 i 0 lt;
  above = λ i le. h.2 i 0 (omega arith);
  same_length = len;
}

pub compacted_is : (ws vs : List ℕ) (es fs : List Entry) (used words room : ℕ) → SameBlocks ws vs es fs → IsTiled vs fs used → used ≤ length vs → used ≡ sum_by entry_words fs → words ≡ room → region_with used words (map (block_of vs) fs) ≡ region_with (sum_by block_words (map (block_of ws) es)) room (map (block_of ws) es)
compacted_is ws vs es fs used words room s t within total same =
    ap (region_with used words) s.blocks
    ∙ ap (λ n. region_with n words (map (block_of ws) es)) (total ∙ sym (sum_words-tiled vs fs used t within) ∙ ap (sum_by block_words) s.blocks)
    ∙ ap (λ n. region_with (sum_by block_words (map (block_of ws) es)) n (map (block_of ws) es)) same
