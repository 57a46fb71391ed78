-- Writes of links and literals inside a clause.
use Rattle.std.proofs.Common.{◌≡◌, ℕ, zero, suc, ◌+◌, ◌<◌, ◌≤◌, ◌≢◌, ◌⊎◌, inl, inr, List, [], ◌∷◌, Option, Some, length, get_or, take, drop, set, map, refl, sym, ◌∙◌, ap, arith}
use Rattle.std.specs.List.{swap}
use Rattle.std.proofs.lemmas.List.{get_or-set_same, get_or-set_other, length-set, drop-set-lt, drop-set-add, length-take-le, length-drop, get_or-take, get_or-drop}
use Rattle.std.proofs.lemmas.List.Edits.{swap_is, length-swap}
use Rattle.clause_pool.specs.Links.{link_of}
use Rattle.clause_pool.specs.Blocks.{Block, RegionValue, IsRegion, entry_at, words_for, block_from, block_of, block_in, literals_of, literals_in, next_at, with_next, with_swapped}
use Rattle.clause_pool.specs.declared.region.Entry.{Entry}
use Rattle.clause_pool.specs.declared.region.Entry.TheVariants.{Taken}
use Rattle.clause_pool.specs.declared.region.Side.TheVariants.{First, Second}
use Rattle.clause_pool.proofs.Regions.{block_is, blocks-set, block_of-apart, IsRegion-inside, in_range_from_place, make_block-same, place_fits}

pub entry_read : (es fs : List Entry) (c q n : ℕ) → es ≡ fs → entry_at es c ≡ Taken q n → entry_at fs c ≡ Taken q n
entry_read es fs c q n same a = ap (λ xs. entry_at xs c) (sym same) ∙ a

blocks-inside : (ws vs : List ℕ) (es : List Entry) (used : ℕ) (free : Option ℕ) (c q n : ℕ) (b : Option Block) → IsRegion ws es used free → length vs ≡ length ws → entry_at es c ≡ Taken q n → ((i : ℕ) → (i ≤ q) ⊎ (q + words_for n ≤ i) → get_or vs i 0 ≡ get_or ws i 0) → Some (block_from vs q n) ≡ b → map (block_of vs) es ≡ set (map (block_of ws) es) c b
blocks-inside ws vs es used free c q n b r len a same e =
    blocks-set ws vs es es c b refl (in_range_from_place es c q n a)
    (block_of-apart ws vs es used c q n r.tiled r.within len a
    (λ i h. elim h [ inl before ↦ same i (inl (omega arith)) | inr after ↦ same i (inr after) ]))
    (ap (block_of vs) a ∙ e)

-- a word behind the handle
pub IsRegion-link : (ws : List ℕ) (es : List Entry) (used : ℕ) (free : Option ℕ) (c q n at word : ℕ) → IsRegion ws es used free → entry_at es c ≡ Taken q n → q < at → at < q + words_for n → IsRegion (set ws at word) es used free
IsRegion-link ws es used free c q n at word r a low high =
    IsRegion-inside ws (set ws at word) es used free c q n r (length-set ws at word) a
    (λ i h. get_or-set_other ws at i word 0 (λ e. elim h [ inl before ↦ omega arith | inr after ↦ omega arith ]))

pub blocks-first_link : (ws : List ℕ) (es : List Entry) (used : ℕ) (free : Option ℕ) (c q n word : ℕ) (link : Option ℕ) → IsRegion ws es used free → entry_at es c ≡ Taken q n → link_of word ≡ link → map (block_of (set ws (q + 1) word)) es ≡ set (map (block_of ws) es) c (with_next First link (block_in (map (block_of ws) es) c))
blocks-first_link ws es used free c q n word link r a e =
    let fit = place_fits ws es used free r c q n a in
    blocks-inside ws (set ws (q + 1) word) es used free c q n _ r (length-set ws (q + 1) word) a
    (λ i h. get_or-set_other ws (q + 1) i word 0 (λ e. elim h [ inl before ↦ omega arith | inr after ↦ omega arith ]))
    (ap Some (make_block-same _ _ _ _ _ _
    (ap link_of (get_or-set_same ws (q + 1) word 0 (omega arith)) ∙ e)
    (ap link_of (get_or-set_other ws (q + 1) (q + 2) word 0 (omega arith)))
    (ap (take n) (drop-set-lt (q + 3) ws (q + 1) word (omega arith))))
    ∙ sym (ap (with_next First link) (block_is (map (block_of ws) es) ws es c q n refl a)))

pub blocks-second_link : (ws : List ℕ) (es : List Entry) (used : ℕ) (free : Option ℕ) (c q n word : ℕ) (link : Option ℕ) → IsRegion ws es used free → entry_at es c ≡ Taken q n → link_of word ≡ link → map (block_of (set ws (q + 2) word)) es ≡ set (map (block_of ws) es) c (with_next Second link (block_in (map (block_of ws) es) c))
blocks-second_link ws es used free c q n word link r a e =
    let fit = place_fits ws es used free r c q n a in
    blocks-inside ws (set ws (q + 2) word) es used free c q n _ r (length-set ws (q + 2) word) a
    (λ i h. get_or-set_other ws (q + 2) i word 0 (λ e. elim h [ inl before ↦ omega arith | inr after ↦ omega arith ]))
    (ap Some (make_block-same _ _ _ _ _ _
    (ap link_of (get_or-set_other ws (q + 2) (q + 1) word 0 (omega arith)))
    (ap link_of (get_or-set_same ws (q + 2) word 0 (omega arith)) ∙ e)
    (ap (take n) (drop-set-lt (q + 3) ws (q + 2) word (omega arith))))
    ∙ sym (ap (with_next Second link) (block_is (map (block_of ws) es) ws es c q n refl a)))

take-set_any : (n : ℕ) (xs : List ℕ) (i a : ℕ) → take n (set xs i a) ≡ set (take n xs) i a
take-set_any zero xs i a = refl
take-set_any (suc n) [] i a = refl
take-set_any (suc n) (x ∷ xs) zero a = refl
take-set_any (suc n) (x ∷ xs) (suc i) a = ap (λ ys. x ∷ ys) (take-set_any n xs i a)

abbrev both_set : List ℕ → ℕ → ℕ → ℕ → ℕ → List ℕ
both_set xs i x j y = set (set xs i x) j y

part_swapped : (ws : List ℕ) (m n i j : ℕ) → m + n ≤ length ws → i < n → j < n → take n (drop m (swap ws (m + i) (m + j))) ≡ swap (take n (drop m ws)) i j
part_swapped ws m n i j fit li lj =
    let part = take n (drop m ws) in
    let x = get_or ws (m + j) 0 in
    let y = get_or ws (m + i) 0 in
    let len : length part ≡ n = length-take-le n (drop m ws) (omega (arith, length-drop m ws)) in
    let ex : get_or part j 0 ≡ x = get_or-take n (drop m ws) j 0 lj ∙ get_or-drop m ws j 0 in
    let ey : get_or part i 0 ≡ y = get_or-take n (drop m ws) i 0 li ∙ get_or-drop m ws i 0 in
    ap (λ xs. take n (drop m xs)) (sym (swap_is ws (m + i) (m + j) 0 (omega arith) (omega arith)))
    ∙ ap (take n) (drop-set-add m (set ws (m + i) x) j y ∙ ap (λ xs. set xs j y) (drop-set-add m ws i x))
    ∙ take-set_any n (set (drop m ws) i x) j y
    ∙ ap (λ xs. set xs j y) (take-set_any n (drop m ws) i x)
    ∙ ap (λ z. both_set part i z j y) (sym ex)
    ∙ ap (λ z. both_set part i (get_or part j 0) j z) (sym ey)
    ∙ swap_is part i j 0 (omega arith) (omega arith)

get_or-swap_other : (ws : List ℕ) (a b k : ℕ) → a < length ws → b < length ws → k ≢ a → k ≢ b → get_or (swap ws a b) k 0 ≡ get_or ws k 0
get_or-swap_other ws a b k la lb na nb =
    ap (λ xs. get_or xs k 0) (sym (swap_is ws a b 0 la lb))
    ∙ get_or-set_other (set ws a (get_or ws b 0)) b k (get_or ws a 0) 0 nb
    ∙ get_or-set_other ws a k (get_or ws b 0) 0 na

pub literal_count : (blocks : List (Option Block)) (ws : List ℕ) (es : List Entry) (used : ℕ) (free : Option ℕ) (c q n : ℕ) → IsRegion ws es used free → map (block_of ws) es ≡ blocks → entry_at es c ≡ Taken q n → length (literals_of blocks c) ≡ n
literal_count blocks ws es used free c q n r same a =
    let fit = place_fits ws es used free r c q n a in
    ap (λ b. length (literals_in b)) (block_is blocks ws es c q n same a)
    ∙ length-take-le n (drop (q + 3) ws) (omega (arith, length-drop (q + 3) ws))

swapped_outside : (ws : List ℕ) (q n i j : ℕ) → q + words_for n ≤ length ws → i < n → j < n → (k : ℕ) → (k ≤ q) ⊎ (q + words_for n ≤ k) → get_or (swap ws (q + 3 + i) (q + 3 + j)) k 0 ≡ get_or ws k 0
swapped_outside ws q n i j fit li lj k h =
    get_or-swap_other ws (q + 3 + i) (q + 3 + j) k (omega arith) (omega arith)
    (λ e. elim h [ inl before ↦ omega arith | inr after ↦ omega arith ])
    (λ e. elim h [ inl before ↦ omega arith | inr after ↦ omega arith ])

pub IsRegion-swap : (ws : List ℕ) (es : List Entry) (used : ℕ) (free : Option ℕ) (c q n i j : ℕ) → IsRegion ws es used free → entry_at es c ≡ Taken q n → i < n → j < n → IsRegion (swap ws (q + 3 + i) (q + 3 + j)) es used free
IsRegion-swap ws es used free c q n i j r a li lj =
    IsRegion-inside ws (swap ws (q + 3 + i) (q + 3 + j)) es used free c q n r (length-swap ws (q + 3 + i) (q + 3 + j)) a
    (swapped_outside ws q n i j (place_fits ws es used free r c q n a) li lj)

pub blocks-swap : (ws : List ℕ) (es : List Entry) (used : ℕ) (free : Option ℕ) (c q n i j : ℕ) → IsRegion ws es used free → entry_at es c ≡ Taken q n → i < n → j < n → map (block_of (swap ws (q + 3 + i) (q + 3 + j))) es ≡ set (map (block_of ws) es) c (with_swapped i j (block_in (map (block_of ws) es) c))
blocks-swap ws es used free c q n i j r a li lj =
    let fit = place_fits ws es used free r c q n a in
    let vs = swap ws (q + 3 + i) (q + 3 + j) in
    let out = swapped_outside ws q n i j fit li lj in
    blocks-inside ws vs es used free c q n _ r (length-swap ws (q + 3 + i) (q + 3 + j)) a out
    (ap Some (make_block-same _ _ _ _ _ _
    (ap link_of (get_or-swap_other ws (q + 3 + i) (q + 3 + j) (q + 1) (omega arith) (omega arith) (omega arith) (omega arith)))
    (ap link_of (get_or-swap_other ws (q + 3 + i) (q + 3 + j) (q + 2) (omega arith) (omega arith) (omega arith) (omega arith)))
    (part_swapped ws (q + 3) n i j (omega arith) li lj))
    ∙ sym (ap (with_swapped i j) (block_is (map (block_of ws) es) ws es c q n refl a)))

pub next_first : (blocks : List (Option Block)) (ws : List ℕ) (es : List Entry) (c q n : ℕ) → map (block_of ws) es ≡ blocks → entry_at es c ≡ Taken q n → next_at First (block_in blocks c) ≡ link_of (get_or ws (q + 1) 0)
next_first blocks ws es c q n same a = ap (next_at First) (block_is blocks ws es c q n same a)

pub next_second : (blocks : List (Option Block)) (ws : List ℕ) (es : List Entry) (c q n : ℕ) → map (block_of ws) es ≡ blocks → entry_at es c ≡ Taken q n → next_at Second (block_in blocks c) ≡ link_of (get_or ws (q + 2) 0)
next_second blocks ws es c q n same a = ap (next_at Second) (block_is blocks ws es c q n same a)

abbrev pub region_with : ℕ → ℕ → List (Option Block) → RegionValue
region_with used words blocks = record { blocks = blocks; used = used; words = words }
