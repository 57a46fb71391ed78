-- Files that lie one after another: finding one, writing its content, adding one at the end.
use Rattle.std.proofs.Common.{◌++◌, ◌+◌, ◌≡◌, ◌≢◌, ◌≤◌, ◌<◌, ◌^◌, ◌∙◌, ◌⊎◌, inl, inr, ap, sym, refl, subst, ℕ, Bool, true, false, List, [], ◌∷◌, length, None, Some, take, drop, set, arith, append_assoc, length-append, add-one}
use Rattle.std.proofs.lemmas.List.{append-nil, drop-take, take-append-drop, take-take, length-take, length-drop, drop-drop, take-append-le, drop-append-le}
use Rattle.std.proofs.Math.Seq.{drop-append-add, take-append_seam, drop-append_seam}
use Rattle.std.proofs.lemmas.Grind.{common_steps}
use Rattle.std.proofs.lemmas.Slice.Eq.{bytes_eq-Decides}
use Rattle.std.specs.Str.{bytes_eq}
use Rattle.ports.specs.declared.store.Extent.{Extent}
use Rattle.ports.specs.Extents.{content_of, IsFound, here, there, total}
use Rattle.ports.proofs.GrowthLaws.{take-both}

-- equal bytes pass the test
pub bytes_eq-same : (a b : List ℕ) → a ≡ b → bytes_eq a b ≡ true
bytes_eq-same a b e = (bytes_eq-Decides a b).1 e

-- a test that is not true is false
not_true-false : (b : Bool) → (b ≡ true → ⊥) → b ≡ false
not_true-false true h = absurd (h refl)
not_true-false false h = refl

-- different bytes fail the test
pub bytes_eq-other : (a b : List ℕ) → a ≢ b → bytes_eq a b ≡ false
bytes_eq-other a b ne = not_true-false (bytes_eq a b) (λ h. ne ((bytes_eq-Decides a b).0 h))

-- the content at the first file
pub content-here : (e : Extent) (es : List Extent) (bytes name : List ℕ) → take e.name bytes ≡ name
    → content_of (e ∷ es) bytes name ≡ Some (take e.content (drop e.name bytes))
content-here e es bytes name same = rw (bytes_eq-same (take e.name bytes) name same)

-- the content past the first file
pub content-there : (e : Extent) (es : List Extent) (bytes name : List ℕ) → take e.name bytes ≢ name
    → content_of (e ∷ es) bytes name ≡ content_of es (drop (e.name + e.content) bytes) name
content-there e es bytes name other = rw (bytes_eq-other (take e.name bytes) name other)

-- what was found is the content
pub found-content : (es : List Extent) (bytes name : List ℕ) (index at len : ℕ) → IsFound es bytes name index at len
    → content_of es bytes name ≡ Some (take len (drop at bytes))
found-content [] bytes name index at len found = elim found [ ]
found-content (e ∷ es) bytes name _ _ _ (here _ _ _ _ same) = content-here e es bytes name same
found-content (e ∷ es) bytes name _ _ _ (there _ _ _ _ index at len other later) =
    content-there e es bytes name other
    ∙ found-content es (drop (e.name + e.content) bytes) name index at len later
    ∙ ap (λ (left : List ℕ). Some (take len left)) (drop-drop at (e.name + e.content) bytes)

-- the first file has the name
pub found-first : (es : List Extent) (bytes name : List ℕ) (e : Extent) (rest : List Extent) (front : List ℕ)
    → es ≡ e ∷ rest → front ≡ take e.name bytes → bytes_eq front name ≡ true → IsFound es bytes name 0 e.name e.content
found-first es bytes name e rest front split front_is passed =
    let same : take e.name bytes ≡ name = sym front_is ∙ (bytes_eq-Decides front name).0 passed in
    subst (λ (list : List Extent). IsFound list bytes name 0 e.name e.content) (sym split) (here e rest bytes name same)

-- a later file has the name
pub found-later : (es : List Extent) (bytes name : List ℕ) (e : Extent) (rest : List Extent) (front left : List ℕ) (index at len : ℕ)
    → es ≡ e ∷ rest → front ≡ take e.name bytes → left ≡ drop (e.name + e.content) bytes → bytes_eq front name ≡ false
    → IsFound rest left name index at len → IsFound es bytes name (index + 1) (e.name + e.content + at) len
found-later es bytes name e rest front left index at len split front_is left_is failed found =
    let other : take e.name bytes ≢ name = λ same. let passed : bytes_eq front name ≡ true = bytes_eq-same front name (front_is ∙ same) in cc in
    let after : IsFound rest (drop (e.name + e.content) bytes) name index at len =
    subst (λ (list : List ℕ). IsFound rest list name index at len) left_is found in
    subst (λ (list : List Extent). IsFound list bytes name (index + 1) (e.name + e.content + at) len) (sym split)
    (there e rest bytes name index at len other after)

-- two lists of bytes are the same or not
same_or_other : (a b : List ℕ) → (a ≡ b) ⊎ (a ≢ b)
same_or_other a b = decided (bytes_eq a b) (bytes_eq-Decides a b)
  where
    decided : (r : Bool) → ((r ≡ true → a ≡ b) × (a ≡ b → r ≡ true)) → (a ≡ b) ⊎ (a ≢ b)
    decided true h = inl (h.0 refl)
    decided false h = inr (λ same. let wrong : false ≡ true = h.1 same in cc)

-- the first file's bytes stay, and others follow
kept-name : (m n : ℕ) (bytes tail : List ℕ) → m + n ≤ length bytes → take m (take (m + n) bytes ++ tail) ≡ take m bytes
kept-name m n bytes tail within = grind (arith, common_steps)

kept-content : (m n : ℕ) (bytes tail : List ℕ) → m + n ≤ length bytes
    → take n (drop m (take (m + n) bytes ++ tail)) ≡ take n (drop m bytes)
kept-content m n bytes tail within =
    let fits : m ≤ length (take (m + n) bytes) = omega (arith, length-take (m + n) bytes) in
    let all : length (take n (drop m bytes)) ≡ n = grind (arith, common_steps) in
    ap (λ (left : List ℕ). take n left) (drop-append-le m (take (m + n) bytes) tail fits)
    ∙ ap (λ (left : List ℕ). take n (left ++ tail)) (drop-take m n bytes)
    ∙ take-append-le n (take n (drop m bytes)) tail (omega arith)
    ∙ take-take n n (drop m bytes) (omega arith)

past-kept : (k : ℕ) (bytes tail : List ℕ) → k ≤ length bytes → drop k (take k bytes ++ tail) ≡ tail
past-kept k bytes tail within = grind (arith, common_steps)

-- where the first file has the name, what follows it does not matter
pub step-same : (e : Extent) (es later : List Extent) (bytes tail name : List ℕ) → e.name + e.content ≤ length bytes
    → take e.name bytes ≡ name → content_of (e ∷ later) (take (e.name + e.content) bytes ++ tail) name ≡ content_of (e ∷ es) bytes name
step-same e es later bytes tail name within same =
    content-here e later (take (e.name + e.content) bytes ++ tail) name (kept-name e.name e.content bytes tail within ∙ same)
    ∙ ap (λ (content : List ℕ). Some content) (kept-content e.name e.content bytes tail within)
    ∙ sym (content-here e es bytes name same)

-- where it has another name, only what follows it matters
pub step-other : (e : Extent) (later : List Extent) (bytes tail name : List ℕ) → e.name + e.content ≤ length bytes
    → take e.name bytes ≢ name → content_of (e ∷ later) (take (e.name + e.content) bytes ++ tail) name ≡ content_of later tail name
step-other e later bytes tail name within other =
    content-there e later (take (e.name + e.content) bytes ++ tail) name
    (λ same. other (sym (kept-name e.name e.content bytes tail within) ∙ same))
    ∙ ap (λ (left : List ℕ). content_of later left name) (past-kept (e.name + e.content) bytes tail within)

-- where what follows says the same of a name, all does
pub step-either : (e : Extent) (es later : List Extent) (bytes tail name : List ℕ) → e.name + e.content ≤ length bytes
    → content_of later tail name ≡ content_of es (drop (e.name + e.content) bytes) name
    → content_of (e ∷ later) (take (e.name + e.content) bytes ++ tail) name ≡ content_of (e ∷ es) bytes name
step-either e es later bytes tail name within as_before = by_name (same_or_other (take e.name bytes) name)
  where
    by_name : (take e.name bytes ≡ name) ⊎ (take e.name bytes ≢ name)
        → content_of (e ∷ later) (take (e.name + e.content) bytes ++ tail) name ≡ content_of (e ∷ es) bytes name
    by_name (inl same) = step-same e es later bytes tail name within same
    by_name (inr apart) = step-other e later bytes tail name within apart ∙ as_before ∙ sym (content-there e es bytes name apart)

-- the extent of a file
abbrev pub extent : List ℕ → List ℕ → Extent
extent name content = record { name = length name; content = length content }

-- a file in front
pub content-front : (name content tail : List ℕ) (es : List Extent)
    → content_of (extent name content ∷ es) (name ++ (content ++ tail)) name ≡ Some content
content-front name content tail es =
    content-here (extent name content) es (name ++ (content ++ tail)) name (take-append_seam name (content ++ tail))
    ∙ ap (λ (left : List ℕ). Some (take (length content) left)) (drop-append_seam name (content ++ tail))
    ∙ ap (λ (left : List ℕ). Some left) (take-append_seam content tail)

pub content-behind : (name content tail other : List ℕ) (es : List Extent) → other ≢ name
    → content_of (extent name content ∷ es) (name ++ (content ++ tail)) other ≡ content_of es tail other
content-behind name content tail other es differs =
    content-there (extent name content) es (name ++ (content ++ tail)) other
    (λ same. differs (sym same ∙ take-append_seam name (content ++ tail)))
    ∙ ap (λ (left : List ℕ). content_of es left other)
    (drop-append-add name (content ++ tail) (length content) ∙ drop-append_seam content tail)

-- the bytes with a new content at a found file
abbrev pub replaced : ℕ → ℕ → List ℕ → List ℕ → List ℕ
replaced at len content bytes = take at bytes ++ (content ++ drop (at + len) bytes)

-- past the first file, the rest is replaced
replaced-later : (k at len : ℕ) (content bytes : List ℕ)
    → replaced (k + at) len content bytes ≡ take k bytes ++ replaced at len content (drop k bytes)
replaced-later k at len content bytes =
    ap (λ (front : List ℕ). front ++ (content ++ drop (k + at + len) bytes)) (take-both k at bytes)
    ∙ append_assoc (take k bytes) (take at (drop k bytes)) (content ++ drop (k + at + len) bytes)
    ∙ ap (λ (back : List ℕ). take k bytes ++ (take at (drop k bytes) ++ (content ++ back)))
    (ap (λ (n : ℕ). drop n bytes) (omega arith) ∙ sym (drop-drop (at + len) k bytes))

-- the extents with a new content at a found file
abbrev pub resized : ℕ → List ℕ → List ℕ → List Extent → List Extent
resized index name content es = set es index (extent name content)

-- the first file's bytes lie within all
first-within : (e : Extent) (es : List Extent) (bytes : List ℕ) → total (e ∷ es) ≡ length bytes → e.name + e.content ≤ length bytes
first-within e es bytes filled = omega arith

later-filled : (e : Extent) (es : List Extent) (bytes : List ℕ) → total (e ∷ es) ≡ length bytes
    → total es ≡ length (drop (e.name + e.content) bytes)
later-filled e es bytes filled = omega (arith, length-drop (e.name + e.content) bytes)

-- the found file has the new content
pub replaced-content : (es : List Extent) (bytes name : List ℕ) (index at len : ℕ) (content : List ℕ)
    → IsFound es bytes name index at len → total es ≡ length bytes
    → content_of (resized index name content es) (replaced at len content bytes) name ≡ Some content
replaced-content [] bytes name index at len content found filled = elim found [ ]
replaced-content (e ∷ es) bytes name _ _ _ content (here _ _ _ _ same) filled =
    ap (λ (front : List ℕ). content_of (extent name content ∷ es) (front ++ (content ++ drop (e.name + e.content) bytes)) name) same
    ∙ content-front name content (drop (e.name + e.content) bytes) es
replaced-content (e ∷ es) bytes name _ _ _ content (there _ _ _ _ index at len other later) filled =
    rw (add-one, replaced-later (e.name + e.content) at len content bytes)
    (step-other e (resized index name content es) bytes (replaced at len content (drop (e.name + e.content) bytes)) name
    (first-within e es bytes filled) other
    ∙ replaced-content es (drop (e.name + e.content) bytes) name index at len content later (later-filled e es bytes filled))

-- every other file is as it was
pub replaced-others : (es : List Extent) (bytes name : List ℕ) (index at len : ℕ) (content : List ℕ)
    → IsFound es bytes name index at len → total es ≡ length bytes → (n : List ℕ) → n ≢ name
    → content_of (resized index name content es) (replaced at len content bytes) n ≡ content_of es bytes n
replaced-others [] bytes name index at len content found filled n differs = elim found [ ]
replaced-others (e ∷ es) bytes name _ _ _ content (here _ _ _ _ same) filled n differs =
    ap (λ (front : List ℕ). content_of (extent name content ∷ es) (front ++ (content ++ drop (e.name + e.content) bytes)) n) same
    ∙ content-behind name content (drop (e.name + e.content) bytes) n es differs
    ∙ sym (content-there e es bytes n (λ h. differs (sym h ∙ same)))
replaced-others (e ∷ es) bytes name _ _ _ content (there _ _ _ _ index at len other later) filled n differs =
    rw (add-one, replaced-later (e.name + e.content) at len content bytes)
    (step-either e es (resized index name content es) bytes (replaced at len content (drop (e.name + e.content) bytes)) n
    (first-within e es bytes filled)
    (replaced-others es (drop (e.name + e.content) bytes) name index at len content later (later-filled e es bytes filled) n differs))

-- the bytes are still all names and contents
pub replaced-filled : (es : List Extent) (bytes name : List ℕ) (index at len : ℕ) (content : List ℕ)
    → IsFound es bytes name index at len → total es ≡ length bytes
    → total (resized index name content es) ≡ length (replaced at len content bytes)
replaced-filled [] bytes name index at len content found filled = elim found [ ]
replaced-filled (e ∷ es) bytes name _ _ _ content (here _ _ _ _ same) filled =
    let named : length (take e.name bytes) ≡ length name = ap length same in
    omega (arith, length-append {A = ℕ}, length-drop {A = ℕ}, named)
replaced-filled (e ∷ es) bytes name _ _ _ content (there _ _ _ _ index at len other later) filled =
    let rest = replaced-filled es (drop (e.name + e.content) bytes) name index at len content later (later-filled e es bytes filled) in
    rw (add-one, replaced-later (e.name + e.content) at len content bytes)
    (omega (arith, rest, first-within e es bytes filled, length-append {A = ℕ}, length-take {A = ℕ}))

-- where nothing is left, no byte is
no_bytes : (bytes : List ℕ) → 0 ≡ length bytes → bytes ≡ []
no_bytes [] none = refl
no_bytes (b ∷ bytes) none = absurd (omega arith)

-- what follows the first file
behind-first : (k : ℕ) (bytes name : List ℕ) → bytes ++ name ≡ take k bytes ++ (drop k bytes ++ name)
behind-first k bytes name =
    ap (λ (all : List ℕ). all ++ name) (sym (take-append-drop k bytes)) ∙ append_assoc (take k bytes) (drop k bytes) name

-- a name that no file has is not the first one's
not-first : (e : Extent) (es : List Extent) (bytes name : List ℕ) → content_of (e ∷ es) bytes name ≡ None → take e.name bytes ≢ name
not-first e es bytes name absent = λ same. let there = sym (content-here e es bytes name same) ∙ absent in cc

-- a new file at the end is empty
pub added-content : (es : List Extent) (bytes name : List ℕ) → content_of es bytes name ≡ None → total es ≡ length bytes
    → content_of (es ++ extent name [] ∷ []) (bytes ++ name) name ≡ Some []
added-content [] bytes name absent filled =
    ap (λ (all : List ℕ). content_of (extent name [] ∷ []) all name)
    (ap (λ (front : List ℕ). front ++ name) (no_bytes bytes filled) ∙ sym (append-nil name))
    ∙ content-front name [] [] []
added-content (e ∷ es) bytes name absent filled =
    let apart = not-first e es bytes name absent in
    rw (behind-first (e.name + e.content) bytes name)
    (step-other e (es ++ extent name [] ∷ []) bytes (drop (e.name + e.content) bytes ++ name) name
    (first-within e es bytes filled) apart
    ∙ added-content es (drop (e.name + e.content) bytes) name
    (sym (content-there e es bytes name apart) ∙ absent) (later-filled e es bytes filled))

-- and every other file is as it was
pub added-others : (es : List Extent) (bytes name : List ℕ) → total es ≡ length bytes → (n : List ℕ) → n ≢ name
    → content_of (es ++ extent name [] ∷ []) (bytes ++ name) n ≡ content_of es bytes n
added-others [] bytes name filled n differs =
    ap (λ (all : List ℕ). content_of (extent name [] ∷ []) all n)
    (ap (λ (front : List ℕ). front ++ name) (no_bytes bytes filled) ∙ sym (append-nil name))
    ∙ content-behind name [] [] n [] differs
added-others (e ∷ es) bytes name filled n differs =
    rw (behind-first (e.name + e.content) bytes name)
    (step-either e es (es ++ extent name [] ∷ []) bytes (drop (e.name + e.content) bytes ++ name) n
    (first-within e es bytes filled)
    (added-others es (drop (e.name + e.content) bytes) name (later-filled e es bytes filled) n differs))

pub total-append : (es later : List Extent) → total (es ++ later) ≡ total es + total later
total-append [] later = omega arith
total-append (e ∷ es) later = omega (arith, total-append es later)

pub added-filled : (es : List Extent) (bytes name : List ℕ) → total es ≡ length bytes
    → total (es ++ extent name [] ∷ []) ≡ length (bytes ++ name)
added-filled es bytes name filled = omega (arith, total-append es (extent name [] ∷ []), length-append bytes name)

-- no content is longer than all bytes
pub content-within : (es : List Extent) (bytes name content : List ℕ) → content_of es bytes name ≡ Some content → length content ≤ length bytes
content-within [] bytes name content told = absurd (cc)
content-within (e ∷ es) bytes name content told = by_name (same_or_other (take e.name bytes) name)
    (λ h. content-within es (drop (e.name + e.content) bytes) name content h)
  where
    by_name : (take e.name bytes ≡ name) ⊎ (take e.name bytes ≢ name)
        → (content_of es (drop (e.name + e.content) bytes) name ≡ Some content → length content ≤ length (drop (e.name + e.content) bytes))
        → length content ≤ length bytes
    by_name (inl same) later =
        let is : take e.content (drop e.name bytes) ≡ content = cc (content-here e es bytes name same, told) in
        rw (← is) (omega (arith, length-take e.content (drop e.name bytes), length-drop e.name bytes))
    by_name (inr apart) later =
        let within = later (sym (content-there e es bytes name apart) ∙ told) in
        omega (arith, within, length-drop (e.name + e.content) bytes)

-- a piece at a found file's end is a new content of it
pub extended-bytes : (at len : ℕ) (piece bytes : List ℕ)
    → take (at + len) bytes ++ (piece ++ drop (at + len) bytes) ≡ replaced at len (take len (drop at bytes) ++ piece) bytes
extended-bytes at len piece bytes =
    ap (λ (front : List ℕ). front ++ (piece ++ drop (at + len) bytes)) (take-both at len bytes)
    ∙ append_assoc (take at bytes) (take len (drop at bytes)) (piece ++ drop (at + len) bytes)
    ∙ ap (λ (back : List ℕ). take at bytes ++ back) (sym (append_assoc (take len (drop at bytes)) piece (drop (at + len) bytes)))

pub extended-len : (at len : ℕ) (piece bytes : List ℕ) → at + len ≤ length bytes
    → len + length piece ≡ length (take len (drop at bytes) ++ piece)
extended-len at len piece bytes range =
    omega (arith, length-append (take len (drop at bytes)) piece, length-take len (drop at bytes), length-drop at bytes)

-- where the bytes are few enough, so is each content
pub content-within-short : (es : List Extent) (bytes name content : List ℕ) → length bytes < 2 ^ 64
    → content_of es bytes name ≡ Some content → length content < 2 ^ 64
content-within-short es bytes name content short told = omega (arith, content-within es bytes name content told, short)
