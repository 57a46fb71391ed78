-- Lines of words: a text has one list of lines.
use Rattle.std.proofs.Common.{◌≡◌, ◌≢◌, ◌++◌, ◌⊎◌, inl, inr, ℕ, List, [], ◌∷◌, refl, sym, ap, ap₂, ◌∙◌, arith}

-- a word has no blank and no line feed
abbrev pub IsWord : List ℕ → Type 0
IsWord [] = Unit {0}
IsWord (b ∷ bs) = (b ≢ 32) × (b ≢ 10) × IsWord bs

abbrev pub AreWords : List (List ℕ) → Type 0
AreWords [] = Unit {0}
AreWords (w ∷ ws) = IsWord w × AreWords ws

pub record TextLine : Type 0 where
  pub first : List ℕ
  pub more : List (List ℕ)

pub record IsLine (l : TextLine) : Type 0 where
  pub first : IsWord l.first
  pub more : AreWords l.more

abbrev pub AreLines : List TextLine → Type 0
AreLines [] = Unit {0}
AreLines (l ∷ ls) = IsLine l × AreLines ls

-- words behind blanks, in front of a text
abbrev pub words_before : List (List ℕ) → List ℕ → List ℕ
words_before [] text = text
words_before (w ∷ ws) text = 32 ∷ (w ++ words_before ws text)

abbrev pub line_before : TextLine → List ℕ → List ℕ
line_before l text = l.first ++ words_before l.more (10 ∷ text)

abbrev pub lines_before : List TextLine → List ℕ → List ℕ
lines_before [] text = text
lines_before (l ∷ ls) text = line_before l (lines_before ls text)

pub lines_append : (ls ms : List TextLine) (text : List ℕ) → lines_before (ls ++ ms) text ≡ lines_before ls (lines_before ms text)
lines_append [] ms text = refl
lines_append (l ∷ ls) ms text = ap (line_before l) (lines_append ls ms text)

-- ---- One list of words

pub heads : (a b : ℕ) (x y : List ℕ) → a ∷ x ≡ b ∷ y → a ≡ b
heads a b x y same = cc

-- the text goes on with a blank or a line feed
abbrev Breaks : List ℕ → Type 0
Breaks [] = ⊥
Breaks (b ∷ bs) = (b ≡ 32) ⊎ (b ≡ 10)

no_break : (b c : ℕ) → b ≢ 32 → b ≢ 10 → (c ≡ 32) ⊎ (c ≡ 10) → c ≡ b → ⊥
no_break b c blank feed (inl is) same = blank (sym same ∙ is)
no_break b c blank feed (inr is) same = feed (sym same ∙ is)

pub word_split : (v w x y : List ℕ) → IsWord v → IsWord w → Breaks x → Breaks y → v ++ x ≡ w ++ y → (v ≡ w) × (x ≡ y)
word_split [] [] x y one other ends stops same = (refl, same)
word_split [] (b ∷ w) [] y one other ends stops same = absurd ends
word_split [] (b ∷ w) (c ∷ x) y one other ends stops same = absurd (no_break b c other.0 other.1 ends (let head : c ≡ b = cc in head))
word_split (b ∷ v) [] x [] one other ends stops same = absurd stops
word_split (b ∷ v) [] x (c ∷ y) one other ends stops same = absurd (no_break b c one.0 one.1 stops (let head : c ≡ b = cc in head))
word_split (b ∷ v) (c ∷ w) x y one other ends stops same =
    let head : b ≡ c = cc in
    let tail : v ++ x ≡ w ++ y = cc in
    let rest = word_split v w x y one.2 other.2 ends stops tail in
    (ap₂ (λ (d : ℕ) (ds : List ℕ). d ∷ ds) head rest.0, rest.1)

breaks_behind : (ws : List (List ℕ)) (text : List ℕ) → Breaks (words_before ws (10 ∷ text))
breaks_behind [] text = inr refl
breaks_behind (w ∷ ws) text = inl refl

pub words_split : (vs ws : List (List ℕ)) (x y : List ℕ) → AreWords vs → AreWords ws → words_before vs (10 ∷ x) ≡ words_before ws (10 ∷ y) → (vs ≡ ws) × (x ≡ y)
words_split [] [] x y one other same = (refl, (let tail : x ≡ y = cc in tail))
words_split [] (w ∷ ws) x y one other same = absurd (omega (arith, heads 10 32 x (w ++ words_before ws (10 ∷ y)) same))
words_split (v ∷ vs) [] x y one other same = absurd (omega (arith, heads 32 10 (v ++ words_before vs (10 ∷ x)) y same))
words_split (v ∷ vs) (w ∷ ws) x y one other same =
    let tail : v ++ words_before vs (10 ∷ x) ≡ w ++ words_before ws (10 ∷ y) = cc in
    let first = word_split v w (words_before vs (10 ∷ x)) (words_before ws (10 ∷ y)) one.0 other.0 (breaks_behind vs x) (breaks_behind ws y) tail in
    let rest = words_split vs ws x y one.1 other.1 first.1 in
    (ap₂ (λ (u : List ℕ) (us : List (List ℕ)). u ∷ us) first.0 rest.0, rest.1)

-- ---- One list of lines

line_split : (l m : TextLine) (x y : List ℕ) → IsLine l → IsLine m → line_before l x ≡ line_before m y → (l ≡ m) × (x ≡ y)
line_split l m x y one other same =
    let first = word_split l.first m.first (words_before l.more (10 ∷ x)) (words_before m.more (10 ∷ y)) one.first other.first (breaks_behind l.more x) (breaks_behind m.more y) same in
    let rest = words_split l.more m.more x y one.more other.more first.1 in
    ((let head = first.0 in let tail = rest.0 in λ i. record { first = head i; more = tail i }), rest.1)

some_text : (l : TextLine) (x : List ℕ) → line_before l x ≡ [] → ⊥
some_text l x none = by l.first l.more none
  where
    by : (first : List ℕ) (more : List (List ℕ)) → first ++ words_before more (10 ∷ x) ≡ [] → ⊥
    by [] [] is = cc
    by [] (w ∷ ws) is = cc
    by (b ∷ first) more is = cc

pub one_list : (ls ms : List TextLine) → AreLines ls → AreLines ms → lines_before ls [] ≡ lines_before ms [] → ls ≡ ms
one_list [] [] one other same = refl
one_list [] (m ∷ ms) one other same = absurd (some_text m (lines_before ms []) (sym same))
one_list (l ∷ ls) [] one other same = absurd (some_text l (lines_before ls []) same)
one_list (l ∷ ls) (m ∷ ms) one other same =
    let parts = line_split l m (lines_before ls []) (lines_before ms []) one.0 other.0 same in
    ap₂ (λ (k : TextLine) (ks : List TextLine). k ∷ ks) parts.0 (one_list ls ms one.1 other.1 parts.1)
