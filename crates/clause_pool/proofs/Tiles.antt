-- Pieces that lie one after another: where a clause lies, and what a write leaves as it was.
use Rattle.std.proofs.Common.{◌≡◌, ℕ, ◌+◌, ◌<◌, ◌≤◌, ◌≢◌, ◌⊎◌, inl, inr, List, [], ◌∷◌, ◌++◌, length, get_or, take, drop, refl, sym, ◌∙◌, ap, subst, arith}
use Rattle.std.proofs.lemmas.List.{ext_get_or, get_or-take, get_or-drop, length-take-le, length-drop}
use Rattle.clause_pool.specs.Links.{no_link}
use Rattle.clause_pool.specs.Blocks.{Piece, Live, Dead, IsLive, live_words, Tiles, entry_at, words_for}
use Rattle.clause_pool.specs.declared.region.Entry.{Entry}
use Rattle.clause_pool.specs.declared.region.Entry.TheVariants.{Taken}

pub le_from_Tiles : (ws : List ℕ) (es : List Entry) (p e : ℕ) (ps : List Piece) → Tiles ws es p e ps → p ≤ e
le_from_Tiles ws es p e [] t = omega (arith, t)
le_from_Tiles ws es p e (Live c n ∷ ps) t = omega (arith, le_from_Tiles ws es (p + words_for n) e ps t.2)
le_from_Tiles ws es p e (Dead n ∷ ps) t = omega (arith, le_from_Tiles ws es (p + words_for n) e ps t.2)

pub same_taken : (es : List Entry) (c d p q n m : ℕ) → entry_at es c ≡ Taken p n → entry_at es d ≡ Taken q m → c ≡ d → (p ≡ q) × (n ≡ m)
same_taken es c d p q n m a b e =
    let both : Taken p n ≡ Taken q m = sym a ∙ ap (entry_at es) e ∙ b in
    (cc, cc)

-- where a live clause lies
pub record LiesWithin (ws : List ℕ) (p e c q n : ℕ) : Type 0 where
  pub low : p ≤ q
  pub high : q + words_for n ≤ e
  pub header : get_or ws q 0 ≡ c

pub LiesWithin-from_Tiles : (ws : List ℕ) (es : List Entry) (p e : ℕ) (ps : List Piece) (c q n : ℕ) → Tiles ws es p e ps → IsLive c ps → entry_at es c ≡ Taken q n → LiesWithin ws p e c q n
LiesWithin-from_Tiles ws es p e [] c q n t h a = absurd h
LiesWithin-from_Tiles ws es p e (Live o m ∷ ps) c q n t h a =
    let le = le_from_Tiles ws es (p + words_for m) e ps t.2 in
    elim h [
      | inl same ↦
          (let at : (q ≡ p) × (n ≡ m) = same_taken es c o q p n m a t.1 same in
          let where_ : q ≡ p = at.0 in
          let count : n ≡ m = at.1 in
          record { low = omega arith; high = omega arith; header = ap (λ i. get_or ws i 0) where_ ∙ t.0 ∙ sym same })
      | inr later ↦
          (let w = LiesWithin-from_Tiles ws es (p + words_for m) e ps c q n t.2 later a in
          record { low = omega (arith, w.low); high = w.high; header = w.header })
    ]
LiesWithin-from_Tiles ws es p e (Dead m ∷ ps) c q n t h a =
    let w = LiesWithin-from_Tiles ws es (p + words_for m) e ps c q n t.2 h a in
    record { low = omega (arith, w.low); high = w.high; header = w.header }

-- two live clauses lie apart
pub apart_from_Tiles : (ws : List ℕ) (es : List Entry) (p e : ℕ) (ps : List Piece) (c q n d r m : ℕ) → Tiles ws es p e ps → IsLive c ps → IsLive d ps → entry_at es c ≡ Taken q n → entry_at es d ≡ Taken r m → c ≢ d → (q + words_for n ≤ r) ⊎ (r + words_for m ≤ q)
apart_from_Tiles ws es p e [] c q n d r m t h k a b ne = absurd h
apart_from_Tiles ws es p e (Live o l ∷ ps) c q n d r m t h k a b ne =
    elim h [
      | inl first ↦
          (let at : (q ≡ p) × (n ≡ l) = same_taken es c o q p n l a t.1 first in
          elim k [
            | inl second ↦ absurd (ne (first ∙ sym second))
            | inr later ↦
                (let w = LiesWithin-from_Tiles ws es (p + words_for l) e ps d r m t.2 later b in
                inl (omega (arith, w.low, at.0, at.1)))
          ])
      | inr here ↦
          elim k [
            | inl second ↦
                (let at : (r ≡ p) × (m ≡ l) = same_taken es d o r p m l b t.1 second in
                let w = LiesWithin-from_Tiles ws es (p + words_for l) e ps c q n t.2 here a in
                inr (omega (arith, w.low, at.0, at.1)))
            | inr later ↦ apart_from_Tiles ws es (p + words_for l) e ps c q n d r m t.2 here later a b ne
          ]
    ]
apart_from_Tiles ws es p e (Dead l ∷ ps) c q n d r m t h k a b ne =
    apart_from_Tiles ws es (p + words_for l) e ps c q n d r m t.2 h k a b ne

-- what lies between is unchanged, and so are the entries of its clauses
pub Tiles-kept : (ws vs : List ℕ) (es fs : List Entry) (p e : ℕ) (ps : List Piece) → Tiles ws es p e ps → ((i : ℕ) → p ≤ i → i < e → get_or vs i 0 ≡ get_or ws i 0) → ((c : ℕ) → IsLive c ps → entry_at fs c ≡ entry_at es c) → Tiles vs fs p e ps
Tiles-kept ws vs es fs p e [] t same kept = t
Tiles-kept ws vs es fs p e (Live c n ∷ ps) t same kept =
    let le = le_from_Tiles ws es (p + words_for n) e ps t.2 in (
      same p (omega arith) (omega arith) ∙ t.0,
      kept c (inl refl) ∙ t.1,
      Tiles-kept ws vs es fs (p + words_for n) e ps t.2 (λ i l h. same i (omega arith) h) (λ d h. kept d (inr h)),
    )
Tiles-kept ws vs es fs p e (Dead n ∷ ps) t same kept =
    let le = le_from_Tiles ws es (p + words_for n) e ps t.2 in (
      same p (omega arith) (omega arith) ∙ t.0,
      same (p + 1) (omega arith) (omega arith) ∙ t.1,
      Tiles-kept ws vs es fs (p + words_for n) e ps t.2 (λ i l h. same i (omega arith) h) kept,
    )

pub Tiles-append : (ws : List ℕ) (es : List Entry) (p m e : ℕ) (ps qs : List Piece) → Tiles ws es p m ps → Tiles ws es m e qs → Tiles ws es p e (ps ++ qs)
Tiles-append ws es p m e [] qs t u = subst (λ i. Tiles ws es i e qs) (sym t) u
Tiles-append ws es p m e (Live c n ∷ ps) qs t u = (t.0, t.1, Tiles-append ws es (p + words_for n) m e ps qs t.2 u)
Tiles-append ws es p m e (Dead n ∷ ps) qs t u = (t.0, t.1, Tiles-append ws es (p + words_for n) m e ps qs t.2 u)

pub IsLive-append_left : (c : ℕ) (ps qs : List Piece) → IsLive c ps → IsLive c (ps ++ qs)
IsLive-append_left c [] qs h = absurd h
IsLive-append_left c (Live o n ∷ ps) qs h = elim h [ inl e ↦ inl e | inr r ↦ inr (IsLive-append_left c ps qs r) ]
IsLive-append_left c (Dead n ∷ ps) qs h = IsLive-append_left c ps qs h

pub IsLive-append_right : (c : ℕ) (ps qs : List Piece) → IsLive c qs → IsLive c (ps ++ qs)
IsLive-append_right c [] qs h = h
IsLive-append_right c (Live o n ∷ ps) qs h = inr (IsLive-append_right c ps qs h)
IsLive-append_right c (Dead n ∷ ps) qs h = IsLive-append_right c ps qs h

pub live_words-append : (ps qs : List Piece) → live_words (ps ++ qs) ≡ live_words ps + live_words qs
live_words-append [] qs = omega arith
live_words-append (Live o n ∷ ps) qs = omega (arith, live_words-append ps qs)
live_words-append (Dead n ∷ ps) qs = live_words-append ps qs

-- a write inside a clause, behind its handle
pub Tiles-inside : (ws vs : List ℕ) (es : List Entry) (p e : ℕ) (ps : List Piece) (c q n : ℕ) → Tiles ws es p e ps → IsLive c ps → entry_at es c ≡ Taken q n → ((i : ℕ) → (i ≤ q) ⊎ (q + words_for n ≤ i) → get_or vs i 0 ≡ get_or ws i 0) → Tiles vs es p e ps
Tiles-inside ws vs es p e [] c q n t h a same = t
Tiles-inside ws vs es p e (Live o m ∷ ps) c q n t h a same =
    elim h [
      | inl first ↦
          (let at : (q ≡ p) × (n ≡ m) = same_taken es c o q p n m a t.1 first in
          let place : q ≡ p = at.0 in
          let count : n ≡ m = at.1 in
          (same p (inl (omega arith)) ∙ t.0, t.1, Tiles-kept ws vs es es (p + words_for m) e ps t.2 (λ i l h. same i (inr (omega arith))) (λ d h. refl)))
      | inr later ↦
          (let w = LiesWithin-from_Tiles ws es (p + words_for m) e ps c q n t.2 later a in
          let low = w.low in
          (same p (inl (omega arith)) ∙ t.0, t.1, Tiles-inside ws vs es (p + words_for m) e ps c q n t.2 later a same))
    ]
Tiles-inside ws vs es p e (Dead m ∷ ps) c q n t h a same =
    let w = LiesWithin-from_Tiles ws es (p + words_for m) e ps c q n t.2 h a in
    let low = w.low in
    (same p (inl (omega arith)) ∙ t.0, same (p + 1) (inl (omega arith)) ∙ t.1, Tiles-inside ws vs es (p + words_for m) e ps c q n t.2 h a same)

-- the pieces after a clause was forgotten
pub record Forgets (vs : List ℕ) (fs : List Entry) (p e : ℕ) (ps : List Piece) (c n : ℕ) : Type 0 where
  pub pieces : List Piece
  pub tiles : Tiles vs fs p e pieces
  pub others : (d : ℕ) → d ≢ c → IsLive d ps → IsLive d pieces
  pub total : live_words pieces + words_for n ≡ live_words ps

pub Forgets-from_Tiles : (ws vs : List ℕ) (es fs : List Entry) (p e : ℕ) (ps : List Piece) (c q n : ℕ) → Tiles ws es p e ps → IsLive c ps → entry_at es c ≡ Taken q n → get_or vs q 0 ≡ no_link → get_or vs (q + 1) 0 ≡ n → ((i : ℕ) → i ≢ q → i ≢ q + 1 → get_or vs i 0 ≡ get_or ws i 0) → ((d : ℕ) → d ≢ c → entry_at fs d ≡ entry_at es d) → Forgets vs fs p e ps c n
Forgets-from_Tiles ws vs es fs p e [] c q n t h a mark size same kept = absurd h
Forgets-from_Tiles ws vs es fs p e (Live o m ∷ ps) c q n t h a mark size same kept =
    elim h [
      | inl first ↦
          (let at : (q ≡ p) × (n ≡ m) = same_taken es c o q p n m a t.1 first in
          let place : q ≡ p = at.0 in
          let count : n ≡ m = at.1 in
          record {
            pieces = Dead m ∷ ps;
            tiles = (
              ap (λ i. get_or vs i 0) (sym place) ∙ mark,
              ap (λ i. get_or vs (i + 1) 0) (sym place) ∙ size ∙ count,
              Tiles-kept ws vs es fs (p + words_for m) e ps t.2 (λ i l k. same i (omega arith) (omega arith))
                  (λ d k. kept d (λ bad.
                  let w = LiesWithin-from_Tiles ws es (p + words_for m) e ps c q n t.2 (subst (λ x. IsLive x ps) bad k) a in
                  let low = w.low in omega arith)),
            );
            others = λ d ne k. elim k [ inl is ↦ absurd (ne (is ∙ sym first)) | inr r ↦ r ];
            total = omega arith;
          })
      | inr later ↦
          (let w = LiesWithin-from_Tiles ws es (p + words_for m) e ps c q n t.2 later a in
          let low = w.low in
          let f = Forgets-from_Tiles ws vs es fs (p + words_for m) e ps c q n t.2 later a mark size same kept in
          let not_this : o ≢ c = λ bad. (let at : (q ≡ p) × (n ≡ m) = same_taken es c o q p n m a t.1 (sym bad) in omega (arith, at.0)) in
          record {
            pieces = Live o m ∷ f.pieces;
            tiles = (same p (omega arith) (omega arith) ∙ t.0, kept o not_this ∙ t.1, f.tiles);
            others = λ d ne k. elim k [ inl is ↦ inl is | inr r ↦ inr (f.others d ne r) ];
            total = omega (arith, f.total);
          })
    ]
Forgets-from_Tiles ws vs es fs p e (Dead m ∷ ps) c q n t h a mark size same kept =
    let w = LiesWithin-from_Tiles ws es (p + words_for m) e ps c q n t.2 h a in
    let low = w.low in
    let f = Forgets-from_Tiles ws vs es fs (p + words_for m) e ps c q n t.2 h a mark size same kept in
    record {
      pieces = Dead m ∷ f.pieces;
      tiles = (same p (omega arith) (omega arith) ∙ t.0, same (p + 1) (omega arith) (omega arith) ∙ t.1, f.tiles);
      others = f.others;
      total = f.total;
    }

-- a part of a list that was moved
pub part_moved : (ws vs : List ℕ) (a b n : ℕ) → a + n ≤ length ws → b + n ≤ length vs → ((i : ℕ) → i < n → get_or vs (b + i) 0 ≡ get_or ws (a + i) 0) → take n (drop b vs) ≡ take n (drop a ws)
part_moved ws vs a b n fit fit' same =
    let l : length (take n (drop a ws)) ≡ n = length-take-le n (drop a ws) (omega (arith, length-drop a ws)) in
    let l' : length (take n (drop b vs)) ≡ n = length-take-le n (drop b vs) (omega (arith, length-drop b vs)) in
    ext_get_or 0 (take n (drop b vs)) (take n (drop a ws)) (l' ∙ sym l)
    (λ i h. let lt : i < n = omega arith in
    get_or-take n (drop b vs) i 0 lt ∙ get_or-drop b vs i 0 ∙ same i lt ∙ sym (get_or-drop a ws i 0) ∙ sym (get_or-take n (drop a ws) i 0 lt))
