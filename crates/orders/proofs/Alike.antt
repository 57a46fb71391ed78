-- Equal channels are those of one symbol.
use Rattle.std.proofs.Common.{◌≡◌, ◌&&◌, ◌<◌, ◌++◌, ℕ, Bool, true, false, List, [], ◌∷◌, Option, Some, None, map, slice_get, Contains, position, refl, sym, ◌∙◌, ap, ap₂, subst, nat_eq, eq-eqb, inl, inr, IsSome, IfSome, zero, suc, if◌then◌else◌}
use Rattle.std.specs.List.{IsDistinct as IsApart, list_any}
use Rattle.std.specs.Cmp.Lexicographic.{pointwise}
use Rattle.std.proofs.lemmas.Bool.{cases_order, eqb-true}
use Rattle.std.proofs.lemmas.Cmp.{nat_list_eq_equiv}
use Rattle.std.proofs.lemmas.Slice.Eq.{bytes_eq-Decides}
use Rattle.std.proofs.lemmas.Map.Keys.{apart_from_distinct}
use Rattle.std.proofs.lemmas.List.Folds.{list_any_at}
use Rattle.std.proofs.lemmas.List.Quantifiers.{position-Some}
use Rattle.std.specs.Option.{is_some}
use Rattle.std.proofs.lemmas.Option.{slice_get-get_or, get_or_from_slice_get, slice_get_within}
use Rattle.program.proofs.Lists.{slice_get_of, slice_get_mapped}
use Rattle.orders.specs.declared.channel.Channel.{Channel}
use Rattle.orders.specs.declared.channel.Channel.TheVariants.{Variable, Monitor, Start, End}
use Rattle.orders.specs.contracts.channel.ChannelPartialEq.TheImpl.{eq-value}
use Rattle.orders.specs.Symbols.{OfVariable, OfMonitor, OfStart, OfEnd, symbol_of, IsDistinct, Extends}

both_true : (x y : Bool) → (x && y) ≡ true → (x ≡ true) × (y ≡ true)
both_true true y e = (refl, e)
both_true false y e = cc

same_bytes : (a b : List ℕ) → pointwise nat_eq a b ≡ true → a ≡ b
same_bytes a b e = (bytes_eq-Decides a b).0 e

bytes_same : (a b : List ℕ) → a ≡ b → pointwise nat_eq a b ≡ true
bytes_same a b e = subst (λ (x : List ℕ). pointwise nat_eq a x ≡ true) e (nat_list_eq_equiv.refl a)

and_true : (x y : Bool) → x ≡ true → y ≡ true → (x && y) ≡ true
and_true true y e f = f
and_true false y e f = cc

pub alike : (k l : Channel) → eq-value.it k l ≡ true → symbol_of k ≡ symbol_of l
alike (Variable a b) (Variable c d) e = let both = both_true (pointwise nat_eq a.now c.now) (pointwise nat_eq b.now d.now) e in ap₂ OfVariable (same_bytes a.now c.now both.0) (same_bytes b.now d.now both.1)
alike (Monitor a) (Monitor c) e = ap OfMonitor (same_bytes a.now c.now e)
alike (Start a) (Start c) e = ap OfStart (eqb-true a c e)
alike (End a) (End c) e = ap OfEnd (eqb-true a c e)
alike _ _ e = cc

pub alike_back : (k l : Channel) → symbol_of k ≡ symbol_of l → eq-value.it k l ≡ true
alike_back (Variable a b) (Variable c d) e = and_true (pointwise nat_eq a.now c.now) (pointwise nat_eq b.now d.now) (bytes_same a.now c.now cc) (bytes_same b.now d.now cc)
alike_back (Monitor a) (Monitor c) e = bytes_same a.now c.now cc
alike_back (Start a) (Start c) e = eq-eqb a c cc
alike_back (End a) (End c) e = eq-eqb a c cc
alike_back _ _ e = cc

pub apart : (keys : List Channel) → IsApart eq-value.it keys → IsDistinct (map symbol_of keys)
apart keys distinct m n s is_m is_n =
    let (k, at_k, sym_k) = slice_get_mapped symbol_of keys m s is_m in
    let (l, at_l, sym_l) = slice_get_mapped symbol_of keys n s is_n in
    elim (cases_order m n) [
      | inl e ↦ e
      | inr (inl below) ↦ absurd (never m n k l at_k at_l below (sym_k ∙ sym sym_l))
      | inr (inr above) ↦ absurd (never n m l k at_l at_k above (sym_l ∙ sym sym_k))
    ]
  where
    never : (i j : ℕ) (k l : Channel) → slice_get keys i ≡ Some k → slice_get keys j ≡ Some l → i < j → symbol_of k ≡ symbol_of l → ⊥
    never i j k l at_k at_l below same =
        let no = apart_from_distinct eq-value.it keys i j k distinct below (slice_get_within keys j l at_l) in
        let yes = alike_back k l same in
        let one = get_or_from_slice_get keys i k k at_k in
        let two = get_or_from_slice_get keys j l k at_l in
        cc

-- the symbol at the place that a test finds
pub position_symbol : (keys : List Channel) (k : Channel) (n : ℕ) → position (eq-value.it k) keys ≡ Some n → slice_get (map symbol_of keys) n ≡ Some (symbol_of k)
position_symbol keys k n is =
    let found = position-Some (eq-value.it k) keys n k is in
    slice_get_of symbol_of keys n _ (slice_get-get_or keys n k found.0) ∙ ap Some (sym (alike k _ found.1))

-- a test that passes somewhere
pub any_at : {X : Type 0} (p : X → Bool) (xs : List X) (n : ℕ) (x : X) → slice_get xs n ≡ Some x → p x ≡ true → list_any p xs ≡ true
any_at p xs n x is passes = list_any_at p xs n x (slice_get_within xs n x is) (ap p (get_or_from_slice_get xs n x x is) ∙ passes)

-- a channel whose symbol is there is found
pub position_there : (keys : List Channel) (k : Channel) (o : Option ℕ) → is_some o ≡ list_any (eq-value.it k) keys → Contains (map symbol_of keys) (symbol_of k) → IsSome o
position_there keys k o found (n, within, is) =
    let (l, at_l, sym_l) = slice_get_mapped symbol_of keys n (symbol_of k) (slice_get-get_or (map symbol_of keys) n (symbol_of k) within ∙ ap Some is) in
    found ∙ any_at (eq-value.it k) keys n l at_l (alike_back k l (sym sym_l))

pub there_position : (keys : List Channel) (k : Channel) (o : Option ℕ) → o ≡ position (eq-value.it k) keys → IsSome o → Contains (map symbol_of keys) (symbol_of k)
there_position keys k None e some = cc
there_position keys k (Some n) e some =
    let is = position_symbol keys k n (sym e) in
    (n, slice_get_within (map symbol_of keys) n (symbol_of k) is, get_or_from_slice_get (map symbol_of keys) n (symbol_of k) (symbol_of k) is)

pub found_symbol : (keys : List Channel) (k : Channel) (o : Option ℕ) → o ≡ position (eq-value.it k) keys → IfSome o (λ n. slice_get (map symbol_of keys) n ≡ Some (symbol_of k))
found_symbol keys k None e = tt
found_symbol keys k (Some n) e = position_symbol keys k n (sym e)

pub front : {X : Type 0} (xs ys : List X) (n : ℕ) (x : X) → slice_get xs n ≡ Some x → slice_get (xs ++ ys) n ≡ Some x
front [] ys n x is = cc
front (y ∷ xs) ys zero x is = is
front (y ∷ xs) ys (suc n) x is = front xs ys n x is

-- ---- One more channel

pub grown : (keys new : List Channel) (k : Channel) (b : Bool) → new ≡ (if b then keys else (keys ++ k ∷ [])) → Extends (map symbol_of keys) (map symbol_of new)
grown keys new k true e n s is = subst (λ (x : List Channel). slice_get (map symbol_of x) n ≡ Some s) (sym e) is
grown keys new k false e n s is =
    let (l, at_l, sym_l) = slice_get_mapped symbol_of keys n s is in
    subst (λ (x : List Channel). slice_get (map symbol_of x) n ≡ Some s) (sym e)
    (slice_get_of symbol_of (keys ++ k ∷ []) n l (front keys (k ∷ []) n l at_l) ∙ ap Some sym_l)
