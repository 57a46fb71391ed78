-- One more place of a pass.
use Rattle.std.proofs.Common.{◌≡◌, ◌<◌, ◌&&◌, ◌↔◌, ℕ, ◌≤◌, arith, Bool, true, false, IsTrue, List, [], ◌∷◌, suc, Option, Some, Contains, slice_get, slice_index_or, length, refl, sym, ◌∙◌, ap, subst, inl, inr, Bor}
use Rattle.std.proofs.lemmas.Option.{slice_get-get_or, slice_get_within}
use Rattle.program.proofs.Lists.{contains_nil, contains_at, place_of, slice_get_of}
use Rattle.program.specs.Program.{Prog}
use Rattle.action_orders.specs.declared.action.Entry.{Entry}
use Rattle.action_orders.specs.Execution.{Exec}
use Rattle.action_orders.specs.Actions.{entries}
use Rattle.entry_tables.specs.Added.{AreAdded}
use Rattle.entry_tables.specs.Lists.{seen}
use Rattle.execution_form.specs.Facts.{Stated, IsSo, AreFacts, IsMet, IsMissed}
use Rattle.execution_form.specs.Needs.{IsSyncId}
use Rattle.execution_form.specs.Form.{IsRightEntry, IsRightAt, IsRightAtPlace}

one : {X : Type 0} {x y : X} → Some x ≡ Some y → x ≡ y
one e = cc

-- ---- Both of two tests

pub both : (a b : Bool) (P Q R : Type 0) → (IsTrue a ↔ P) → (IsTrue b ↔ Q) → (P → Q → R) → (R → P) → (R → Q) → IsTrue (a && b) ↔ R
both true b P Q R is_a is_b make first second = (λ h. make (is_a.0 refl) (is_b.0 h), λ r. is_b.1 (second r))
both false b P Q R is_a is_b make first second = (λ h. (let never : ⊥ = cc in absurd never), λ r. is_a.1 (first r))

-- a test that fails is enough
pub fails_at : (a : Bool) (P R : Type 0) → (IsTrue a ↔ P) → a ≡ false → (R → P) → IsTrue false ↔ R
fails_at a P R is_a fails first = (λ h. (let never : ⊥ = cc in absurd never), λ r. (let t = is_a.1 (first r) in let never : ⊥ = cc in absurd never))

-- the last test decides where the others passed
pub decides : (a : Bool) (P R : Type 0) → (IsTrue a ↔ P) → (P → R) → (R → P) → IsTrue a ↔ R
decides a P R is_a make first = (λ h. make (is_a.0 h), λ r. is_a.1 (first r))

-- ---- Needs and facts

pub meets_so : (p : Prog) (e : Exec) (facts : List Stated) (given needed : Option Stated) (b : Bool) → AreFacts p e facts → given ≡ needed → (IsTrue b ↔ IsMet facts given) → IsTrue b ↔ ((s : Stated) → needed ≡ Some s → IsSo p e s)
meets_so p e facts given needed b are same iff = (λ h s is. (are s).0 (iff.0 h s (same ∙ is)), λ all. iff.1 (λ s is. (are s).1 (all s (sym same ∙ is))))

pub misses_so : (p : Prog) (e : Exec) (facts : List Stated) (given needed : Option Stated) (b : Bool) → AreFacts p e facts → given ≡ needed → (IsTrue b ↔ IsMissed facts given) → IsTrue b ↔ ((s : Stated) → needed ≡ Some s → IsSo p e s → ⊥)
misses_so p e facts given needed b are same iff = (λ h s is so. iff.0 h s (same ∙ is) ((are s).1 so), λ all. iff.1 (λ s is there. all s (sym same ∙ is) ((are s).0 there)))

-- ---- The synchronization order

abbrev pub of_id : ℕ → Option ℕ
of_id id = Some id

pub right_order : (e : Exec) (r id : ℕ) (listed : List ℕ) (known new : Bool) → slice_get e.so r ≡ Some id → AreAdded [] of_id e.so r listed →
    (IsTrue known ↔ IsSyncId e id) → (IsTrue new ↔ (Contains listed id → ⊥)) → IsTrue (known && new) ↔ IsRightAtPlace e r
right_order e r id listed known new at added is_known is_new =
    both known new (IsSyncId e id) (Contains listed id → ⊥) (IsRightAtPlace e r) is_known is_new make (λ right. right.known id at) fresh
  where
    make : IsSyncId e id → (Contains listed id → ⊥) → IsRightAtPlace e r
    make sync absent = record {
      known = λ x is. subst (IsSyncId e) (one (sym at ∙ is)) sync;
      new = λ q x below at_q at_r. absent ((added id).1 (inr (record { item = x; place = q; before = below; at = at_q; gives = sym at_r ∙ at })));
    }

    fresh : IsRightAtPlace e r → Contains listed id → ⊥
    fresh right there = elim ((added id).0 there) [ inl never ↦ contains_nil id never | inr g ↦ right.new g.place id g.before (g.at ∙ g.gives) at ]

-- ---- The entries

abbrev pub id_of : Entry → Option ℕ
id_of n = Some n.action.id

pub right_entries : (p : Prog) (e : Exec) (i : ℕ) (n : Entry) (found : List ℕ) (right new : Bool) → slice_get (entries e) i ≡ Some n → AreAdded [] id_of (entries e) i found →
    (IsTrue right ↔ IsRightEntry p e n) → (IsTrue new ↔ (Contains found n.action.id → ⊥)) → IsTrue (right && new) ↔ IsRightAt p e i
right_entries p e i n found right new at added is_right is_new =
    both right new (IsRightEntry p e n) (Contains found n.action.id → ⊥) (IsRightAt p e i) is_right is_new make (λ all. all.right n at) fresh
  where
    make : IsRightEntry p e n → (Contains found n.action.id → ⊥) → IsRightAt p e i
    make is absent = record {
      right = λ m at_m. subst (IsRightEntry p e) (one (sym at ∙ at_m)) is;
      new = λ j m x below at_j at_i same. absent ((added n.action.id).1 (inr (record {
        item = m;
        place = j;
        before = below;
        at = at_j;
        gives = ap Some same ∙ ap (λ (y : Entry). Some y.action.id) (one (sym at_i ∙ at));
      })));
    }

    fresh : IsRightAt p e i → Contains found n.action.id → ⊥
    fresh all there = elim ((added n.action.id).0 there) [ inl never ↦ contains_nil n.action.id never | inr g ↦ all.new g.place g.item n g.before g.at at (one g.gives) ]

-- the entry that was read
pub read_entry : (refs : List (Bor Entry)) (ns : List Entry) (i : ℕ) (x : Bor Entry) → seen refs ≡ ns → i < length refs → x ≡ slice_index_or refs i x → slice_get ns i ≡ Some x.now
read_entry refs ns i x same within is =
    ap (λ (xs : List Entry). slice_get xs i) (sym same) ∙ slice_get_of (λ (r : Bor Entry). r.now) refs i x (slice_get-get_or refs i x within ∙ ap Some (sym is))

pub seen_length : (refs : List (Bor Entry)) → length (seen refs) ≡ length refs
seen_length [] = refl
seen_length (r ∷ refs) = ap (λ n. suc n) (seen_length refs)

pub fact_so : (p : Prog) (e : Exec) (facts : List Stated) (s t : Stated) (found : Bool) → AreFacts p e facts → s ≡ t → (IsTrue found ↔ Contains facts s) → IsTrue found ↔ IsSo p e t
fact_so p e facts s t found are same iff = (λ h. subst (IsSo p e) same ((are s).0 (iff.0 h)), λ so. iff.1 ((are s).1 (subst (IsSo p e) (sym same) so)))

-- the identifiers that were noted are those of the synchronization order
pub all_listed : (e : Exec) (i : ℕ) (listed : List ℕ) → length e.so ≤ i → AreAdded [] of_id e.so i listed → (id : ℕ) → Contains listed id ↔ Contains e.so id
all_listed e i listed past added id = (
  λ h. elim ((added id).0 h) [ inl never ↦ absurd (contains_nil id never) | inr g ↦ contains_at e.so g.place id (g.at ∙ g.gives) ],
  λ h. (let (r, at) = place_of e.so id h in let within = slice_get_within e.so r id at in (added id).1 (inr (record { item = id; place = r; before = omega arith; at = at; gives = refl }))),
)
