-- The pool: what is read is spelled so and is a pool, and what is a pool and spelled so is read.
use Rattle.std.proofs.Common.{◌≡◌, ℕ, zero, suc, ◌+◌, ◌<◌, Bool, true, false, List, [], ◌∷◌, length, Ok, refl, sym, ap, subst, ◌∙◌, arith}
use Rattle.std.specs.Prelude.{IsTrue}
use Rattle.std.specs.List.{flat_map, AllByRecursion}
use Rattle.class_format.specs.declared.record.PoolEntry.{PoolEntry}
use Rattle.class_format.specs.declared.record.PoolEntry.TheVariants.{Utf8, Integer, Float, Long, Double, Class, Text, Field, Method, InterfaceMethod, NameAndType, Gap}
use Rattle.class_format.specs.ClassText.{entry_text, FitsFields, NamesEntries, GapsFollow}
use Rattle.class_format.specs.Pool.{takes_two_numbers, is_gap}
use Rattle.class_format.specs.Input.{Input, ◌>>=◌, demand}
use Rattle.class_format.specs.Reading.{numbered_from, pool_from, check_entry, check_entries, checked_pool_from}
use Rattle.class_format.proofs.Fields.{IsBytes, Spells, Reads, steps, bind_ok, ok_is}
use Rattle.class_format.proofs.Items.{Facts, facts_count, items_read, ends_here}
use Rattle.class_format.proofs.Entries.{IsEntry, entry_reads}

-- what is known of the entry of the next number
abbrev pub IsNumbered : Bool → ℕ → PoolEntry → Type 0
IsNumbered true n entry = entry ≡ Gap
IsNumbered false n entry = IsEntry n entry

numbered_takes : (wide : Bool) (n : ℕ) (i : Input) (x : PoolEntry) (j : Input) → IsBytes i.bytes → numbered_from wide n i ≡ Ok (x, j) → Spells i (entry_text x) j × IsBytes j.bytes × IsNumbered wide n x
numbered_takes true n i x j bytes e =
    subst (λ (y : PoolEntry × Input). Spells i (entry_text y.0) y.1 × IsBytes y.1.bytes × (y.0 ≡ Gap)) (ok_is (Gap, i) (x, j) e) (record { bytes = refl; place = omega arith }, bytes, refl)
numbered_takes false n i x j bytes e = (entry_reads n).takes i x j bytes e

numbered_again : (wide : Bool) (n : ℕ) (i : Input) (x : PoolEntry) (j : Input) → Spells i (entry_text x) j → IsNumbered wide n x → numbered_from wide n i ≡ Ok (x, j)
numbered_again true n i x j s is =
    let here : Spells i [] j = subst (λ (y : PoolEntry). Spells i (entry_text y) j) is s in
    let place : i ≡ j = ends_here i j here in
    rw (is, place) refl
numbered_again false n i x j s h = (entry_reads n).again i x j s h

pub numbered_reads : (wide : Bool) (n : ℕ) → Reads (numbered_from wide n) entry_text (IsNumbered wide n)
numbered_reads wide n = record { takes = numbered_takes wide n; again = numbered_again wide n }

-- the facts of a pool, where so many numbers are left
abbrev PoolFacts : Bool → ℕ → List PoolEntry → Type 0
PoolFacts = Facts numbered_from (λ entry wide. takes_two_numbers entry) entry_text IsNumbered

gaps_from_facts : (wide : Bool) (n : ℕ) (pool : List PoolEntry) → (wide ≡ true → 0 < n) → PoolFacts wide n pool → GapsFollow wide pool
gaps_from_facts true zero [] room h = absurd (omega (arith, room refl))
gaps_from_facts false zero [] room h = refl
gaps_from_facts wide zero (x ∷ pool) room h = absurd h
gaps_from_facts wide (suc n) [] room h = absurd h
gaps_from_facts true (suc n) (x ∷ pool) room h = (rw h.0 refl, gaps_from_facts (takes_two_numbers x) n pool (λ e. absurd (no_more x h.0 e)) h.1)
  where
    no_more : (y : PoolEntry) → y ≡ Gap → takes_two_numbers y ≡ true → ⊥
    no_more y is e = let f : false ≡ true = ap takes_two_numbers (sym is) ∙ e in cc
gaps_from_facts false (suc n) (x ∷ pool) room h = (h.0.no_gap, gaps_from_facts (takes_two_numbers x) n pool h.0.room h.1)

fields_from_facts : (wide : Bool) (n : ℕ) (pool : List PoolEntry) → PoolFacts wide n pool → AllByRecursion FitsFields pool
fields_from_facts wide zero [] h = tt
fields_from_facts wide zero (x ∷ pool) h = absurd h
fields_from_facts wide (suc n) [] h = absurd h
fields_from_facts true (suc n) (x ∷ pool) h = (subst FitsFields (sym h.0) tt, fields_from_facts (takes_two_numbers x) n pool h.1)
fields_from_facts false (suc n) (x ∷ pool) h = (h.0.fits, fields_from_facts (takes_two_numbers x) n pool h.1)

-- a gap is the entry
pub is_gap_is : (x : PoolEntry) → is_gap x ≡ true → x ≡ Gap
is_gap_is (Utf8 b) e = absurd cc
is_gap_is (Integer b) e = absurd cc
is_gap_is (Float b) e = absurd cc
is_gap_is (Long b c) e = absurd cc
is_gap_is (Double b c) e = absurd cc
is_gap_is (Class b) e = absurd cc
is_gap_is (Text b) e = absurd cc
is_gap_is (Field b c) e = absurd cc
is_gap_is (Method b c) e = absurd cc
is_gap_is (InterfaceMethod b c) e = absurd cc
is_gap_is (NameAndType b c) e = absurd cc
is_gap_is Gap e = refl

-- behind an entry that takes two numbers another follows
another : (wide : Bool) (pool : List PoolEntry) → GapsFollow wide pool → wide ≡ true → 0 < length pool
another wide [] h e = absurd (let f : false ≡ true = sym h ∙ e in cc)
another wide (x ∷ pool) h e = omega arith

facts_of_pool : (wide : Bool) (pool : List PoolEntry) → GapsFollow wide pool → AllByRecursion FitsFields pool → PoolFacts wide (length pool) pool
facts_of_pool wide [] gaps fields = tt
facts_of_pool true (x ∷ pool) gaps fields = (is_gap_is x gaps.0, facts_of_pool (takes_two_numbers x) pool gaps.1 fields.1)
facts_of_pool false (x ∷ pool) gaps fields = (record { fits = fields.0; no_gap = gaps.0; room = another (takes_two_numbers x) pool gaps.1 }, facts_of_pool (takes_two_numbers x) pool gaps.1 fields.1)

-- a pool of n numbers, whatever its indices
pub record IsPoolOf (n : ℕ) (pool : List PoolEntry) : Type 0 where
  pub count : length pool ≡ n
  pub gaps : GapsFollow false pool
  pub fields : AllByRecursion FitsFields pool

pub pool_reads : (n : ℕ) → Reads (pool_from n) (flat_map entry_text) (IsPoolOf n)
pool_reads n =
    let r = items_read numbered_from (λ entry wide. takes_two_numbers entry) entry_text IsNumbered numbered_reads false n in
    record {
      takes = λ i pool j bytes e.
          let t = r.takes i pool j bytes e in
          (t.0, t.1, record { count = facts_count numbered_from (λ entry wide. takes_two_numbers entry) entry_text IsNumbered false n pool t.2; gaps = gaps_from_facts false n pool (λ f. absurd cc) t.2; fields = fields_from_facts false n pool t.2 });
      again = λ i pool j s h. r.again i pool j s (subst (λ (k : ℕ). PoolFacts false k pool) h.count (facts_of_pool false pool h.gaps h.fields));
    }

-- ---- The indices

two_met : (a b : Bool) (kind m n : ℕ) → (demand a kind m >>= λ _. demand b kind n) ≡ Ok tt → IsTrue a × IsTrue b
two_met true true kind m n e = (refl, refl)
two_met true false kind m n e = absurd cc
two_met false b kind m n e = absurd cc

one_met : (a : Bool) (kind m : ℕ) → demand a kind m ≡ Ok tt → IsTrue a
one_met true kind m e = refl
one_met false kind m e = absurd cc

pub entry_checked : (pool : List PoolEntry) (x : PoolEntry) (place : ℕ) → check_entry pool x place ≡ Ok tt → NamesEntries pool x
entry_checked pool (Utf8 b) place e = tt
entry_checked pool (Integer b) place e = tt
entry_checked pool (Float b) place e = tt
entry_checked pool (Long b c) place e = tt
entry_checked pool (Double b c) place e = tt
entry_checked pool (Class b) place e = one_met _ _ _ e
entry_checked pool (Text b) place e = one_met _ _ _ e
entry_checked pool (Field b c) place e = two_met _ _ _ _ _ e
entry_checked pool (Method b c) place e = two_met _ _ _ _ _ e
entry_checked pool (InterfaceMethod b c) place e = two_met _ _ _ _ _ e
entry_checked pool (NameAndType b c) place e = two_met _ _ _ _ _ e
entry_checked pool Gap place e = tt

pub check_again : (pool : List PoolEntry) (x : PoolEntry) (place : ℕ) → NamesEntries pool x → check_entry pool x place ≡ Ok tt
check_again pool (Utf8 b) place h = refl
check_again pool (Integer b) place h = refl
check_again pool (Float b) place h = refl
check_again pool (Long b c) place h = refl
check_again pool (Double b c) place h = refl
check_again pool (Class b) place h = rw h refl
check_again pool (Text b) place h = rw h refl
check_again pool (Field b c) place h = rw (h.0, h.1) refl
check_again pool (Method b c) place h = rw (h.0, h.1) refl
check_again pool (InterfaceMethod b c) place h = rw (h.0, h.1) refl
check_again pool (NameAndType b c) place h = rw (h.0, h.1) refl
check_again pool Gap place h = refl

unit_is : (u : Unit {0}) → tt ≡ u
unit_is u = refl

entries_checked : (pool xs : List PoolEntry) (place : ℕ) → check_entries pool xs place ≡ Ok tt → AllByRecursion (NamesEntries pool) xs
unfolding check_entries
entries_checked pool [] place e = tt
entries_checked pool (x ∷ xs) place e =
    let b = bind_ok (check_entry pool x place) _ tt e in
    (entry_checked pool x place b.1, entries_checked pool xs _ b.2)

checks_again : (pool xs : List PoolEntry) (place : ℕ) → AllByRecursion (NamesEntries pool) xs → check_entries pool xs place ≡ Ok tt
unfolding check_entries
checks_again pool [] place h = refl
checks_again pool (x ∷ xs) place h = rw (check_again pool x place h.0) (checks_again pool xs (place + length (entry_text x)) h.1)

-- a pool of n numbers whose indices name what they have to
pub record IsCheckedPool (n : ℕ) (pool : List PoolEntry) : Type 0 where
  pub pool_of : IsPoolOf n pool
  pub names : AllByRecursion (NamesEntries pool) pool

pub checked_pool_reads : (n : ℕ) → Reads (checked_pool_from n) (flat_map entry_text) (IsCheckedPool n)
unfolding checked_pool_from
checked_pool_reads n = record {
  takes = λ i pool j bytes e.
      let a = steps (pool_reads n) _ i (pool, j) bytes e in
      let b = bind_ok (check_entries a.item a.item i.place) _ (pool, j) a.goes in
      let made : Spells i (flat_map entry_text a.item) a.rest × IsBytes a.rest.bytes × IsCheckedPool n a.item =
      (a.spells, a.bytes, record { pool_of = a.fits; names = entries_checked a.item a.item i.place b.1 }) in
      subst (λ (y : List PoolEntry × Input). Spells i (flat_map entry_text y.0) y.1 × IsBytes y.1.bytes × IsCheckedPool n y.0) (ok_is (a.item, a.rest) (pool, j) b.2) made;
  again = λ i pool j s h. rw ((pool_reads n).again i pool j s h.pool_of, checks_again pool pool i.place h.names) refl;
}
