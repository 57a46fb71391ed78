-- Where reading the pool fails: in its entries, or behind them in their indices.
use Rattle.std.proofs.Common.{◌≡◌, ℕ, zero, suc, ◌+◌, ◌-◌, ◌<◌, Bool, true, false, List, [], ◌∷◌, ◌++◌, length, Err, refl, sym, ap, subst, ◌∙◌, length-append, arith, inl, inr}
use Rattle.std.specs.List.{flat_map, AllByRecursion}
use Rattle.std.proofs.lemmas.List.Concat.{flat_map-cons}
use Rattle.class_format.specs.declared.record.PoolEntry.{PoolEntry}
use Rattle.class_format.specs.declared.record.PoolEntry.TheVariants.{Utf8, Integer, Float, Long, Double, Class, Text, Field, Method, InterfaceMethod, NameAndType, Gap}
use Rattle.class_format.specs.ClassText.{entry_text, FitsFields, NamesEntries, GapsFollow}
use Rattle.class_format.specs.Pool.{takes_two_numbers}
use Rattle.class_format.specs.Input.{Input, Fault, ◌>>=◌, demand, wrong_index}
use Rattle.class_format.specs.Reading.{entry_from, numbered_from, pool_from, check_entry, check_entries, checked_pool_from}
use Rattle.class_format.specs.FirstFault.{fault_at, ItemsFault, EntryFault, OneIndexFault, TwoIndicesFault, EntryIndexFault, IndicesFault, AreEntries, PoolFault, in_entries, in_indices}
use Rattle.class_format.proofs.Fields.{IsBytes}
use Rattle.class_format.proofs.PoolTexts.{IsNumbered, numbered_reads, is_gap_is, IsPoolOf, pool_reads, entry_checked, check_again}
use Rattle.class_format.proofs.Faults.{FailsAs, failed, err_is, bind_err, steps_err, no_fault}
use Rattle.class_format.proofs.ItemFaults.{Front, state_after, items_fail, items_refused}
use Rattle.class_format.proofs.EntryFaults.{entry_fails}

-- ---- The entries

abbrev wide_next : PoolEntry → Bool → Bool
wide_next entry wide = takes_two_numbers entry

abbrev PoolFront : Bool → ℕ → List PoolEntry → Type 0
PoolFront = Front numbered_from wide_next entry_text IsNumbered

abbrev wide_after : Bool → List PoolEntry → Bool
wide_after = state_after numbered_from wide_next entry_text IsNumbered

gaps_of_front : (wide : Bool) (n : ℕ) (before : List PoolEntry) → PoolFront wide n before → wide_after wide before ≡ false → GapsFollow wide before
gaps_of_front wide n [] h narrow = narrow
gaps_of_front wide zero (x ∷ before) h narrow = absurd h
gaps_of_front true (suc n) (x ∷ before) h narrow = (rw h.0 refl, gaps_of_front (takes_two_numbers x) n before h.1 narrow)
gaps_of_front false (suc n) (x ∷ before) h narrow = (h.0.no_gap, gaps_of_front (takes_two_numbers x) n before h.1 narrow)

fields_of_front : (wide : Bool) (n : ℕ) (before : List PoolEntry) → PoolFront wide n before → AllByRecursion FitsFields before
fields_of_front wide n [] h = tt
fields_of_front wide zero (x ∷ before) h = absurd h
fields_of_front true (suc n) (x ∷ before) h = (subst FitsFields (sym h.0) tt, fields_of_front (takes_two_numbers x) n before h.1)
fields_of_front false (suc n) (x ∷ before) h = (h.0.fits, fields_of_front (takes_two_numbers x) n before h.1)

narrow_behind : (wide : Bool) (before : List PoolEntry) → GapsFollow wide before → wide_after wide before ≡ false
narrow_behind wide [] gaps = gaps
narrow_behind wide (x ∷ before) gaps = narrow_behind (takes_two_numbers x) before gaps.1

front_of_entries : (wide : Bool) (n : ℕ) (before : List PoolEntry) → length before < n → GapsFollow wide before → AllByRecursion FitsFields before → PoolFront wide n before
front_of_entries wide n [] lt gaps fields = tt
front_of_entries wide zero (x ∷ before) lt gaps fields = absurd (omega (arith, lt))
front_of_entries true (suc n) (x ∷ before) lt gaps fields = (is_gap_is x gaps.0, front_of_entries (takes_two_numbers x) n before (omega (arith, lt)) gaps.1 fields.1)
front_of_entries false (suc n) (x ∷ before) lt gaps fields =
    (record { fits = fields.0; no_gap = gaps.0; room = λ wide. omega (arith, lt) }, front_of_entries (takes_two_numbers x) n before (omega (arith, lt)) gaps.1 fields.1)

-- a gap doesn't fail
numbered_err : (wide : Bool) (n : ℕ) (i : Input) (f : Fault) → numbered_from wide n i ≡ Err f → (wide ≡ false) × (entry_from n i ≡ Err f)
numbered_err true n i f e = no_fault (Gap, i) f e
numbered_err false n i f e = (refl, e)

entries_fail : (n : ℕ) → FailsAs (pool_from n) (ItemsFault entry_text AreEntries (λ before. EntryFault (n - length before - 1)) n)
entries_fail n = record {
  found = λ i f bytes e.
      let t = items_fail numbered_from wide_next entry_text IsNumbered numbered_reads false n i f bytes e in
      let m = n - length t.before - 1 in
      let here = numbered_err (wide_after false t.before) m t.rest f t.fails in
      record {
        before = t.before;
        next = t.rest;
        fewer = t.fewer;
        right = record { gaps = gaps_of_front false n t.before t.front here.0; fields = fields_of_front false n t.before t.front };
        stand = t.stand;
        fails = (entry_fails m).found t.rest f t.bytes here.1;
      };
  refused = λ i f h.
      let m = n - length h.before - 1 in
      let next : numbered_from (wide_after false h.before) m h.next ≡ Err f = rw (narrow_behind false h.before h.right.gaps) ((entry_fails m).refused h.next f h.fails) in
      items_refused numbered_from wide_next entry_text IsNumbered numbered_reads h.before false n i h.next f h.fewer (front_of_entries false n h.before h.fewer h.right.gaps h.right.fields) h.stand next;
}

-- ---- The indices

one_err : (names : Bool) (place : ℕ) (f : Fault) → demand names wrong_index (place + 1) ≡ Err f → OneIndexFault names place f
one_err true place f e = no_fault tt f e
one_err false place f e = (refl, sym (err_is {A = Unit {0}} (fault_at wrong_index (place + 1)) f e))

two_err : (first second : Bool) (place : ℕ) (f : Fault) → (demand first wrong_index (place + 1) >>= λ _. demand second wrong_index (place + 3)) ≡ Err f → TwoIndicesFault first second place f
two_err true true place f e = no_fault tt f e
two_err true false place f e = inr (refl, refl, sym (err_is {A = Unit {0}} (fault_at wrong_index (place + 3)) f e))
two_err false second place f e = inl (refl, sym (err_is {A = Unit {0}} (fault_at wrong_index (place + 1)) f e))

entry_err : (pool : List PoolEntry) (x : PoolEntry) (place : ℕ) (f : Fault) → check_entry pool x place ≡ Err f → EntryIndexFault pool x place f
entry_err pool (Utf8 b) place f e = no_fault tt f e
entry_err pool (Integer b) place f e = no_fault tt f e
entry_err pool (Float b) place f e = no_fault tt f e
entry_err pool (Long b c) place f e = no_fault tt f e
entry_err pool (Double b c) place f e = no_fault tt f e
entry_err pool (Class b) place f e = one_err _ place f e
entry_err pool (Text b) place f e = one_err _ place f e
entry_err pool (Field b c) place f e = two_err _ _ place f e
entry_err pool (Method b c) place f e = two_err _ _ place f e
entry_err pool (InterfaceMethod b c) place f e = two_err _ _ place f e
entry_err pool (NameAndType b c) place f e = two_err _ _ place f e
entry_err pool Gap place f e = no_fault tt f e

one_refused : (names : Bool) (place : ℕ) (f : Fault) → OneIndexFault names place f → demand names wrong_index (place + 1) ≡ Err f
one_refused names place f h = rw (h.0, h.1) refl

two_refused : (first second : Bool) (place : ℕ) (f : Fault) → TwoIndicesFault first second place f → (demand first wrong_index (place + 1) >>= λ _. demand second wrong_index (place + 3)) ≡ Err f
two_refused first second place f (inl h) = rw (h.0, h.1) refl
two_refused first second place f (inr h) = rw (h.0, h.1, h.2) refl

entry_refused : (pool : List PoolEntry) (x : PoolEntry) (place : ℕ) (f : Fault) → EntryIndexFault pool x place f → check_entry pool x place ≡ Err f
entry_refused pool (Utf8 b) place f h = absurd h
entry_refused pool (Integer b) place f h = absurd h
entry_refused pool (Float b) place f h = absurd h
entry_refused pool (Long b c) place f h = absurd h
entry_refused pool (Double b c) place f h = absurd h
entry_refused pool (Class b) place f h = one_refused _ place f h
entry_refused pool (Text b) place f h = one_refused _ place f h
entry_refused pool (Field b c) place f h = two_refused _ _ place f h
entry_refused pool (Method b c) place f h = two_refused _ _ place f h
entry_refused pool (InterfaceMethod b c) place f h = two_refused _ _ place f h
entry_refused pool (NameAndType b c) place f h = two_refused _ _ place f h
entry_refused pool Gap place f h = absurd h

-- the place behind an entry and more of them
place_behind : (place : ℕ) (x : PoolEntry) (before : List PoolEntry) → place + length (entry_text x) + length (flat_map entry_text before) ≡ place + length (flat_map entry_text (x ∷ before))
place_behind place x before =
    let parts : length (flat_map entry_text (x ∷ before)) ≡ length (entry_text x) + length (flat_map entry_text before) = ap length (flat_map-cons entry_text x before) ∙ length-append (entry_text x) (flat_map entry_text before) in
    omega (arith, parts)

indices_found : (pool entries : List PoolEntry) (place : ℕ) (f : Fault) → check_entries pool entries place ≡ Err f → IndicesFault pool entries place f
unfolding check_entries
indices_found pool [] place f e = no_fault tt f e
indices_found pool (x ∷ entries) place f e =
    elim (bind_err (check_entry pool x place) _ f e) [
      | inl d ↦
          let here : place ≡ place + 0 = omega arith in
          record { before = []; entry = x; behind = entries; parts = refl; right = tt; fails = subst (λ (at : ℕ). EntryIndexFault pool x at f) here (entry_err pool x place f d) }
      | inr a ↦
          let more = indices_found pool entries (place + length (entry_text x)) f a.2 in
          record {
            before = x ∷ more.before;
            entry = more.entry;
            behind = more.behind;
            parts = ap (λ (xs : List PoolEntry). x ∷ xs) more.parts;
            right = (entry_checked pool x place a.1, more.right);
            fails = subst (λ (at : ℕ). EntryIndexFault pool more.entry at f) (place_behind place x more.before) more.fails;
          }
    ]

checks_refused : (pool before : List PoolEntry) (entry : PoolEntry) (behind : List PoolEntry) (place : ℕ) (f : Fault) → AllByRecursion (NamesEntries pool) before
    → EntryIndexFault pool entry (place + length (flat_map entry_text before)) f → check_entries pool (before ++ entry ∷ behind) place ≡ Err f
unfolding check_entries
checks_refused pool [] entry behind place f right h =
    let here : place + 0 ≡ place = omega arith in
    let e : check_entry pool entry place ≡ Err f = entry_refused pool entry place f (subst (λ (at : ℕ). EntryIndexFault pool entry at f) here h) in
    rw e refl
checks_refused pool (x ∷ before) entry behind place f right h =
    let there : EntryIndexFault pool entry (place + length (entry_text x) + length (flat_map entry_text before)) f = subst (λ (at : ℕ). EntryIndexFault pool entry at f) (sym (place_behind place x before)) h in
    rw (check_again pool x place right.0) (checks_refused pool before entry behind (place + length (entry_text x)) f right.1 there)

-- ---- The whole pool

pool_found : (n : ℕ) (i : Input) (f : Fault) → IsBytes i.bytes → checked_pool_from n i ≡ Err f → PoolFault n i f
unfolding checked_pool_from
pool_found n i f bytes e =
    elim (steps_err (pool_reads n) _ i f bytes e) [
      | inl d ↦ in_entries f ((entries_fail n).found i f bytes d)
      | inr a ↦ elim (bind_err (check_entries a.item a.item i.place) _ f a.goes) [
        | inl d ↦ in_indices a.item a.rest f a.fits.count (record { gaps = a.fits.gaps; fields = a.fits.fields }) a.spells (indices_found a.item a.item i.place f d)
        | inr b ↦ no_fault (a.item, a.rest) f b.2
      ]
    ]

pool_refused : (n : ℕ) (i : Input) (f : Fault) → PoolFault n i f → checked_pool_from n i ≡ Err f
unfolding checked_pool_from
pool_refused n i f (in_entries g h) = rw ((entries_fail n).refused i g h) refl
pool_refused n i f (in_indices pool j g count are stand h) =
    let whole : IsPoolOf n pool = record { count = count; gaps = are.gaps; fields = are.fields } in
    let checks : check_entries pool pool i.place ≡ Err g =
    subst (λ (entries : List PoolEntry). check_entries pool entries i.place ≡ failed {A = Unit {0}} g) (sym h.parts) (checks_refused pool h.before h.entry h.behind i.place g h.right h.fails) in
    rw ((pool_reads n).again i pool j stand whole, checks) refl

pub pool_fails : (n : ℕ) → FailsAs (checked_pool_from n) (PoolFault n)
pool_fails n = record { found = pool_found n; refused = pool_refused n }
