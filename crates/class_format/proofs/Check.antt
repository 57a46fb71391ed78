-- Checking the indices of one entry after the other, as a loop does.
use Rattle.std.proofs.Common.{◌≡◌, ℕ, ◌+◌, ◌≤◌, ◌<◌, List, [], ◌∷◌, ◌++◌, length, get_or, take, drop, Result, Ok, Err, refl, sym, ◌∙◌, add-one, length-append, length-drop, arith}
use Rattle.std.specs.List.{flat_map}
use Rattle.std.proofs.Math.Seq.{drop-cons}
use Rattle.std.proofs.lemmas.List.{take_more, append-nil, nil_from_length}
use Rattle.std.proofs.lemmas.List.Concat.{flat_map-cons}
use Rattle.std.proofs.lemmas.Grind.{flat_map-append}
use Rattle.class_format.specs.declared.record.PoolEntry.{PoolEntry}
use Rattle.class_format.specs.declared.refusal.FormatRefusal.{FormatRefusal}
use Rattle.class_format.specs.declared.refusal.FormatRefusal.TheVariants.{Refused, Memory}
use Rattle.class_format.specs.ClassText.{entry_text}
use Rattle.class_format.specs.Input.{Fault, ◌>>=◌, Fails}
use Rattle.class_format.specs.Reading.{check_entry, check_entries}

-- the bytes of the entries before a place, and of one more
pub text_more : (pool : List PoolEntry) (i : ℕ) (entry : PoolEntry) → i < length pool → entry ≡ get_or pool i entry
    → length (flat_map entry_text (take (i + 1) pool)) ≡ length (flat_map entry_text (take i pool)) + length (entry_text entry)
text_more pool i entry lt is =
    let one : flat_map entry_text (entry ∷ []) ≡ entry_text entry = flat_map-cons entry_text entry [] ∙ append-nil (entry_text entry) in
    let parts : flat_map entry_text (take (i + 1) pool) ≡ flat_map entry_text (take i pool) ++ entry_text entry =
    rw (take_more pool i entry lt, ← is, flat_map-append entry_text (take i pool) (entry ∷ []), one) refl in
    rw (parts, length-append (flat_map entry_text (take i pool)) (entry_text entry)) refl

opened : (pool entries : List PoolEntry) (i : ℕ) (entry : PoolEntry) (place : ℕ) → i < length entries → entry ≡ get_or entries i entry
    → check_entries pool (drop i entries) place ≡ (check_entry pool entry place >>= λ _. check_entries pool (drop (i + 1) entries) (place + length (entry_text entry)))
unfolding check_entries
opened pool entries i entry place lt is =
    rw (drop-cons entries i entry lt, ← is, add-one) refl

pub checks_on : (pool entries : List PoolEntry) (i : ℕ) (entry : PoolEntry) (place : ℕ) (total : Result (Unit {0}) Fault)
    → i < length entries → entry ≡ get_or entries i entry → check_entry pool entry place ≡ Ok tt
    → check_entries pool (drop i entries) place ≡ total
    → check_entries pool (drop (i + 1) entries) (place + length (entry_text entry)) ≡ total
checks_on pool entries i entry place total lt is holds so_far =
    let one : check_entries pool (drop i entries) place ≡ check_entries pool (drop (i + 1) entries) (place + length (entry_text entry)) =
    opened pool entries i entry place lt is ∙ rw holds refl in
    sym one ∙ so_far

pub check_fails : (e : FormatRefusal) (pool entries : List PoolEntry) (i : ℕ) (entry : PoolEntry) (place : ℕ) (total : Result (Unit {0}) Fault)
    → i < length entries → entry ≡ get_or entries i entry → Fails e (check_entry pool entry place)
    → check_entries pool (drop i entries) place ≡ total → Fails e total
check_fails Memory pool entries i entry place total lt is fails so_far = tt
check_fails (Refused kind at) pool entries i entry place total lt is fails so_far =
    let one : check_entries pool (drop i entries) place ≡ Err (record { kind = kind; place = at }) =
    opened pool entries i entry place lt is ∙ rw fails refl in
    sym so_far ∙ one

pub checked_all : (pool entries : List PoolEntry) (i : ℕ) (place : ℕ) (total : Result (Unit {0}) Fault)
    → length entries ≤ i → check_entries pool (drop i entries) place ≡ total → total ≡ Ok tt
unfolding check_entries
checked_all pool entries i place total le so_far =
    let nothing : drop i entries ≡ [] = nil_from_length (drop i entries) (omega (arith, length-drop i entries)) in
    let one : check_entries pool (drop i entries) place ≡ Ok tt = rw nothing refl in
    sym so_far ∙ one
