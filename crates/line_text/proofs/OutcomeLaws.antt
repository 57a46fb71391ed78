-- Outcomes with one more thread, or one more value.
use Rattle.std.proofs.Common.{◌++◌, ◌+◌, ◌-◌, ◌<◌, ◌≤◌, ◌≡◌, ◌⊎◌, inl, inr, ap, zero, suc, ℕ, ℤ, Bool, true, false, if◌then◌else◌, List, [], ◌∷◌, length, get_or, set, Some, arith}
use Rattle.std.proofs.lemmas.List.Elements.{All-nil, All-push}
use Rattle.std.proofs.lemmas.Option.{slice_get-get_or}
use Rattle.std.proofs.lemmas.List.Quantifiers.{all_pairs_push}
use Rattle.line_text.specs.declared.outcome.OutcomePart.{OutcomePart}
use Rattle.line_text.specs.Ints.{AreInts}
use Rattle.line_text.specs.Outcomes.{IsNextThread, IsOutcomeList, last_part, TakesValue, with_value}

-- the last part, where there is one
last-is : (parts : List OutcomePart) (d : OutcomePart) → 0 < length parts → last_part parts ≡ Some (get_or parts (length parts - 1) d)
last-is parts d some = slice_get-get_or parts (length parts - 1) d (omega arith)

-- every part stands below a thread that stands above the last one
all-below : (parts : List OutcomePart) (thread : ℕ) → IsOutcomeList parts → IsNextThread parts thread
    → (k : ℕ) (d : OutcomePart) → k < length parts → (get_or parts k d).thread < thread
all-below parts thread kept above k d within =
    let last : (get_or parts (length parts - 1) d).thread < thread = rw (last-is parts d (omega arith)) at above in
    by_place (split-le k (length parts - 1) (omega arith)) last
  where
    split-le : (a b : ℕ) → a ≤ b → (a < b) ⊎ (a ≡ b)
    split-le a b h = grind arith

    by_place : (k < length parts - 1) ⊎ (k ≡ length parts - 1) → (get_or parts (length parts - 1) d).thread < thread
        → (get_or parts k d).thread < thread
    by_place (inl before) last = omega (arith, kept.increasing k (length parts - 1) d before (omega arith), last)
    by_place (inr same) last = rw same last

-- a thread with no value
pub named-kept : (parts : List OutcomePart) (thread : ℕ) → IsOutcomeList parts → IsNextThread parts thread
    → IsOutcomeList (parts ++ record { thread = thread; values = [] } ∷ [])
named-kept parts thread kept above = record {
  increasing = all_pairs_push (λ (earlier later : OutcomePart). earlier.thread < later.thread) parts (record { thread = thread; values = [] })
      kept.increasing (all-below parts thread kept above);
  short = All-push (λ (part : OutcomePart). length part.values ≤ 65535) parts (record { thread = thread; values = [] }) kept.short (omega arith);
  ints = All-push (λ (part : OutcomePart). AreInts part.values) parts (record { thread = thread; values = [] }) kept.ints (All-nil _);
}

-- the same, where a push may have failed
pub pushed-kept : (b : Bool) (parts : List OutcomePart) (thread : ℕ) (values : List ℤ) → values ≡ [] → IsOutcomeList parts
    → IsNextThread parts thread
    → IsOutcomeList (if b then parts ++ record { thread = thread; values = values } ∷ [] else parts)
pushed-kept true parts thread values none kept above = rw none (named-kept parts thread kept above)
pushed-kept false parts thread values none kept above = kept

-- the value goes to the last part
pub with_value-set : (parts : List OutcomePart) (part : OutcomePart) (value : ℤ) (last : ℕ) → last + 1 ≡ length parts
    → part ≡ get_or parts last part
    → set parts last (record part { values = part.values ++ value ∷ [] }) ≡ with_value parts value
with_value-set [] part value last some is = absurd (omega arith)
with_value-set (first ∷ []) part value zero some is =
    ap (λ (p : OutcomePart). record p { values = p.values ++ value ∷ [] } ∷ []) is
with_value-set (first ∷ []) part value (suc last) some is = absurd (omega arith)
with_value-set (first ∷ next ∷ parts) part value zero some is = absurd (omega arith)
with_value-set (first ∷ next ∷ parts) part value (suc last) some is =
    ap (λ (rest : List OutcomePart). first ∷ rest) (with_value-set (next ∷ parts) part value last (omega arith) is)

-- where a value may be added there is a part
pub takes-some : (parts : List OutcomePart) → TakesValue parts → 0 < length parts
takes-some [] takes = absurd takes
takes-some (part ∷ parts) takes = omega arith
