-- Outcomes with one more part or one more value, and their texts.
use Rattle.std.proofs.Common.{◌++◌, ◌+◌, ◌-◌, ◌<◌, ◌≤◌, ◌≡◌, ◌∙◌, ap, sym, refl, zero, suc, ℕ, ℤ, Bool, true, false, List, [], ◌∷◌, length, get_or, Some, arith, append_assoc, length-append, FitsSigned, w32}
use Rattle.std.specs.Fmt.{decimal, signed_decimal}
use Rattle.std.proofs.lemmas.Fmt.{decimal_digit}
use Rattle.std.proofs.lemmas.Int.{ints}
use Rattle.std.proofs.lemmas.List.{append-nil}
use Rattle.std.proofs.lemmas.List.Elements.{All-nil, All-push}
use Rattle.std.proofs.lemmas.Option.{slice_get-get_or}
use Rattle.line_text.specs.declared.outcome.OutcomePart.{OutcomePart}
use Rattle.line_text.specs.Outcomes.{IsNextThread, last_part, TakesValue, with_value}
use Rattle.line_text.specs.OutcomeText.{ArePartsFrom, outcome_text, part_text, values_text}
use Rattle.line_text.specs.OutcomeReading.{closed_parts, LastIs, magnitude_limit, NextIs, open_parts, open_values, sign_text, signed_of}

-- the text of further parts behind closed ones
pub closed-then : (parts : List OutcomePart) (q : OutcomePart) (qs : List OutcomePart)
    → outcome_text (parts ++ q ∷ qs) ≡ closed_parts parts ++ outcome_text (q ∷ qs)
closed-then [] q qs = refl
closed-then (p ∷ []) q qs = ap (λ (back : List ℕ). part_text p ++ back) refl ∙ sym (append_assoc (part_text p) (59 ∷ []) (outcome_text (q ∷ qs)))
closed-then (p ∷ next ∷ parts) q qs =
    ap (λ (back : List ℕ). part_text p ++ 59 ∷ back) (closed-then (next ∷ parts) q qs)
    ∙ sym (append_assoc (part_text p) (59 ∷ closed_parts (next ∷ parts)) (outcome_text (q ∷ qs)))

-- the text of closed parts ends with a semicolon
pub closed-is : (p : OutcomePart) (parts : List OutcomePart) → closed_parts (p ∷ parts) ≡ outcome_text (p ∷ parts) ++ 59 ∷ []
closed-is p [] = ap (λ (front : List ℕ). front ++ 59 ∷ []) (sym (append-nil (part_text p)))
closed-is p (next ∷ parts) =
    ap (λ (back : List ℕ). part_text p ++ 59 ∷ back) (closed-is next parts)
    ∙ sym (append_assoc (part_text p) (59 ∷ outcome_text (next ∷ parts)) (59 ∷ []))

-- a new thread is open behind closed parts
pub open-new : (parts : List OutcomePart) (q : OutcomePart)
    → open_parts (parts ++ q ∷ []) ≡ closed_parts parts ++ (decimal q.thread ++ 61 ∷ open_values q.values)
open-new [] q = refl
open-new (p ∷ []) q = sym (append_assoc (part_text p) (59 ∷ []) (decimal q.thread ++ 61 ∷ open_values q.values))
open-new (p ∷ next ∷ parts) q =
    ap (λ (back : List ℕ). part_text p ++ 59 ∷ back) (open-new (next ∷ parts) q)
    ∙ sym (append_assoc (part_text p) (59 ∷ closed_parts (next ∷ parts)) (decimal q.thread ++ 61 ∷ open_values q.values))

-- one more value behind open ones
values-more : (values : List ℤ) (v : ℤ) → values_text (values ++ v ∷ []) ≡ open_values values ++ signed_decimal v
values-more [] v = append-nil (signed_decimal v)
values-more (u ∷ []) v =
    ap (λ (back : List ℕ). signed_decimal u ++ 44 ∷ back) (append-nil (signed_decimal v))
    ∙ sym (append_assoc (signed_decimal u) (44 ∷ []) (signed_decimal v))
values-more (u ∷ next ∷ values) v =
    ap (λ (back : List ℕ). signed_decimal u ++ 44 ∷ back) (values-more (next ∷ values) v)
    ∙ sym (append_assoc (signed_decimal u) (44 ∷ open_values (next ∷ values)) (signed_decimal v))

open_values-more : (values : List ℤ) (v : ℤ) → open_values (values ++ v ∷ []) ≡ open_values values ++ (signed_decimal v ++ 44 ∷ [])
open_values-more [] v = refl
open_values-more (u ∷ values) v =
    ap (λ (back : List ℕ). signed_decimal u ++ 44 ∷ back) (open_values-more values v)
    ∙ sym (append_assoc (signed_decimal u) (44 ∷ open_values values) (signed_decimal v ++ 44 ∷ []))

-- the text with one more value
pub value-text : (parts : List OutcomePart) (least count : ℕ) (v : ℤ) → LastIs parts least count
    → outcome_text (with_value parts v) ≡ open_parts parts ++ signed_decimal v
value-text [] least count v last = absurd last
value-text (p ∷ []) least count v last =
    append-nil (decimal p.thread ++ 61 ∷ values_text (p.values ++ v ∷ []))
    ∙ ap (λ (back : List ℕ). decimal p.thread ++ 61 ∷ back) (values-more p.values v)
    ∙ sym (append_assoc (decimal p.thread) (61 ∷ open_values p.values) (signed_decimal v))
value-text (p ∷ q ∷ []) least count v last =
    ap (λ (back : List ℕ). part_text p ++ 59 ∷ back) (value-text (q ∷ []) least count v last)
    ∙ sym (append_assoc (part_text p) (59 ∷ open_parts (q ∷ [])) (signed_decimal v))
value-text (p ∷ q ∷ r ∷ parts) least count v last =
    ap (λ (back : List ℕ). part_text p ++ 59 ∷ back) (value-text (q ∷ r ∷ parts) least count v last)
    ∙ sym (append_assoc (part_text p) (59 ∷ open_parts (q ∷ r ∷ parts)) (signed_decimal v))

-- and with a comma behind it
pub value-open : (parts : List OutcomePart) (least count : ℕ) (v : ℤ) → LastIs parts least count
    → open_parts (with_value parts v) ≡ open_parts parts ++ (signed_decimal v ++ 44 ∷ [])
value-open [] least count v last = absurd last
value-open (p ∷ []) least count v last =
    ap (λ (back : List ℕ). decimal p.thread ++ 61 ∷ back) (open_values-more p.values v)
    ∙ sym (append_assoc (decimal p.thread) (61 ∷ open_values p.values) (signed_decimal v ++ 44 ∷ []))
value-open (p ∷ q ∷ []) least count v last =
    ap (λ (back : List ℕ). part_text p ++ 59 ∷ back) (value-open (q ∷ []) least count v last)
    ∙ sym (append_assoc (part_text p) (59 ∷ open_parts (q ∷ [])) (signed_decimal v ++ 44 ∷ []))
value-open (p ∷ q ∷ r ∷ parts) least count v last =
    ap (λ (back : List ℕ). part_text p ++ 59 ∷ back) (value-open (q ∷ r ∷ parts) least count v last)
    ∙ sym (append_assoc (part_text p) (59 ∷ open_parts (q ∷ r ∷ parts)) (signed_decimal v ++ 44 ∷ []))

-- a last thread without values reads the same open or not
pub empty-text : (parts : List OutcomePart) (least : ℕ) → LastIs parts least 0 → outcome_text parts ≡ open_parts parts
empty-text [] least last = absurd last
empty-text (p ∷ []) least last = append-nil (part_text p) ∙ none p.values last.1
  where
    none : (values : List ℤ) → length values ≡ 0 → decimal p.thread ++ 61 ∷ values_text values ≡ decimal p.thread ++ 61 ∷ open_values values
    none [] h = refl
    none (v ∷ values) h = absurd (omega arith)
empty-text (p ∷ q ∷ parts) least last = ap (λ (back : List ℕ). part_text p ++ 59 ∷ back) (empty-text (q ∷ parts) least last)

-- a last part is some part
pub last-some : (parts : List OutcomePart) (least count : ℕ) → LastIs parts least count → 0 < length parts
last-some [] least count last = absurd last
last-some (p ∷ parts) least count last = omega arith

pub next-from : (parts : List OutcomePart) (least count : ℕ) → LastIs parts least count → NextIs parts least
next-from [] least count last = absurd last
next-from (p ∷ parts) least count last = (count, last)

-- where a semicolon follows an empty thread
pub empty-closed : (parts : List OutcomePart) (least : ℕ) → LastIs parts least 0 → closed_parts parts ≡ open_parts parts ++ 59 ∷ []
empty-closed [] least last = absurd last
empty-closed (p ∷ parts) least last =
    closed-is p parts ∙ ap (λ (front : List ℕ). front ++ 59 ∷ []) (empty-text (p ∷ parts) least last)

-- what with_value leaves
pub value-last : (parts : List OutcomePart) (least count : ℕ) (v : ℤ) → LastIs parts least count → LastIs (with_value parts v) least (count + 1)
value-last [] least count v last = absurd last
value-last (p ∷ []) least count v last = (last.0, omega (arith, length-append p.values (v ∷ []), last.1))
value-last (p ∷ q ∷ []) least count v last = value-last (q ∷ []) least count v last
value-last (p ∷ q ∷ r ∷ parts) least count v last = value-last (q ∷ r ∷ parts) least count v last

pub value-fits : (parts : List OutcomePart) (l least count : ℕ) (v : ℤ) → ArePartsFrom l parts → LastIs parts least count → count < 65535
    → FitsSigned w32 v → ArePartsFrom l (with_value parts v)
value-fits [] l least count v fit last few int = absurd last
value-fits (p ∷ []) l least count v fit last few int =
    (fit.0, fit.1, omega (arith, length-append p.values (v ∷ []), last.1), All-push (FitsSigned w32) p.values v fit.3 int, tt)
value-fits (p ∷ q ∷ []) l least count v fit last few int =
    (fit.0, fit.1, fit.2, fit.3, value-fits (q ∷ []) (p.thread + 1) least count v fit.4 last few int)
value-fits (p ∷ q ∷ r ∷ parts) l least count v fit last few int =
    (fit.0, fit.1, fit.2, fit.3, value-fits (q ∷ r ∷ parts) (p.thread + 1) least count v fit.4 last few int)

-- a new thread
abbrev pub new_part : ℕ → OutcomePart
new_part thread = record { thread = thread; values = [] }

new-behind : (parts : List OutcomePart) (l least count thread : ℕ) → ArePartsFrom l parts → LastIs parts least count → least ≤ thread
    → thread ≤ 7 → ArePartsFrom l (parts ++ new_part thread ∷ [])
new-behind [] l least count thread fit last low high = absurd last
new-behind (p ∷ []) l least count thread fit last low high =
    (fit.0, fit.1, fit.2, fit.3, (omega (arith, last.0), high, omega arith, All-nil (FitsSigned w32), tt))
new-behind (p ∷ q ∷ parts) l least count thread fit last low high =
    (fit.0, fit.1, fit.2, fit.3, new-behind (q ∷ parts) (p.thread + 1) least count thread fit.4 last low high)

-- a new thread fits behind the parts
pub new-fits : (parts : List OutcomePart) (least thread : ℕ) → ArePartsFrom 0 parts → NextIs parts least → least ≤ thread → thread ≤ 7
    → ArePartsFrom 0 (parts ++ new_part thread ∷ [])
new-fits [] least thread fit next low high = (omega arith, high, omega arith, All-nil (FitsSigned w32), tt)
new-fits (p ∷ parts) least thread fit next low high = new-behind (p ∷ parts) 0 least next.0 thread fit next.1 low high

-- and is then the last
pub new-last : (parts : List OutcomePart) (thread : ℕ) → LastIs (parts ++ new_part thread ∷ []) (thread + 1) 0
new-last [] thread = (refl, refl)
new-last (p ∷ []) thread = (refl, refl)
new-last (p ∷ q ∷ parts) thread = new-last (q ∷ parts) thread

-- parts behind the last one begin above it
later-behind : (parts qs : List OutcomePart) (l least count : ℕ) → ArePartsFrom l (parts ++ qs) → LastIs parts least count → ArePartsFrom least qs
later-behind [] qs l least count fit last = absurd last
later-behind (p ∷ []) qs l least count fit last = rw (← last.0) fit.4
later-behind (p ∷ q ∷ parts) qs l least count fit last = later-behind (q ∷ parts) qs (p.thread + 1) least count fit.4 last

pub later-fits : (parts qs : List OutcomePart) (least : ℕ) → ArePartsFrom 0 (parts ++ qs) → NextIs parts least → ArePartsFrom least qs
later-fits [] qs least fit next = rw next fit
later-fits (p ∷ parts) qs least fit next = later-behind (p ∷ parts) qs 0 least next.0 fit next.1

-- the last part by its place
last-thread : (p : OutcomePart) (parts : List OutcomePart) (least count : ℕ) (d : OutcomePart) → LastIs (p ∷ parts) least count
    → ((get_or (p ∷ parts) (length parts) d).thread + 1 ≡ least) × (length (get_or (p ∷ parts) (length parts) d).values ≡ count)
last-thread p [] least count d last = last
last-thread p (q ∷ parts) least count d last = last-thread q parts least count d last

last-part : (p : OutcomePart) (parts : List OutcomePart) → last_part (p ∷ parts) ≡ Some (get_or (p ∷ parts) (length parts) p)
last-part p parts =
    let place : length (p ∷ parts) - 1 ≡ length parts = omega arith in
    rw place (slice_get-get_or (p ∷ parts) (length parts) p (omega arith))

-- a thread that may come next is above the last one
pub next-above : (parts : List OutcomePart) (least thread : ℕ) → NextIs parts least → least ≤ thread → IsNextThread parts thread
next-above [] least thread next low = tt
next-above (p ∷ parts) least thread next low =
    rw (last-part p parts) (omega (arith, (last-thread p parts least next.0 p next.1).0))

-- a last part with few values takes one more
pub last-takes : (parts : List OutcomePart) (least count : ℕ) → LastIs parts least count → count < 65535 → TakesValue parts
last-takes [] least count last few = absurd last
last-takes (p ∷ parts) least count last few =
    rw (last-part p parts) (omega (arith, (last-thread p parts least count p last).1))

-- the text of an int is its sign and its magnitude
pub signed-text : (negative : Bool) (m : ℕ) → (negative ≡ true → 0 < m) → signed_decimal (signed_of negative m) ≡ sign_text negative ++ decimal m
signed-text false m some = refl
signed-text true zero some = absurd (omega (arith, some refl))
signed-text true (suc m) some = refl

pub signed-fits : (negative : Bool) (m : ℕ) → m ≤ magnitude_limit negative → FitsSigned w32 (signed_of negative m)
signed-fits false m low = omega (arith, ints)
signed-fits true zero low = omega (arith, ints)
signed-fits true (suc m) low = omega (arith, ints)

pub digit-text : (d : ℕ) → d ≤ 9 → decimal d ≡ (48 + d) ∷ []
digit-text d low = decimal_digit d (omega arith)
