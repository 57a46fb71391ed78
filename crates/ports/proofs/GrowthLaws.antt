-- How pieces that are put one after another add up.
use Rattle.std.proofs.Common.{◌++◌, ◌+◌, ◌-◌, ◌≡◌, ◌≤◌, ◌∙◌, ap, sym, refl, ℕ, List, [], length, None, Option, Some, Result, Ok, Err, take, drop, arith, append_assoc, length-append}
use Rattle.std.proofs.lemmas.List.{append-nil, drop-take, take-append-drop, take-take}
use Rattle.std.proofs.Math.Seq.{take-append-add}
use Rattle.std.proofs.lemmas.Grind.{common_steps}
use Rattle.ports.specs.Faults.{Rose, HasCause}
use Rattle.ports.specs.Growth.{Grows, GrowsByPrefix}

-- nothing was put
pub grows-nothing : (held : Option (List ℕ)) → Grows held held []
grows-nothing None = refl
grows-nothing (Some xs) = sym (append-nil xs)

-- two pieces, one after the other
pub grows-then : (a b c : Option (List ℕ)) (xs ys : List ℕ) → Grows a b xs → Grows b c ys → Grows a c (xs ++ ys)
grows-then None None c xs ys first second = second
grows-then None (Some b) c xs ys first second = cc
grows-then (Some a) None None xs ys first second = tt
grows-then (Some a) None (Some c) xs ys first second = cc
grows-then (Some a) (Some b) None xs ys first second = tt
grows-then (Some a) (Some b) (Some c) xs ys first second =
    second ∙ ap (λ (front : List ℕ). front ++ ys) first ∙ append_assoc a xs ys

-- a prefix of the first part is a prefix of the whole
pub take-of_more : (n : ℕ) (xs ys : List ℕ) → n ≤ length xs → take n (xs ++ ys) ≡ take n xs
take-of_more n xs ys within = grind (arith, common_steps)

-- the first n and the next m
pub take-both : (n m : ℕ) (xs : List ℕ) → take (n + m) xs ≡ take n xs ++ take m (drop n xs)
take-both n m xs =
    let shorter : take n (take (n + m) xs) ≡ take n xs = take-take n (n + m) xs (omega arith) in
    sym (take-append-drop n (take (n + m) xs))
    ∙ ap (λ (front : List ℕ). front ++ drop n (take (n + m) xs)) shorter
    ∙ ap (λ (back : List ℕ). take n xs ++ back) (drop-take n m xs)

-- what is left from a place on, as a slice of it is read
pub take-left : (place n : ℕ) (xs : List ℕ) → take n (take (length xs - place) (drop place xs)) ≡ take n (drop place xs)
take-left place n xs = grind (arith, common_steps)

-- a text was put whole, and then a prefix of another
pub prefix-then : (a b c : Option (List ℕ)) (xs ys : List ℕ) → Grows a b xs → GrowsByPrefix b c ys → GrowsByPrefix a c (xs ++ ys)
prefix-then a b c xs ys first second = record {
  count = length xs + second.count;
  within = omega (arith, length-append xs ys, second.within);
  grows = rw (take-append-add xs ys second.count) (grows-then a b c xs (take second.count ys) first second.grows);
}

-- a prefix of a text was put, and no more of what follows it
pub prefix-of_more : (a c : Option (List ℕ)) (xs ys : List ℕ) → GrowsByPrefix a c xs → GrowsByPrefix a c (xs ++ ys)
prefix-of_more a c xs ys part = record {
  count = part.count;
  within = omega (arith, length-append xs ys, part.within);
  grows = rw (take-of_more part.count xs ys part.within) part.grows;
}

-- what rose in a later part of a call rose in the call
pub rose-then : (a b c : ℕ) → a ≤ b → b ≤ c → Rose b c → Rose a c
rose-then a b c kept more risen = grind arith

-- a later call has its cause over both
pub cause-then : {A E : Type 0} (a b c : ℕ) (result : Result A E) → a ≤ b → HasCause b c result → HasCause a c result
cause-then a b c (Ok x) kept later = record { kept = omega arith; cause = later.cause }
cause-then a b c (Err x) kept later = record {
  kept = omega arith;
  cause = rose-then a b c kept later.kept later.cause;
}

-- what is told grew
pub grows-told : (old new : Option (List ℕ)) (xs piece : List ℕ) → old ≡ Some xs → new ≡ Some (xs ++ piece) → Grows old new piece
grows-told None new xs piece before after = absurd (cc)
grows-told (Some held) None xs piece before after = tt
grows-told (Some held) (Some later) xs piece before after = cc
