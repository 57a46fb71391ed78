-- Reading items one after the other, as a loop does.
use Rattle.std.proofs.Common.{◌≡◌, ℕ, suc, ◌-◌, ◌+◌, ◌≤◌, ◌<◌, List, [], ◌∷◌, ◌++◌, Result, Ok, Err, refl, sym, ap, ◌∙◌, append_assoc, arith}
use Rattle.std.proofs.lemmas.List.{append-nil}
use Rattle.class_format.specs.declared.refusal.FormatRefusal.{FormatRefusal}
use Rattle.class_format.specs.declared.refusal.FormatRefusal.TheVariants.{Refused, Memory}
use Rattle.class_format.specs.Input.{Input, Fault, ◌>>=◌, Fails, items_from}

-- what was read before, and what is still read
abbrev pub with_front : {A : Type 0} → List A → Result (List A × Input) Fault → Result (List A × Input) Fault
with_front front read = read >>= λ x. Ok (front ++ x.0, x.1)

pub starts : {A : Type 0} (read : Result (List A × Input) Fault) → with_front [] read ≡ read
starts (Ok x) = refl
starts (Err f) = refl

regroup : {A : Type 0} (front : List A) (item : A) (read : Result (List A × Input) Fault) → with_front front (read >>= λ x. Ok (item ∷ x.0, x.1)) ≡ with_front (front ++ item ∷ []) read
regroup {A} front item (Ok x) = ap (λ (items : List A). Ok (items, x.1)) (simp append_assoc)
regroup front item (Err f) = refl

module _ {S A : Type 0} (one : S → ℕ → Input → Result (A × Input) Fault) (next : A → S → S) where
  pub goes_on : (s : S) (front : List A) (count i : ℕ) (input : Input) (item : A) (rest : Input) (total : Result (List A × Input) Fault)
      → i < count → one s (count - 1 - i) input ≡ Ok (item, rest)
      → with_front front (items_from one next s (count - i) input) ≡ total
      → with_front (front ++ item ∷ []) (items_from one next (next item s) (count - (i + 1)) rest) ≡ total
  unfolding items_from
  goes_on s front count i input item rest total lt h so_far =
      let k : count - i ≡ suc (count - (i + 1)) = omega arith in
      let m : count - 1 - i ≡ count - (i + 1) = omega arith in
      let h' = rw m at h in
      let one_more : with_front front (items_from one next s (count - i) input) ≡ with_front (front ++ item ∷ []) (items_from one next (next item s) (count - (i + 1)) rest) =
      rw (k, h') (regroup front item (items_from one next (next item s) (count - (i + 1)) rest)) in
      sym one_more ∙ so_far

  pub ends : (e : FormatRefusal) (s : S) (front : List A) (count i : ℕ) (input : Input) (total : Result (List A × Input) Fault)
      → i < count → Fails e (one s (count - 1 - i) input)
      → with_front front (items_from one next s (count - i) input) ≡ total → Fails e total
  unfolding items_from
  ends Memory s front count i input total lt h so_far = tt
  ends (Refused kind place) s front count i input total lt h so_far =
      let k : count - i ≡ suc (count - (i + 1)) = omega arith in
      let m : count - 1 - i ≡ count - (i + 1) = omega arith in
      let h' = rw m at h in
      let failed : with_front front (items_from one next s (count - i) input) ≡ Err (record { kind = kind; place = place }) = rw (k, h') refl in
      sym so_far ∙ failed

  pub is_done : (s : S) (front : List A) (count i : ℕ) (input : Input) (total : Result (List A × Input) Fault)
      → count ≤ i → with_front front (items_from one next s (count - i) input) ≡ total → total ≡ Ok (front, input)
  unfolding items_from
  is_done s front count i input total le so_far =
      let k : count - i ≡ 0 = omega arith in
      let all : with_front front (items_from one next s (count - i) input) ≡ Ok (front, input) = rw k (ap (λ (items : List A). Ok (items, input)) (append-nil front)) in
      sym so_far ∙ all
