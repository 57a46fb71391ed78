-- Places of a listing.
use Rattle.std.proofs.Common.{◌≡◌, ◌≢◌, ◌<◌, ◌≤◌, ℕ, ℤ, pos, Some, None, Option, List, length, get_or, slice_get, refl, sym, ap, subst, ◌∙◌, arith, inl, inr}
use Rattle.std.specs.List.{AllWithin}
use Rattle.std.specs.Option.{option_and_then}
use Rattle.std.proofs.lemmas.Bool.{cases_lt}
use Rattle.std.specs.Prelude.{◌↔◌}
use Rattle.std.proofs.lemmas.Option.{none-some, same_Some, slice_get_within, get_or_from_slice_get}
use Rattle.opcodes.specs.Listing.{IsByPc}
use Rattle.opcodes.specs.declared.listed.Listed.{Listed}
use Rattle.std.specs.Prelude.{negsuc, ◌+ℤ◌, ◌+◌}
use Rattle.opcodes.specs.Instructions.{FallsThrough, jump_of, length_of, Successor, jumps}
use Rattle.typing.specs.Levels.{IsPlaceOf, FallsTo, JumpsTo, natural_of}

-- an instruction of this place of the code stands where the search ended
pub place_found : (xs : List Listed) (pc place to : ℕ) → IsByPc xs → AllWithin (λ l. l.pc < pc) xs 0 place → AllWithin (λ l. pc ≤ l.pc) xs place (length xs) →
    IsPlaceOf xs pc to → to ≡ place
place_found xs pc place to by_pc before behind at =
    let l = at.0 in
    let within : to < length xs = slice_get_within xs to l at.1 in
    let is_here : get_or xs to l ≡ l = get_or_from_slice_get xs to l l at.1 in
    let pc_is : (get_or xs to l).pc ≡ pc = ap (λ (x : Listed). x.pc) is_here ∙ at.2 in
    elim (cases_lt to place) [
      | inl lt ↦ absurd (let low : (get_or xs to l).pc < pc = before to l (omega arith) lt in omega arith)
      | inr le ↦ elim (cases_lt place to) [
        | inl lt ↦ absurd (let low : pc ≤ (get_or xs place l).pc = behind place l (omega arith) (omega arith) in
            let rises : (get_or xs place l).pc < (get_or xs to l).pc = by_pc place to l lt within in omega arith)
        | inr other ↦ omega arith
      ]
    ]

module _ (xs : List Listed) (pc place : ℕ) (by_pc : IsByPc xs) (before : AllWithin (λ l. l.pc < pc) xs 0 place) (behind : AllWithin (λ l. pc ≤ l.pc) xs place (length xs)) where
  -- the answer of the search
  pub found_is : (l : Listed) → slice_get xs place ≡ Some l → l.pc ≡ pc → (to : ℕ) → (Some place ≡ Some to) ↔ IsPlaceOf xs pc to
  found_is l is same to = (
    (λ e. let P : ℕ → Type 0 = λ n. IsPlaceOf xs pc n in subst P (same_Some place to e) (l, is, same)),
    (λ at. ap Some (sym (place_found xs pc place to by_pc before behind at))),
  )

  pub past_is : slice_get xs place ≡ None → (r : Option ℕ) → r ≡ None → (to : ℕ) → (r ≡ Some to) ↔ IsPlaceOf xs pc to
  past_is none r is to = (
    (λ e. absurd (none-some to (sym is ∙ e))),
    (λ at. let P : ℕ → Type 0 = λ n. slice_get xs n ≡ Some at.0 in
        absurd (none-some at.0 (sym none ∙ subst P (place_found xs pc place to by_pc before behind at) at.1))),
  )

  pub other_is : (l : Listed) → slice_get xs place ≡ Some l → l.pc ≢ pc → (to : ℕ) → (None ≡ Some to) ↔ IsPlaceOf xs pc to
  other_is l is other to = (
    (λ e. absurd (none-some to e)),
    (λ at. let P : ℕ → Type 0 = λ n. slice_get xs n ≡ Some at.0 in
        let there = subst P (place_found xs pc place to by_pc before behind at) at.1 in
        absurd (other (ap (λ (x : Listed). x.pc) (same_Some l at.0 (sym is ∙ there)) ∙ at.2))),
  )

pub natural_is : (z : ℤ) (n : ℕ) → natural_of z ≡ Some n → pos n ≡ z
natural_is (pos m) n e = ap pos (sym (same_Some m n e))
natural_is (negsuc m) n e = absurd (none-some n e)

pub is_natural : (z : ℤ) (n : ℕ) → pos n ≡ z → natural_of z ≡ Some n
is_natural z n e = ap natural_of (sym e)

pub same_pos : (m n : ℕ) → pos m ≡ pos n → m ≡ n
same_pos m n e = cc

-- where the jump of an instruction goes
abbrev pub target_of : Listed → Option ℕ
target_of at = option_and_then (λ distance. natural_of (pos at.pc +ℤ distance)) (jump_of at.instr)

target_from : (at : Listed) (o : Option ℤ) (pc : ℕ) → jump_of at.instr ≡ o → option_and_then (λ distance. natural_of (pos at.pc +ℤ distance)) o ≡ Some pc →
    (distance : ℤ) × (jump_of at.instr ≡ Some distance) × (pos pc ≡ pos at.pc +ℤ distance)
target_from at None pc is e = absurd (none-some pc e)
target_from at (Some d) pc is e = (d, is, natural_is _ pc e)

target_is : (xs : List Listed) (at : Listed) (to : ℕ) → (j : JumpsTo xs at to) → target_of at ≡ Some j.1
target_is xs at to j = ap (option_and_then (λ distance. natural_of (pos at.pc +ℤ distance))) j.2 ∙ is_natural _ j.1 j.3

pub no_jump : (xs : List Listed) (at : Listed) → None ≡ target_of at → (to : ℕ) → (None ≡ Some to) ↔ JumpsTo xs at to
no_jump xs at none to = ((λ e. absurd (none-some to e)), (λ j. absurd (none-some j.1 (none ∙ target_is xs at to j))))

pub does_jump : (xs : List Listed) (at : Listed) (pc : ℕ) (r : Option ℕ) → Some pc ≡ target_of at →
    ((to : ℕ) → (r ≡ Some to) ↔ IsPlaceOf xs pc to) → (to : ℕ) → (r ≡ Some to) ↔ JumpsTo xs at to
does_jump xs at pc r is found to = (
  (λ e. let t = target_from at (jump_of at.instr) pc refl (sym is) in (t.0, pc, t.1, t.2, (found to).0 e)),
  (λ j. let Q : ℕ → Type 0 = λ n. IsPlaceOf xs n to in
      (found to).1 (subst Q (same_Some j.1 pc (sym (is ∙ target_is xs at to j))) j.4)),
)

pub does_fall : (xs : List Listed) (at : Listed) (pc : ℕ) (r : Option ℕ) → FallsThrough at.instr → pc ≡ at.pc + length_of at.instr →
    ((to : ℕ) → (r ≡ Some to) ↔ IsPlaceOf xs pc to) → (to : ℕ) → (r ≡ Some to) ↔ FallsTo xs at to
does_fall xs at pc r falls same found to =
    let Q : ℕ → Type 0 = λ n. IsPlaceOf xs n to in
    ((λ e. (falls, subst Q same ((found to).0 e))), (λ f. (found to).1 (subst Q (sym same) f.1)))

pub jumps_there : (at : Listed) (pc : ℕ) → Some pc ≡ target_of at → Successor at.pc at.instr (pos pc)
jumps_there at pc is = let t = target_from at (jump_of at.instr) pc refl (sym is) in jumps t.0 t.1 t.2
