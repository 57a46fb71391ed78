-- The binary search in a listing.
use Rattle.std.proofs.Common.{◌≡◌, ◌<◌, ◌≤◌, ℕ, List, length, slice_index_or, true, false, ltb, ltb-true, ltb-false, inl, inr, sym, ap, subst, arith, ◌≢◌}
use Rattle.std.specs.List.{AllWithin}
use Rattle.std.specs.List.Sorted.{IsNonDecreasingBy, IsPartitionPoint}
use Rattle.std.proofs.lemmas.Bool.{cases_eq, cases_lt}
use Rattle.opcodes.specs.declared.instruction.Instr.{Instr}
use Rattle.opcodes.specs.declared.listed.Listed.{Listed}
use Rattle.opcodes.specs.Listing.{IsByPc, StandsAt}

pub by_pc_rises : (xs : List Listed) → IsByPc xs → IsNonDecreasingBy (λ l. l.pc) xs
by_pc_rises xs by_pc = λ i j d le lt. elim (cases_eq i j) [
  | inl same ↦ (let P : ℕ → Type 0 = λ n. (slice_index_or xs i d).pc ≤ (slice_index_or xs n d).pc in subst P same (omega arith))
  | inr other ↦ (let before : i < j = omega arith in omega (arith, by_pc i j d before lt))
]

pub point_before : (xs : List Listed) (pc place : ℕ) → IsPartitionPoint (λ l. ltb l.pc pc ≡ true) (λ l. ltb l.pc pc ≡ false) xs place →
    AllWithin (λ l. l.pc < pc) xs 0 place
point_before xs pc place p = λ k d zero lt. ltb-true _ _ (p.0 k d zero lt)

pub point_behind : (xs : List Listed) (pc place : ℕ) → IsPartitionPoint (λ l. ltb l.pc pc ≡ true) (λ l. ltb l.pc pc ≡ false) xs place →
    AllWithin (λ l. pc ≤ l.pc) xs place (length xs)
point_behind xs pc place p = λ k d le lt. ltb-false _ _ (p.1 k d le lt)

-- where the first instruction at or behind a place is behind it, none is there
pub none_there : (xs : List Listed) (pc place : ℕ) (instr : Instr) → IsByPc xs → AllWithin (λ l. l.pc < pc) xs 0 place → AllWithin (λ l. pc ≤ l.pc) xs place (length xs) →
    ((d : Listed) → (slice_index_or xs place d).pc ≢ pc) → StandsAt xs pc instr → ⊥
none_there xs pc place instr by_pc before behind other c =
    let item : Listed = record { pc = pc; instr = instr } in
    let there : (slice_index_or xs c.0 item).pc ≡ pc = ap (λ l. l.pc) c.2 in
    elim (cases_lt c.0 place) [
      | inl lt ↦ omega (arith, before c.0 item (omega arith) lt, there)
      | inr le ↦ elim (cases_eq place c.0) [
        | inl same ↦ (let P : ℕ → Type 0 = λ n. (slice_index_or xs n item).pc ≡ pc in other item (subst P (sym same) there))
        | inr apart ↦ (let lt : place < c.0 = omega arith in
            let within : place < length xs = omega (arith, c.1) in
            omega (arith, behind place item (omega arith) within, by_pc place c.0 item lt c.1, there))
      ]
    ]
