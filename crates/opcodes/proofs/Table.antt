-- The table of opcodes has the number of each instruction.
use Rattle.std.proofs.Common.{◌≡◌, ◌≢◌, ℕ, List, [], ◌∷◌, Some, None, Bool, true, false, cond, refl, arith, sym, eqb-true, ◌∙◌, ap, subst, is_some}
use Rattle.std.specs.Prelude.{find, ◌==◌}
use Rattle.std.specs.List.{list_all}
use Rattle.opcodes.specs.declared.instruction.Instr.{Instr}
use Rattle.opcodes.specs.declared.instruction.Instr.TheVariants.{Nop}
use Rattle.opcodes.specs.declared.opcode.Opcode.{Opcode}
use Rattle.opcodes.specs.declared.opcode.TheConstants.{OPCODES}
use Rattle.opcodes.specs.Instructions.{number_of}

-- an element that a search finds passes the search's test, and each test that all elements pass
find-passes : {X : Type 0} (p q : X → Bool) (xs : List X) (x : X) → list_all q xs ≡ true → find p xs ≡ Some x → (p x ≡ true) × (q x ≡ true)
find-passes p q [] x all found = cc
find-passes p q (y ∷ ys) x all found =
    elim (p y) as (λ b. p y ≡ b → cond b (Some y) (find p ys) ≡ Some x → (p x ≡ true) × (q x ≡ true)) [
      | true ↦ (λ here found_here. let e : y ≡ x = cc in let q_here : q y ≡ true = grind arith in (cc, cc))
      | false ↦ (λ _ found_later. let later : list_all q ys ≡ true = grind arith in find-passes p q ys x later found_later)
    ] refl found

-- each row has its instruction's number
rows_agree : list_all (λ row. number_of row.1 == row.0) OPCODES ≡ true
rows_agree = refl

-- each instruction has a row
has_row : (i : Instr) → is_some (find (λ row. row.0 == number_of i) OPCODES) ≡ true
has_row Nop = refl
has_row _ = refl

pub found_number : (number : ℕ) (row : Opcode) → find (λ row. row.0 == number) OPCODES ≡ Some row → number_of row.1 ≡ number
found_number number row found =
    let passed = find-passes (λ r. r.0 == number) (λ r. number_of r.1 == r.0) OPCODES row rows_agree found in
    eqb-true _ _ passed.1 ∙ eqb-true _ _ passed.0

pub found_none : (number : ℕ) → find (λ row. row.0 == number) OPCODES ≡ None → (i : Instr) → number_of i ≢ number
found_none number none i same =
    let P : ℕ → Type 0 = λ n. is_some (find (λ r. r.0 == n) OPCODES) ≡ true in
    let found = subst P same (has_row i) in
    let lost : is_some (find (λ r. r.0 == number) OPCODES) ≡ false = ap is_some none in
    let never : true ≡ false = sym found ∙ lost in cc
