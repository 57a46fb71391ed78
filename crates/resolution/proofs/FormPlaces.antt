-- The listed instruction at a place of the code.
use Rattle.std.proofs.Common.{◌≡◌, ◌<◌, ◌≤◌, length, ℕ, Bool, true, false, List, [], ◌∷◌, Some, None, nat_eq, get_or, cond, inl, inr, refl, sym, ap, subst, ◌∙◌, arith}
use Rattle.std.proofs.lemmas.Bool.{cases_lt, eqb-true, eq-eqb}
use Rattle.std.proofs.lemmas.List.{get_or_default}
use Rattle.std.specs.List.{AllWithin}
use Rattle.opcodes.specs.Listing.{IsByPc, StandsAt}
use Rattle.opcodes.specs.declared.instruction.Instr.{Instr}
use Rattle.opcodes.specs.declared.listed.Listed.{Listed}
use Rattle.program.proofs.Lists.{contains_here, contains_later, contains_cases, contains_nil}
use Rattle.resolution.specs.Targets.{instr_at}

-- two instructions at one place are one
same_instruction : (xs : List Listed) (pc : ℕ) (i j : Instr) → IsByPc xs → StandsAt xs pc i → StandsAt xs pc j → i ≡ j
same_instruction xs pc i j by_pc (k, k_in, k_is) (l, l_in, l_is) = elim (cases_lt k l) [
  | inl before ↦ (let rises = by_pc k l a before l_in in
      let other : (get_or xs l a).pc ≡ pc = ap (λ (x : Listed). x.pc) (get_or_default xs l a b l_in ∙ l_is) in
      absurd (omega (arith, rises, ap (λ (x : Listed). x.pc) k_is, other)))
  | inr not_before ↦ elim (cases_lt l k) [
    | inl behind ↦ (let rises = by_pc l k a behind k_in in
        let other : (get_or xs l a).pc ≡ pc = ap (λ (x : Listed). x.pc) (get_or_default xs l a b l_in ∙ l_is) in
        absurd (omega (arith, rises, ap (λ (x : Listed). x.pc) k_is, other)))
    | inr not_behind ↦ (let same : k ≡ l = omega arith in
        ap (λ (x : Listed). x.instr) (sym k_is ∙ get_or_default xs k a b k_in ∙ ap (λ (n : ℕ). get_or xs n b) same ∙ l_is))
  ]
]
  where
    a : Listed
    a = record { pc = pc; instr = i }

    b : Listed
    b = record { pc = pc; instr = j }

-- some instruction stands at the place and is found, or none does
pub data Finds (xs : List Listed) (pc : ℕ) : Type 0 where
  found : (i : Instr) → instr_at xs pc ≡ Some i → StandsAt xs pc i → Finds xs pc
  none : instr_at xs pc ≡ None → ((i : Instr) → StandsAt xs pc i → ⊥) → Finds xs pc

pub finds : (xs : List Listed) (pc : ℕ) → Finds xs pc
finds [] pc = none refl (λ i s. contains_nil _ s)
finds (x ∷ xs) pc = go (nat_eq x.pc pc) refl (finds xs pc)
  where
    here : (b : Bool) → nat_eq x.pc pc ≡ b → instr_at (x ∷ xs) pc ≡ (cond b (Some x.instr) (instr_at xs pc))
    here true e = rw e refl
    here false e = rw e refl

    go : (b : Bool) → nat_eq x.pc pc ≡ b → Finds xs pc → Finds (x ∷ xs) pc
    go true e rest =
        let P : ℕ → Type 0 = λ n. StandsAt (x ∷ xs) n x.instr in
        found x.instr (here true e) (subst P (eqb-true x.pc pc e) (contains_here x xs))
    go false e (found i is there) = found i (here false e ∙ is) (contains_later x (record { pc = pc; instr = i }) xs there)
    go false e (none is never) = none (here false e ∙ is) (λ i s. elim (contains_cases x (record { pc = pc; instr = i }) xs s) [
      | inl same ↦ (let wrong : false ≡ true = sym e ∙ eq-eqb x.pc pc (ap (λ (l : Listed). l.pc) same) in cc)
      | inr later ↦ never i later
    ])

pub found_there : (xs : List Listed) (pc : ℕ) (i : Instr) → IsByPc xs → StandsAt xs pc i → Some i ≡ instr_at xs pc
found_there xs pc i by_pc there = go (finds xs pc)
  where
    go : Finds xs pc → Some i ≡ instr_at xs pc
    go (found j is other) = ap Some (same_instruction xs pc i j by_pc there other) ∙ sym is
    go (none is never) = absurd (never i there)

pub found_nowhere : (xs : List Listed) (pc : ℕ) → ((i : Instr) → StandsAt xs pc i → ⊥) → None ≡ instr_at xs pc
found_nowhere xs pc never = go (finds xs pc)
  where
    go : Finds xs pc → None ≡ instr_at xs pc
    go (found j is other) = absurd (never j other)
    go (none is rest) = sym is

-- past the end of the list nothing stands
pub nowhere_past : (xs : List Listed) (pc place : ℕ) (i : Instr) → AllWithin (λ l. l.pc < pc) xs 0 place → length xs ≤ place → StandsAt xs pc i → ⊥
nowhere_past xs pc place i before past (k, k_in, k_is) =
    let item : Listed = record { pc = pc; instr = i } in
    let low : (get_or xs k item).pc < pc = before k item (omega arith) (omega (arith, k_in, past)) in
    omega (arith, low, ap (λ (l : Listed). l.pc) k_is)

-- the instruction at a place of the list stands at its place of the code
pub stands_there : (xs : List Listed) (pc place : ℕ) (d : Listed) → place < length xs → (get_or xs place d).pc ≡ pc → StandsAt xs pc (get_or xs place d).instr
stands_there xs pc place d within same =
    let item : Listed = record { pc = pc; instr = (get_or xs place d).instr } in
    let is : get_or xs place d ≡ item = ap (λ (n : ℕ). record { pc = n; instr = (get_or xs place d).instr }) same in
    (place, within, get_or_default xs place item d within ∙ is)
