-- The method with an id, and what stands in it.
use Rattle.std.proofs.Common.{◌≡◌, ◌≢◌, ℕ, List, Some, slice_get, subst, sym, ap, ◌∙◌, get_or, inl, inr, arith, map, Contains}
use Rattle.std.specs.List.{AllPairs}
use Rattle.std.proofs.lemmas.Bool.{cases_lt}
use Rattle.std.proofs.lemmas.Option.{get_or_from_slice_get, slice_get_within}
use Rattle.opcodes.specs.Listing.{IsByPc}
use Rattle.opcodes.specs.declared.listed.Listed.{Listed}
use Rattle.program.specs.Accessors.{IsKnownIn, IsListedAt, IsReachedIn, Stands}
use Rattle.program.specs.Program.{IsMethod, Prog}
use Rattle.program.specs.declared.method.Method.{Method}
use Rattle.program.specs.declared.method.MethodId.{MethodId}
use Rattle.program.specs.declared.value_type.TypedState.{TypedState}
use Rattle.program.proofs.Lists.{contains_mapped, one_of}

-- where no two methods have one id, the one with this id is the only one
pub one_method : (p : Prog) (id : MethodId) (m n : Method) → AllPairs (λ a b. a.id ≢ b.id) p.methods → IsMethod p id m → IsMethod p id n → m ≡ n
one_method p id m n distinct is is' = one_of (λ (x : Method). x.id) p.methods m n distinct is.reached is'.reached (is.named ∙ sym is'.named)

-- a method with this id is one of the reached methods
pub is_reached : (p : Prog) (id : MethodId) (m : Method) → IsMethod p id m → Contains (map (λ x. x.id) p.methods) id
is_reached p id m is = subst (Contains (map (λ x. x.id) p.methods)) is.named (contains_mapped (λ (x : Method). x.id) p.methods m is.reached)

-- what is reached in the method with this id stands in its listing
pub stands_in : (p : Prog) (id : MethodId) (pc : ℕ) (m : Method) → ((n : Method) → IsMethod p id n → n ≡ m) → IsReachedIn p id pc → Stands m.listing pc
stands_in p id pc m only r = subst (λ (n : Method). Stands n.listing pc) (only r.method r.named) r.stands

-- where something is known there is an instruction
pub known_reached : (p : Prog) (id : MethodId) (pc : ℕ) → IsKnownIn p id pc → IsReachedIn p id pc
known_reached p id pc (state, k) = record { method = k.method; named = k.named; stands = (k.place, k.listed) }

-- what begins at one place of the code stands at one place of the listing
pub one_place : (xs : List Listed) (pc i j : ℕ) → IsByPc xs → IsListedAt xs pc i → IsListedAt xs pc j → i ≡ j
one_place xs pc i j by_pc (first, is) (second, is') = elim (cases_lt i j) [
  | inl lt ↦ absurd (omega (arith, by_pc i j a lt (slice_get_within xs j b is'), at i a is a, at j b is' a))
  | inr le ↦ elim (cases_lt j i) [
    | inl lt ↦ absurd (omega (arith, by_pc j i a lt (slice_get_within xs i a is), at i a is a, at j b is' a))
    | inr ge ↦ omega (arith, le, ge)
  ]
]
  where
    a : Listed
    a = record { pc = pc; instr = first }

    b : Listed
    b = record { pc = pc; instr = second }

    at : (k : ℕ) (item : Listed) → slice_get xs k ≡ Some item → (d : Listed) → (get_or xs k d).pc ≡ item.pc
    at k item h d = ap (λ (l : Listed). l.pc) (get_or_from_slice_get xs k item d h)

-- what is known of the method with this id is known at the place where the instruction stands
pub known_at : (p : Prog) (id : MethodId) (pc place : ℕ) (m : Method) → ((n : Method) → IsMethod p id n → n ≡ m) → IsByPc m.listing →
    IsListedAt m.listing pc place → IsKnownIn p id pc → (state : TypedState) × (slice_get m.typed place ≡ Some state)
known_at p id pc place m only by_pc listed (state, k) = (
  state,
  subst (λ (n : Method). slice_get n.typed place ≡ Some state) (only k.method k.named)
      (subst (λ (i : ℕ). slice_get k.method.typed i ≡ Some state) same k.known),
)
  where
    here : IsListedAt m.listing pc k.place
    here = subst (λ (n : Method). IsListedAt n.listing pc k.place) (only k.method k.named) k.listed

    same : k.place ≡ place
    same = one_place m.listing pc k.place place by_pc here listed
