-- The first object that is made in a loop.
use Rattle.std.proofs.Common.{◌≡◌, ◌<◌, ◌+◌, ◌⊎◌, inl, inr, ℕ, List, get_or, length, refl, sym, ap, subst, ◌∙◌, arith}
use Rattle.std.specs.List.{AllWithin}
use Rattle.std.proofs.lemmas.Bool.{cases_eq, cases_lt}
use Rattle.std.proofs.lemmas.List.{get_or_default}
use Rattle.opcodes.specs.Listing.{IsByPc}
use Rattle.opcodes.specs.declared.listed.Listed.{Listed}
use Rattle.reached_methods.specs.CodeFaults.{rank}
use Rattle.reached_methods.specs.FirstFault.{IsFirstOf}
use Rattle.reached_methods.specs.Surveys.{HasLoopFault, IsLooped}
use Rattle.reached_methods.specs.declared.refusal.CodeKind.{CodeKind}
use Rattle.reached_methods.specs.declared.refusal.CodeKind.TheVariants.{ThreadInLoop}
use Rattle.reached_methods.specs.declared.refusal.Detail.{Detail}
use Rattle.reached_methods.specs.declared.refusal.Detail.TheVariants.{Nothing}

-- none so far, and none at the next
pub none_looped_more : (xs : List Listed) (i : ℕ) (x : Listed) → i < length xs → x ≡ get_or xs i x → AllWithin (λ item. IsLooped xs item → ⊥) xs 0 i →
    (IsLooped xs x → ⊥) → AllWithin (λ item. IsLooped xs item → ⊥) xs 0 (i + 1)
none_looped_more xs i x lt e none here = λ k d zero within. elim (cases_eq k i) [
  | inl same ↦ (let P : ℕ → Type 0 = λ n. IsLooped xs (get_or xs n d) → ⊥ in
      subst P (sym same) (λ looped. here (subst (IsLooped xs) (get_or_default xs i d x lt ∙ sym e) looped)))
  | inr other ↦ none k d zero (omega arith)
]

-- an earlier object in a loop
none_earlier : (xs : List Listed) (i : ℕ) (x : Listed) (pc : ℕ) (kind : CodeKind) (detail : Detail) → IsByPc xs → i < length xs → x ≡ get_or xs i x →
    AllWithin (λ item. IsLooped xs item → ⊥) xs 0 i → HasLoopFault xs pc kind detail → (pc < x.pc) ⊎ ((pc ≡ x.pc) × (rank kind < 16)) → ⊥
none_earlier xs i x pc kind detail by_pc lt e none f (inr h) = omega (arith, h.1, ap rank f.kind_is)
none_earlier xs i x pc kind detail by_pc lt e none f (inl h) =
    let item : Listed = record { pc = pc; instr = f.instr } in
    elim (cases_lt f.there.0 i) [
      | inl before ↦ none f.there.0 item (omega arith) before (subst (IsLooped xs) (sym f.there.2) f.looped)
      | inr le ↦ elim (cases_eq i f.there.0) [
        | inl same ↦ (let P : ℕ → Type 0 = λ n. (get_or xs n item).pc ≡ pc in
            let here = subst P (sym same) (ap (λ (l : Listed). l.pc) f.there.2) in
            omega (arith, h, here, ap (λ (l : Listed). l.pc) (e ∙ get_or_default xs i x item lt)))
        | inr other ↦ (let after : i < f.there.0 = omega arith in
            omega (arith, h, by_pc i f.there.0 item after f.there.1, ap (λ (l : Listed). l.pc) f.there.2, ap (λ (l : Listed). l.pc) (e ∙ get_or_default xs i x item lt)))
      ]
    ]

-- the first object in a loop
pub first_looped : (xs : List Listed) (i : ℕ) (x : Listed) → IsByPc xs → i < length xs → x ≡ get_or xs i x → AllWithin (λ item. IsLooped xs item → ⊥) xs 0 i →
    IsLooped xs x → IsFirstOf (HasLoopFault xs) (record { pc = x.pc; kind = ThreadInLoop; detail = Nothing })
first_looped xs i x by_pc lt e none looped = record {
  holds = record { instr = x.instr; there = (i, lt, sym e); looped = looped; kind_is = refl; detail_is = refl };
  first = λ pc kind detail f earlier. none_earlier xs i x pc kind detail by_pc lt e none f earlier;
}
