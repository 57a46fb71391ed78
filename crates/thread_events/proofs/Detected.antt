-- The threads whose end is detected, as bits.
use Rattle.std.proofs.Common.{◌≡◌, ◌<◌, ◌+◌, ◌*◌, ◌/◌, ◌%◌, ◌^◌, ◌||◌, ◌&&◌, ℕ, Bool, true, false, List, nat_eq, length, take, slice_index_or, arith, refl, sym, ◌∙◌, ap, ap₂, inl, inr, eq-eqb}
use Rattle.std.proofs.lemmas.Bool.{cases_eq}
use Rattle.std.proofs.lemmas.List.Folds.{list_any_more}
use Rattle.std.proofs.lemmas.Nat.Bits.{bit_at_set_other, bit_at_set_same}
use Rattle.std.specs.Int.{w8}
use Rattle.std.specs.Int.RustNames.{bit_or}
use Rattle.program.specs.declared.kind.Kind.{Kind}
use Rattle.program.specs.declared.kind.Kind.TheVariants.{Detect}
use Rattle.action_orders.specs.declared.action.ActionOperand.{ActionOperand}
use Rattle.action_orders.specs.declared.action.ActionOperand.TheVariants.{Thread}
use Rattle.action_orders.specs.declared.action.Entry.{Entry}
use Rattle.action_orders.specs.Runs.{detects, is_detect, is_detection, is_thread}
use Rattle.thread_meaning.specs.Tracing.{has_ended}

or_true : (b : Bool) → (b || true) ≡ true
or_true true = refl
or_true false = refl

or_false : (b : Bool) → (b || false) ≡ b
or_false true = refl
or_false false = refl

pub with_thread : (ended j k : ℕ) (n : Entry) → j < 8 → n.action.kind ≡ Detect → n.action.operand ≡ Thread j → has_ended (bit_or ended (1 * 2 ^ j % 2 ^ 8)) k ≡ (has_ended ended k || is_detection k n)
with_thread ended j k n few kind operand = elim (cases_eq k j) [
  | inl same ↦ (let test : is_detection k n ≡ true = ap₂ (λ (x : Kind) (o : ActionOperand). is_detect x && is_thread k o) kind operand ∙ eq-eqb j k (sym same) in
      ap (λ (i : ℕ). nat_eq (bit_or ended (1 * 2 ^ j % 2 ^ 8) / 2 ^ i % 2) 1) same ∙ eq-eqb _ 1 (bit_at_set_same w8 ended j few)
      ∙ sym (or_true (has_ended ended k)) ∙ ap (λ (b : Bool). has_ended ended k || b) (sym test))
  | inr apart ↦ (let test : is_detection k n ≡ false = ap₂ (λ (x : Kind) (o : ActionOperand). is_detect x && is_thread k o) kind operand ∙ unequal j k (λ e. apart (sym e)) in
      ap (λ (b : ℕ). nat_eq b 1) (bit_at_set_other w8 ended j few k apart) ∙ sym (or_false (has_ended ended k)) ∙ ap (λ (b : Bool). has_ended ended k || b) (sym test))
]
  where
    unequal : (i l : ℕ) → (i ≡ l → ⊥) → nat_eq i l ≡ false
    unequal i l never = grind arith

pub without_thread : (ended k : ℕ) (n : Entry) → is_detection k n ≡ false → has_ended ended k ≡ (has_ended ended k || is_detection k n)
without_thread ended k n test = sym (or_false (has_ended ended k)) ∙ ap (λ (b : Bool). has_ended ended k || b) (sym test)

pub ended_more : (part : List Entry) (i old new k : ℕ) (n : Entry) → i < length part → n ≡ slice_index_or part i n → has_ended old k ≡ detects (take i part) k → has_ended new k ≡ (has_ended old k || is_detection k n) →
    has_ended new k ≡ detects (take (i + 1) part) k
ended_more part i old new k n within is before more =
    more ∙ ap₂ ◌||◌ before (ap (is_detection k) is) ∙ sym (list_any_more (is_detection k) part i n within)
