-- Steps that leave the bounds.
use Rattle.std.proofs.Common.{◌≡◌, ◌≤◌, ◌++◌, ◌⊎◌, ℕ, ℤ, Bool, true, false, List, [], ◌∷◌, All, count_by, cond, ap, subst, ◌∙◌, arith, inl, inr}
use Rattle.std.proofs.lemmas.List.Elements.{Contains-append_right}
use Rattle.std.proofs.lemmas.List.Sums.{sum_by-append}
use Rattle.std.specs.List.{cons_option}
use Rattle.java_int.specs.JavaInt.{Fits}
use Rattle.line_text.specs.declared.bounds.Bounds.{Bounds}
use Rattle.program.proofs.Lists.{all_of, contains_here}
use Rattle.program.specs.Bounds.{InBounds}
use Rattle.program.specs.Program.{Prog}
use Rattle.program.specs.Run.{Move}
use Rattle.program.specs.Step.{Activation, Effect, Step}
use Rattle.thread_meaning.specs.Paths.{read_in}
use Rattle.thread_meaning.specs.Tracing.{Arrives, IsPastJumps, IsPastWidth}

-- a step leads out of the bounds from where the moves arrive
pub record Leaves (p : Prog) (k : ℕ) (ended : ℕ → Bool) (reads : List ℤ) (bounds : Bounds) : Type 0 where
  pub moves : List Move
  pub state : List Activation
  pub left : List ℤ
  pub effect : Effect
  pub next : List Activation
  pub arrives : Arrives p k ended reads bounds moves state (cons_option (read_in effect) left)
  pub step : Step p ended state effect next
  pub never : (m : Move) (others : List Move) → m.effect ≡ effect → InBounds (moves ++ m ∷ others) bounds.jumps bounds.width → ⊥

one_back : (b : Bool) → b ≡ true → 1 ≤ cond b 1 0
one_back true is = omega arith
one_back false is = absurd (cc)

too_many : (moves : List Move) (m : Move) (others : List Move) (jumps : ℕ) → m.effect.backward ≡ true → count_by (λ (x : Move). x.effect.backward) moves ≡ jumps →
    count_by (λ (x : Move). x.effect.backward) (moves ++ m ∷ others) ≤ jumps → ⊥
too_many moves m others jumps backward used few =
    let sum = sum_by-append (λ (x : Move). cond x.effect.backward 1 0) moves (m ∷ others) in
    let one : 1 ≤ cond m.effect.backward 1 0 = one_back m.effect.backward backward in
    let head = sum_by-append (λ (x : Move). cond x.effect.backward 1 0) (m ∷ []) others in
    let first : count_by (λ (x : Move). x.effect.backward) (m ∷ []) ≡ cond m.effect.backward 1 0 = omega arith in
    omega (arith, sum, one, head, first, used, few)

pub leaves : (p : Prog) (k : ℕ) (ended : ℕ → Bool) (reads : List ℤ) (bounds : Bounds) → IsPastJumps p k ended reads bounds ⊎ IsPastWidth p k ended reads bounds → Leaves p k ended reads bounds
leaves p k ended reads bounds (inl h) = record {
  moves = h.moves;
  state = h.state;
  left = h.left;
  effect = h.effect;
  next = h.next;
  arrives = h.arrives;
  step = h.step;
  never = λ m others same within. too_many h.moves m others bounds.jumps (ap (λ (e : Effect). e.backward) same ∙ h.backward) h.used within.few_jumps;
}
leaves p k ended reads bounds (inr h) = record {
  moves = h.moves;
  state = h.state;
  left = h.left;
  effect = h.effect;
  next = h.next;
  arrives = h.arrives;
  step = h.step;
  never = λ m others same within. h.wide (subst (λ (e : Effect). All (Fits bounds.width) e.ints) same
      (all_of (λ (x : Move). All (Fits bounds.width) x.effect.ints) (h.moves ++ m ∷ others) m within.narrow (Contains-append_right h.moves (m ∷ others) m (contains_here m others))));
}
