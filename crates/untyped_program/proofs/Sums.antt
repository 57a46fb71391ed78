-- Sums that are raised by calls.
use Rattle.std.proofs.Common.{◌≡◌, ◌<◌, ◌≤◌, ◌+◌, ◌-◌, ◌*◌, ℕ, Bool, true, false, cond, List, [], ◌∷◌, All, length, get_or, set, take, refl, sym, ap, ◌∙◌, subst, arith}
use Rattle.std.specs.Bool.{OnFalse, OnTrue}
use Rattle.std.proofs.lemmas.Bool.{ltb-true, ltb-false, false≢true}
use Rattle.std.proofs.lemmas.List.{length-set}
use Rattle.std.proofs.lemmas.List.Elements.{All-set, All-head, All-tail, All-more}
use Rattle.std.proofs.lemmas.List.Sums.{sum_by-set, sum_by-cons}
use Rattle.untyped_program.specs.Edges.{AreSteady, cut, through, is_less, raised, total}
use Rattle.untyped_program.specs.declared.edges.Edge.{Edge}

cut_small : (n : ℕ) → cut n ≤ 17
cut_small n = omega arith

module _ (slots : List ℕ) (edge : Edge) (sums : List ℕ) where
  -- the sums where the caller's was less
  pub less_raised : is_less slots edge sums ≡ true → raised slots edge sums ≡ set sums edge.caller (through slots edge sums)
  less_raised less = ap (λ (b : Bool). cond b (set sums edge.caller (through slots edge sums)) sums) less

  pub other_raised : is_less slots edge sums ≡ false → raised slots edge sums ≡ sums
  other_raised other = ap (λ (b : Bool). cond b (set sums edge.caller (through slots edge sums)) sums) other

  pub length-raised : length (raised slots edge sums) ≡ length sums
  length-raised = go (is_less slots edge sums) refl
    where
      go : (b : Bool) → is_less slots edge sums ≡ b → length (raised slots edge sums) ≡ length sums
      go true less = ap length (less_raised less) ∙ length-set sums edge.caller (through slots edge sums)
      go false other = ap length (other_raised other)

  pub small_raised : All (λ n. n ≤ 17) sums → All (λ n. n ≤ 17) (raised slots edge sums)
  small_raised small = go (is_less slots edge sums) refl
    where
      go : (b : Bool) → is_less slots edge sums ≡ b → All (λ n. n ≤ 17) (raised slots edge sums)
      go true less = subst (All (λ n. n ≤ 17)) (sym (less_raised less)) (All-set (λ n. n ≤ 17) sums edge.caller (through slots edge sums) (cut_small _) small)
      go false other = subst (All (λ n. n ≤ 17)) (sym (other_raised other)) small

  pub more_raised : edge.caller < length sums → is_less slots edge sums ≡ true → total sums < total (raised slots edge sums)
  more_raised within less =
      let balance = sum_by-set (λ n. n) sums edge.caller (through slots edge sums) 0 within in
      let low : get_or sums edge.caller 0 < through slots edge sums = ltb-true (get_or sums edge.caller 0) (through slots edge sums) less in
      let is = ap total (less_raised less) in
      omega (arith, balance, low, is)

  pub steady_at : is_less slots edge sums ≡ false → through slots edge sums ≤ get_or sums edge.caller 0
  steady_at other = ltb-false (get_or sums edge.caller 0) (through slots edge sums) other

-- one more call that raises no sum
pub steady_more : (slots : List ℕ) (edges : List Edge) (sums : List ℕ) (i : ℕ) (d : Edge) → i < length edges → AreSteady slots (take i edges) sums →
    through slots (get_or edges i d) sums ≤ get_or sums ((get_or edges i d).caller) 0 → AreSteady slots (take (i + 1) edges) sums
steady_more slots edges sums i d within so_far here = All-more (λ edge. through slots edge sums ≤ get_or sums edge.caller 0) edges i d within so_far here

-- a sum of numbers up to 17
pub total_small : (sums : List ℕ) → All (λ n. n ≤ 17) sums → total sums ≤ 17 * length sums
total_small [] small = omega arith
total_small (n ∷ sums) small =
    let first = All-head (λ n. n ≤ 17) n sums small in
    let rest = total_small sums (All-tail (λ n. n ≤ 17) n sums small) in
    let is : total (n ∷ sums) ≡ n + total sums = sum_by-cons (λ m. m) n sums in
    omega arith

-- a round that changes a sum leaves less to rise, and one that changes none is the last
pub falls : (n : ℕ) (old new : List ℕ) (A : Type 0) (b : Bool) → OnFalse b (A × (new ≡ old)) → OnTrue b (total old < total new) → total new ≤ n →
    (n - total new) + cond b 1 0 < (n - total old) + 1
falls n old new A true steady rises small = omega arith
falls n old new A false steady rises small = let e : total new ≡ total old = ap total steady.1 in omega (arith, e)

pub one_round : (b : Bool) → b ≡ true → ◌≡◌ {A = ℕ} (cond b 1 0) 1
one_round true is = refl
one_round false is = absurd (false≢true is)
