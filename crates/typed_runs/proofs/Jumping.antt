-- A jump goes on to its target, or to what is behind it, with what it tests taken from the stack.
use Rattle.std.proofs.Common.{◌≡◌, ◌+ℤ◌, ◌⊎◌, inl, inr, ℕ, ℤ, pos, negsuc, Bool, true, false, List, ◌∷◌, Option, Some, length, slice_get, refl, sym, ap, subst}
use Rattle.std.proofs.lemmas.Option.{none-some, same_Some, option_and_then_some}
use Rattle.std.specs.Option.{option_and_then}
use Rattle.program.specs.Step.{JavaValue, Activation, jump_effect, silent}
use Rattle.program.specs.Step as java
use Rattle.program.specs.declared.method.MethodId.{MethodId}
use Rattle.program.specs.declared.value_type.ValueType.{ValueType}
use Rattle.thread_meaning.specs.Changes as acting
use Rattle.thread_meaning.specs.Changes.{branches, change_of, goes_on, jumps_to, natural_of}
use Rattle.thread_meaning.specs.Doings.{compares, condition}
use Rattle.thread_meaning.specs.declared.doing.Comparison.{Comparison}
use Rattle.thread_meaning.specs.declared.doing.Test.{Test}
use Rattle.thread_meaning.specs.declared.doing.Test.TheVariants as test
use Rattle.thread_meaning.specs.declared.doing.Doing.TheVariants as doing
use Rattle.typing.specs.Changes.{Change, Changes, behind, below_ints, pushes_result}
use Rattle.typing.specs.Deeds.{tested_ints}
use Rattle.typing.specs.States.{ThreadState}
use Rattle.typed_runs.specs.Counts.{held_after}
use Rattle.typed_runs.specs.Types.{AreTyped}
use Rattle.typed_runs.proofs.Matching.{IsConditional}
use Rattle.typed_runs.proofs.Values.{IntsAbove, LocalFits, ints_above}
use Rattle.typed_runs.proofs.Yielding.{Matches, act, state, with_result}

natural : (z : ℤ) (n : ℕ) → natural_of z ≡ Some n → pos n ≡ z
natural (pos m) n is = ap pos (sym (same_Some m n is))
natural (negsuc m) n is = absurd (none-some n is)

module _ (id : MethodId) (pc next max : ℕ) (ls : List (Option JavaValue)) (count : ℕ → ℕ) (lt : ℕ → Option ValueType) (hs : ℕ → ℕ) where
  abbrev here : List JavaValue → Activation
  here vs = act id pc next max ls count lt hs vs

  -- where a jump ends
  pub record Lands (conditional : Type 0) (distance : ℤ) (rest : List ValueType) (th : ℕ → ThreadState) (x : acting.Change) : Type 0 where
    pub matches : Matches max x.after (held_after x.effect.event count) (state id pc next max ls count lt hs rest th)
    pub place : ((x.after.pc ≡ next) × conditional) ⊎ (pos x.after.pc ≡ pos pc +ℤ distance)

  module _ (fits : (slot : ℕ) → LocalFits (slice_get ls slot) (lt slot)) (room : length ls ≡ max) (helds : (m : ℕ) → hs m ≡ count m) where
    branched : (conditional : Type 0) (distance : ℤ) (vs ws : List JavaValue) (rest : List ValueType) (th : ℕ → ThreadState) (taken : Bool) (x : acting.Change) → (taken ≡ false → conditional) →
        AreTyped ws rest → branches (here vs) next ws distance taken ≡ Some x → Lands conditional distance rest th x
    branched conditional distance vs ws rest th true x may typed is =
        option_and_then_some _ (natural_of (pos pc +ℤ distance)) x is (λ target there same.
        subst (Lands conditional distance rest th) (same_Some (jumps_to (here vs) ws target) x same)
        (record { matches = record { stack = typed; locals = fits; room = room; held = helds }; place = inr (natural (pos pc +ℤ distance) target there) }))
    branched conditional distance vs ws rest th false x may typed is =
        subst (Lands conditional distance rest th) (same_Some (goes_on (here vs) next ws silent) x is)
        (record { matches = record { stack = typed; locals = fits; room = room; held = helds }; place = inl (refl, may refl) })

    with_zero : (c : Comparison) (distance : ℤ) (vs : List JavaValue) (rest : List ValueType) (th : ℕ → ThreadState) (x : acting.Change) → IntsAbove 1 vs rest →
        change_of (doing.Jump (test.WithZero c) distance) next (here vs) ≡ Some x → Lands (IsConditional (test.WithZero c)) distance rest th x
    with_zero c distance (java.Int n ∷ vs) rest th x above is = branched (IsConditional (test.WithZero c)) distance (java.Int n ∷ vs) vs rest th (compares c n (pos 0)) x (λ no. tt) above is
    with_zero c distance vs rest th x above is = absurd above

    of_two : (c : Comparison) (distance : ℤ) (vs : List JavaValue) (rest : List ValueType) (th : ℕ → ThreadState) (x : acting.Change) → IntsAbove 2 vs rest →
        change_of (doing.Jump (test.OfTwo c) distance) next (here vs) ≡ Some x → Lands (IsConditional (test.OfTwo c)) distance rest th x
    of_two c distance (java.Int b ∷ java.Int a ∷ vs) rest th x above is = branched (IsConditional (test.OfTwo c)) distance (java.Int b ∷ java.Int a ∷ vs) vs rest th (compares c a b) x (λ no. tt) above is
    of_two c distance vs rest th x above is = absurd above

    by_test : (t : Test) (distance : ℤ) (vs : List JavaValue) (rest : List ValueType) (th : ℕ → ThreadState) (x : acting.Change) → IntsAbove (tested_ints (condition t)) vs rest →
        change_of (doing.Jump t distance) next (here vs) ≡ Some x → Lands (IsConditional t) distance rest th x
    by_test test.Always distance vs rest th x above is = branched (IsConditional test.Always) distance vs vs rest th true x (λ no. absurd cc) above is
    by_test (test.WithZero c) distance vs rest th x above is = with_zero c distance vs rest th x above is
    by_test (test.OfTwo c) distance vs rest th x above is = of_two c distance vs rest th x above is

    -- the state behind a jump, and the place of it
    pub record Jumps (t : Test) (distance : ℤ) (ts : List ValueType) (th : ℕ → ThreadState) (c : Change) (x : acting.Change) : Type 0 where
      pub matches : Matches max x.after (held_after x.effect.event count) (behind c (state id pc next max ls count lt hs ts th))
      pub place : ((x.after.pc ≡ next) × IsConditional t) ⊎ (pos x.after.pc ≡ pos pc +ℤ distance)

    pub jump_lands : (t : Test) (distance : ℤ) (vs : List JavaValue) (ts : List ValueType) (th : ℕ → ThreadState) (c : Change) (x : acting.Change) → AreTyped vs ts →
        pushes_result false (below_ints (tested_ints (condition t)) ts) ≡ Changes c → change_of (doing.Jump t distance) next (here vs) ≡ Some x → Jumps t distance ts th c x
    jump_lands t distance vs ts th c x typed met is =
        with_result false (below_ints (tested_ints (condition t)) ts) c (λ y. Jumps t distance ts th y x) met (λ rest below.
        let lands = by_test t distance vs rest th x (ints_above (tested_ints (condition t)) vs ts rest typed below) is in
        record { matches = lands.matches; place = lands.place })

  -- ---- A jump goes on

  branch_goes : (distance : ℤ) (vs ws : List JavaValue) (target : ℕ) → pos target ≡ pos pc +ℤ distance → (taken : Bool) → (x : acting.Change) × (branches (here vs) next ws distance taken ≡ Some x)
  branch_goes distance vs ws target is true = (jumps_to (here vs) ws target, ap (λ z. option_and_then (λ n. Some (jumps_to (here vs) ws n)) (natural_of z)) (sym is))
  branch_goes distance vs ws target is false = (goes_on (here vs) next ws silent, refl)

  goes_by_test : (t : Test) (distance : ℤ) (vs : List JavaValue) (rest : List ValueType) (target : ℕ) → pos target ≡ pos pc +ℤ distance → IntsAbove (tested_ints (condition t)) vs rest →
      (x : acting.Change) × (change_of (doing.Jump t distance) next (here vs) ≡ Some x)
  goes_by_test test.Always distance vs rest target is above = branch_goes distance vs vs target is true
  goes_by_test (test.WithZero c) distance (java.Int n ∷ vs) rest target is above = branch_goes distance (java.Int n ∷ vs) vs target is (compares c n (pos 0))
  goes_by_test (test.WithZero c) distance vs rest target is above = absurd above
  goes_by_test (test.OfTwo c) distance (java.Int b ∷ java.Int a ∷ vs) rest target is above = branch_goes distance (java.Int b ∷ java.Int a ∷ vs) vs target is (compares c a b)
  goes_by_test (test.OfTwo c) distance vs rest target is above = absurd above

  pub jump_goes : (t : Test) (distance : ℤ) (vs : List JavaValue) (ts : List ValueType) (c : Change) (target : ℕ) → pos target ≡ pos pc +ℤ distance → AreTyped vs ts →
      pushes_result false (below_ints (tested_ints (condition t)) ts) ≡ Changes c → (x : acting.Change) × (change_of (doing.Jump t distance) next (here vs) ≡ Some x)
  jump_goes t distance vs ts c target is typed met =
      with_result false (below_ints (tested_ints (condition t)) ts) c (λ y. (x : acting.Change) × (change_of (doing.Jump t distance) next (here vs) ≡ Some x)) met (λ rest below.
      goes_by_test t distance vs rest target is (ints_above (tested_ints (condition t)) vs ts rest typed below))
