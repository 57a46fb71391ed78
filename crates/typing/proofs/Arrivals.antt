-- Lists of arrivals.
use Rattle.std.proofs.Common.{◌≡◌, ◌<◌, ◌+◌, ℕ, List, Contains, ◌⊎◌, inl, inr, length, subst, sym, arith, refl, ◌++◌, ◌∷◌, [], Option}
use Rattle.std.proofs.lemmas.Bool.{cases_eq}
use Rattle.std.proofs.lemmas.List.Elements.{Contains-push, Contains-append_left}
use Rattle.opcodes.specs.declared.listed.Listed.{Listed}
use Rattle.typing.specs.Levels.{HasArrival, IsFrom, ComesFrom, IsArrival, StepsTo, StepsFrom}
use Rattle.typing.specs.Summaries.{Summary, summary_of, IsSameSummary, Follows}
use Rattle.typing.specs.declared.joined.Joined.{Joined}
use Rattle.typing.specs.declared.level.Arrival.{Arrival}
use Rattle.typing.specs.declared.untyped.UntypedMethod.{UntypedMethod}
use Rattle.std.specs.List.{slice_get}
use Rattle.std.specs.Prelude.{Some}

pub more_has : (xs : List Arrival) (x : Arrival) (from to : ℕ) → HasArrival xs from to → HasArrival (xs ++ x ∷ []) from to
more_has xs x from to h = record { arrival = h.arrival; among = Contains-append_left xs (x ∷ []) h.arrival h.among; is_from = h.is_from; is_to = h.is_to }

pub pushed_has : (xs : List Arrival) (x : Arrival) → HasArrival (xs ++ x ∷ []) x.from x.to
pushed_has xs x = record { arrival = x; among = Contains-push xs x; is_from = refl; is_to = refl }

pub kept_has : (xs ys : List Arrival) (from to : ℕ) → ((a : Arrival) → Contains xs a → Contains ys a) → HasArrival xs from to → HasArrival ys from to
kept_has xs ys from to more h = record { arrival = h.arrival; among = more h.arrival h.among; is_from = h.is_from; is_to = h.is_to }

pub at_or_before : (k n : ℕ) → k < n + 1 → (k ≡ n) ⊎ (k < n)
at_or_before k n lt = elim (cases_eq k n) [ inl same ↦ inl same | inr other ↦ inr (omega arith) ]

-- summaries that say the same are equal
pub same_summary : (a b : Summary) → IsSameSummary a b → a ≡ b
same_summary a b h = λ i. record {
  local = λ q. h.local q i;
  stack = h.stack i;
  stacks_differ = h.stacks_differ i;
  held = λ q. h.held q i;
  held_differs = h.held_differs i;
  stage = λ q. h.stage q i;
}

-- what was added comes from its place
pub from_arrives : (m : UntypedMethod) (states : List (Option Joined)) (from : ℕ) (at : Listed) (targets : List ℕ) (next : Joined) (a : Arrival) →
    from < length m.listing → slice_get m.listing from ≡ Some at → ((to : ℕ) → Contains targets to → StepsFrom m.listing at to) → ComesFrom m states from next →
    IsFrom from targets (summary_of next) a → IsArrival m states a
from_arrives m states from at targets next a inside listed steps comes is =
    let P : ℕ → Type 0 = λ n. n < length m.listing in
    let Q : ℕ → Type 0 = λ n. ComesFrom m states n a.state in
    let R : ℕ → Type 0 = λ n. StepsTo m.listing n a.to in
    record {
      inside = subst P (sym is.is_from) inside;
      comes = subst Q (sym is.is_from) (record {
        state = comes.state;
        kept = comes.kept;
        deed = comes.deed;
        does = comes.does;
        follows = subst (Follows m.frame.result comes.deed (summary_of comes.state)) (sym (same_summary _ _ is.same)) comes.follows;
      });
      steps = subst R (sym is.is_from) (at, listed, steps a.to is.among);
    }
