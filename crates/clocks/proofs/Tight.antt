-- Each count of a clock is that of an event of its thread.
use Rattle.std.proofs.Common.{◌≡◌, ◌≢◌, ◌<◌, ◌+◌, ◌++◌, ℕ, List, [], ◌∷◌, Some, slice_get, slice_index, slice_index_or, slice_set, length, length-append, max, arith, sym, ◌∙◌, ap, subst, inl, inr}
use Rattle.std.proofs.lemmas.Bool.{cases_lt, cases_eq}
use Rattle.std.proofs.lemmas.List.{get_or_append_left, get_or_push, get_or-set_same, get_or-set_other, length-set}
use Rattle.clocks.specs.declared.clock.Clock.{Clock}
use Rattle.clocks.specs.declared.pass.Event.{Event}
use Rattle.clocks.specs.Events.{IsCount, IsTight, AreTight}

pub tight_joined : (events : List Event) (x y z : Clock) → ((t : ℕ) → slice_index z.known t ≡ max (slice_index x.known t) (slice_index y.known t)) → IsTight events x → IsTight events y → IsTight events z
tight_joined events x y z joined left right t = elim (cases_lt (slice_index x.known t) (slice_index y.known t)) [
  | inl below ↦ (let is : slice_index y.known t ≡ slice_index z.known t = omega (arith, joined t) in subst (IsCount events t) is (right t))
  | inr above ↦ (let is : slice_index x.known t ≡ slice_index z.known t = omega (arith, joined t) in subst (IsCount events t) is (left t))
]

pub tight_after : (events : List Event) (j : ℕ) (b : Event) (clock after : Clock) → slice_get events j ≡ Some b → IsTight events clock →
    slice_index after.known b.thread ≡ j + 1 → ((t : ℕ) → t ≢ b.thread → slice_index after.known t ≡ slice_index clock.known t) → IsTight events after
tight_after events j b clock after is tight own others t = elim (cases_eq t b.thread) [
  | inl e ↦ inr (j, b, subst (λ (u : ℕ). slice_index after.known u ≡ j + 1) (sym e) own, is, sym e)
  | inr apart ↦ subst (IsCount events t) (sym (others t apart)) (tight t)
]

pub tight_set : (events : List Event) (known : List Clock) (i : ℕ) (new : Clock) → AreTight events known → IsTight events new → AreTight events (slice_set known i new)
tight_set events known i new tight one k d within = elim (cases_eq k i) [
  | inl e ↦ (let inside : i < length known = omega (arith, length-set known i new) in
      subst (IsTight events) (sym (ap (λ (n : ℕ). slice_index_or (slice_set known i new) n d) e ∙ get_or-set_same known i new d inside)) one)
  | inr apart ↦ subst (IsTight events) (sym (get_or-set_other known i k new d apart)) (tight k d (subst (λ (n : ℕ). k < n) (length-set known i new) within))
]

pub tight_pushed : (events : List Event) (xs : List Clock) (x : Clock) → AreTight events xs → IsTight events x → AreTight events (xs ++ x ∷ [])
tight_pushed events xs x tight one k d within = elim (cases_lt k (length xs)) [
  | inl inside ↦ subst (IsTight events) (sym (get_or_append_left xs (x ∷ []) d k inside)) (tight k d inside)
  | inr past ↦ (let at : length xs ≡ k = omega (arith, length-append xs (x ∷ [])) in subst (IsTight events) (sym (get_or_push xs x d k at)) one)
]
