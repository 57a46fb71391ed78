-- Actions that are the events of a run, place by place.
use Rattle.std.proofs.Common.{◌≡◌, ◌<◌, ◌+◌, ℕ, zero, suc, List, [], ◌∷◌, Some, slice_get, length, arith, refl, sym, ◌∙◌, ap, subst, inl, inr}
use Rattle.std.proofs.lemmas.Bool.{cases_eq}
use Rattle.program.specs.Program.{Prog}
use Rattle.program.specs.declared.event.Event.{Event}
use Rattle.action_orders.specs.declared.action.Entry.{Entry}
use Rattle.action_orders.specs.Execution.{Exec}
use Rattle.action_orders.specs.Runs.{HasEvent, HaveEvents}

module _ (p : Prog) (e : Exec) where
  pub have_length : (ns : List Entry) (vs : List Event) → HaveEvents p e ns vs → length ns ≡ length vs
  have_length [] [] have = refl
  have_length [] (v ∷ vs) have = absurd have
  have_length (n ∷ ns) [] have = absurd have
  have_length (n ∷ ns) (v ∷ vs) have = ap suc (have_length ns vs have.1)

  pub have_at : (ns : List Entry) (vs : List Event) (i : ℕ) (n : Entry) (v : Event) → HaveEvents p e ns vs → slice_get ns i ≡ Some n → slice_get vs i ≡ Some v → HasEvent p e n v
  have_at [] vs i n v have at_n at_v = cc
  have_at (m ∷ ns) [] i n v have at_n at_v = absurd have
  have_at (m ∷ ns) (w ∷ vs) zero n v have at_n at_v =
      let entries : m ≡ n = cc in
      let events : w ≡ v = cc in
      subst (λ (x : Event). HasEvent p e n x) events (subst (λ (x : Entry). HasEvent p e x w) entries have.0)
  have_at (m ∷ ns) (w ∷ vs) (suc i) n v have at_n at_v = have_at ns vs i n v have.1 at_n at_v

  pub have_all : (ns : List Entry) (vs : List Event) → length ns ≡ length vs → ((i : ℕ) (n : Entry) (v : Event) → slice_get ns i ≡ Some n → slice_get vs i ≡ Some v → HasEvent p e n v) → HaveEvents p e ns vs
  have_all [] [] size each = tt
  have_all [] (v ∷ vs) size each = absurd (omega (arith, size))
  have_all (n ∷ ns) [] size each = absurd (omega (arith, size))
  have_all (n ∷ ns) (v ∷ vs) size each = (each 0 n v refl refl, have_all ns vs (omega (arith, size)) (λ i m w at_m at_w. each (suc i) m w at_m at_w))

  -- the actions before a place are the events
  abbrev pub HaveBefore : List Entry → List Event → ℕ → Type 0
  HaveBefore ns vs i = (k : ℕ) (n : Entry) (v : Event) → k < i → slice_get ns k ≡ Some n → slice_get vs k ≡ Some v → HasEvent p e n v

  pub before_more : (ns : List Entry) (vs : List Event) (i : ℕ) (n : Entry) (v : Event) → slice_get ns i ≡ Some n → slice_get vs i ≡ Some v → HasEvent p e n v → HaveBefore ns vs i → HaveBefore ns vs (i + 1)
  before_more ns vs i n v at_n at_v has before k m w below at_m at_w = elim (cases_eq k i) [
    | inl same ↦ (let entries : Some m ≡ Some n = sym at_m ∙ ap (slice_get ns) same ∙ at_n in
        let events : Some w ≡ Some v = sym at_w ∙ ap (slice_get vs) same ∙ at_v in
        let one : n ≡ m = cc in
        let other : v ≡ w = cc in
        subst (λ (x : Event). HasEvent p e m x) other (subst (λ (x : Entry). HasEvent p e x v) one has))
    | inr apart ↦ before k m w (omega arith) at_m at_w
  ]
