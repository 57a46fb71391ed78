-- The threads that act, and those that are started.
use Rattle.std.proofs.Common.{◌≡◌, ◌≢◌, ◌<◌, ◌≤◌, ◌+◌, ℕ, zero, suc, List, [], ◌∷◌, All, Contains, Some, length, slice_get, refl, sym, ap, subst, ◌∙◌, arith, inl, inr}
use Rattle.line_text.specs.declared.bounds.Bounds.{Bounds}
use Rattle.program.proofs.Lists.{all_head, all_of, all_tail, contains_at, place_of}
use Rattle.program.specs.Program.{Prog}
use Rattle.program.specs.declared.kind.Kind.TheVariants.{Start}
use Rattle.action_orders.specs.declared.action.Action.{Action}
use Rattle.action_orders.specs.declared.action.ActionOperand.TheVariants.{Thread}
use Rattle.action_orders.specs.declared.action.Entry.{Entry}
use Rattle.action_orders.specs.declared.execution.ThreadPart.{ThreadPart}
use Rattle.action_orders.specs.Execution.{Exec}
use Rattle.action_orders.specs.Actions.{Default, Is, Of, entries}
use Rattle.action_orders.specs.Runs.{Acts, ActsRightly, HasRunWithin, IsStarted}
use Rattle.action_orders.specs.Spelling.{IsSpeltEntry, IsSpeltOperand, IsSpeltPart}
use Rattle.orders.specs.declared.answers.Orders.{Orders}
use Rattle.orders.specs.Flat.{IsAt, IsOrdered}
use Rattle.orders.specs.Made.{IsMade}
use Rattle.orders.proofs.Places.{all_entries, at_of, entry_at, in_parts, offset, one}
use Rattle.orders.proofs.Said.{exec, prog}
use Rattle.orders.proofs.Tabled.{inside_flat}
use Rattle.thread_events.specs.Gotten.{AreAmong}
use Rattle.thread_meaning.proofs.Unique.{one_place}
use Rattle.thread_runs.specs.declared.answers.ThreadRun.{ThreadRun}
use Rattle.thread_runs.specs.declared.answers.ThreadRun.TheVariants as thread_run
use Rattle.thread_runs.specs.Judged.{StandsAs, StandsAt}
use Rattle.thread_runs.specs.Past.{GoesPast, InBoundsAt, KeepsAt}

pub part_among : (e : Exec) (t : ThreadPart) → Contains e.threads t → AreAmong e t.entries
part_among e t inside n there =
    let (o, at) = offset e.threads t inside in
    let (k, is) = place_of t.entries n there in
    contains_at (entries e) (o + k) n (at k n is)

-- where no action starts a thread it is not started
pub none_starts : (o : Orders) (k i : ℕ) → IsMade o → length o.flat.entries.items ≤ i → ((j : ℕ) (a : Action) → j < i → IsAt (exec o) j a → Is Start (Thread k) (Of a) → ⊥) → IsStarted (prog o) (exec o) k → ⊥
none_starts o k i made all none (Default v, action, is) = absurd is
none_starts o k i made all none (Of a, action, is) =
    let (j, at) = at_of (prog o) (exec o) a action in
    let within = inside_flat o.flat j a made.tables at in
    none j a (omega arith) at is

-- ---- Numbers that can be written

spelt_in : (ts : List ThreadPart) → All IsSpeltPart ts → (i : ℕ) (n : Entry) → slice_get (all_entries ts) i ≡ Some n → IsSpeltEntry n
spelt_in [] spelt i n is = cc
spelt_in (t ∷ ts) spelt i n is = elim (in_parts t.entries (all_entries ts) i n is) [
  | inl h ↦ all_of IsSpeltEntry t.entries n (all_head IsSpeltPart t ts spelt).entries (contains_at t.entries i n h)
  | inr (m, at, h) ↦ spelt_in ts (all_tail IsSpeltPart t ts spelt) m n h
]

module _ (p : Prog) (e : Exec) (ord : IsOrdered p e) where
  few_act : (k : ℕ) → 8 ≤ k → Acts e k → ⊥
  few_act k far (t, inside, same) = let few = (all_of IsSpeltPart e.threads t ord.spelt inside).thread in omega arith

  few_started : (k : ℕ) → 8 ≤ k → IsStarted p e k → ⊥
  few_started k far (Default v, action, is) = absurd is
  few_started k far (Of a, action, is) =
      let (i, at) = at_of p e a action in
      let (n, is_n, act) = entry_at e i a at in
      let few : k ≤ 7 = subst IsSpeltOperand (ap (λ (b : Action). b.operand) act ∙ is.1) (spelt_in e.threads ord.spelt i n is_n) in
      omega arith

  -- ---- One part for each thread

  pub one_part : (t u : ThreadPart) → Contains e.threads t → Contains e.threads u → t.thread ≡ u.thread → t ≡ u
  one_part t u in_t in_u same =
      let (i, at_i) = place_of e.threads t in_t in
      let (j, at_j) = place_of e.threads u in_u in
      let place : i ≡ j = one_place (λ (x y : ThreadPart). x.thread < y.thread) e.threads i j t u ord.shape.increasing at_i at_j (λ below. omega arith) (λ below. omega arith) in
      one (sym at_i ∙ ap (slice_get e.threads) place ∙ at_j)

  module _ (bounds : Bounds) where
    -- ---- Threads that don't act

    idle : (k : ℕ) → k ≢ 0 → (Acts e k → ⊥) → (IsStarted p e k → ⊥) → KeepsAt p e bounds k × InBoundsAt p e bounds k
    idle zero other none unstarted = absurd (other refl)
    idle (suc k) other none unstarted = (
      record { acts = (λ acts. absurd (none acts), λ started. absurd (unstarted started)); some = λ t inside same. absurd (none (t, inside, same)); runs = λ t inside same. absurd (none (t, inside, same)) },
      λ t inside same. absurd (none (t, inside, same)),
    )

    pub far : (k : ℕ) → 8 ≤ k → KeepsAt p e bounds k × InBoundsAt p e bounds k
    far k past = idle k (λ zero_is. omega arith) (few_act k past) (few_started k past)

    -- ---- Threads that act

    module _ (t : ThreadPart) (inside : Contains e.threads t) where
      pub acts_main : t.thread ≡ 0 → ActsRightly p e t.thread
      acts_main is = subst (ActsRightly p e) (sym is) (t, inside, is)

      pub acts_started : IsStarted p e t.thread → ActsRightly p e t.thread
      acts_started started = go t.thread refl started
        where
          go : (k : ℕ) → t.thread ≡ k → IsStarted p e k → ActsRightly p e k
          go zero is h = (t, inside, is)
          go (suc k) is h = (λ acts. h, λ again. (t, inside, is))

      own : (P : ThreadPart → Type 0) → P t → (u : ThreadPart) → Contains e.threads u → u.thread ≡ t.thread → P u
      own P h u in_u same = subst P (one_part t u inside in_u (sym same)) h

      pub acts_nothing : t.entries ≡ [] → KeepsAt p e bounds t.thread → ⊥
      acts_nothing none keep = keep.some t inside refl none

      pub stands_at : (r : ThreadRun) → t.entries ≢ [] → ActsRightly p e t.thread → StandsAs p e bounds t r → StandsAt p e bounds t.thread r
      stands_at thread_run.Within some acts h = (
        record { acts = acts; some = λ u in_u same. own (λ (x : ThreadPart). x.entries ≢ []) some u in_u same; runs = λ u in_u same. inl (own (HasRunWithin p e bounds.jumps bounds.width) h u in_u same) },
        λ u in_u same. own (HasRunWithin p e bounds.jumps bounds.width) h u in_u same,
      )
      stands_at thread_run.Past some acts h = (
        record { acts = acts; some = λ u in_u same. own (λ (x : ThreadPart). x.entries ≢ []) some u in_u same; runs = λ u in_u same. inr (own (GoesPast p e bounds) h.0 u in_u same) },
        λ within. h.1 (within t inside refl),
      )
      stands_at thread_run.Wrong some acts h = λ keep. elim (keep.runs t inside refl) [
        | inl within ↦ h.0 within
        | inr past ↦ h.1 past
      ]
