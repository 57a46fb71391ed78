-- The third condition, by places of the synchronization orders.
use Rattle.std.proofs.Common.{◌≡◌, ℕ, Some, Contains, slice_get, slice_index, sym, ◌∙◌, ap, ap₂, subst, inl, inr}
use Rattle.std.proofs.lemmas.Bool.{cases_order}
use Rattle.std.proofs.lemmas.Option.{get_or_from_slice_get}
use Rattle.program.proofs.Lists.{contains_at}
use Rattle.orders.proofs.Places.{one}
use Rattle.orders.proofs.Said.{exec}
use Rattle.step_members.specs.declared.stage.Stage.{Stage}
use Rattle.step_members.specs.declared.table.Member.{Member}
use Rattle.step_members.specs.Stages.{IsStage}
use Rattle.same_orders.specs.Synced.{IsSyncMember}

-- ---- One pair

abbrev pair : ℕ → ℕ → Member
pair m n = record { whole = m; own = n }

-- an identifier stands once in an order
listed_once : (s : Stage) (id r q : ℕ) → IsStage s → slice_get (exec s.whole.now).so r ≡ Some id → slice_get (exec s.whole.now).so q ≡ Some id → r ≡ q
listed_once s id r q stage at_r at_q = elim (cases_order r q) [
  | inl eq ↦ eq
  | inr (inl below) ↦ absurd ((stage.whole.ordered.form id).listed_once r q below at_r at_q)
  | inr (inr above) ↦ absurd ((stage.whole.ordered.form id).listed_once q r above at_q at_r)
]

pub sync_once : (s : Stage) (m o : Member) → IsStage s → IsSyncMember s m → IsSyncMember s o → m.own ≡ o.own → m ≡ o
sync_once s m o stage is_m is_o same =
    let alike : is_m.id ≡ is_o.id = one (sym is_m.in_own ∙ ap (slice_get (exec s.own.now).so) same ∙ is_o.in_own) in
    ap₂ pair (listed_once s is_m.id m.whole o.whole stage is_m.in_whole (is_o.in_whole ∙ ap Some (sym alike))) same

pub not_listed : (s : Stage) (own id : ℕ) (m : Member) → slice_get (exec s.own.now).so own ≡ Some id → (Contains s.ids.keys id → ⊥) → IsSyncMember s m → m.own ≡ own → ⊥
not_listed s own id m at none is_m same = none (subst (Contains s.ids.keys) (one (sym is_m.in_own ∙ ap (slice_get (exec s.own.now).so) same ∙ at)) is_m.listed)

pub not_synced : (s : Stage) (own id : ℕ) (m : Member) → slice_get (exec s.own.now).so own ≡ Some id → (Contains (exec s.whole.now).so id → ⊥) → IsSyncMember s m → m.own ≡ own → ⊥
not_synced s own id m at none is_m same =
    none (subst (Contains (exec s.whole.now).so) (one (sym is_m.in_own ∙ ap (slice_get (exec s.own.now).so) same ∙ at)) (contains_at (exec s.whole.now).so m.whole is_m.id is_m.in_whole))

-- the identifier that was read at the member's place
pub read_id : (s : Stage) (m : Member) (id : ℕ) → IsSyncMember s m → id ≡ slice_index (exec s.own.now).so m.own → slice_get (exec s.own.now).so m.own ≡ Some id
read_id s m id is_m is = is_m.in_own ∙ ap Some (sym (get_or_from_slice_get (exec s.own.now).so m.own is_m.id 0 is_m.in_own) ∙ sym is)
