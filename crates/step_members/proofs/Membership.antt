-- The committed actions by their places.
use Rattle.std.proofs.Common.{◌≡◌, ◌<◌, ◌↔◌, ℕ, Bool, false, IsTrue, Contains, length, sym, ◌∙◌, ap, ap₂, subst}
use Rattle.action_orders.specs.declared.action.Action.{Action}
use Rattle.action_orders.specs.declared.action.ActionRef.TheVariants.{Id}
use Rattle.action_orders.specs.Actions.{Of}
use Rattle.action_orders.specs.Causality.{Condition1, IsIn}
use Rattle.orders.specs.Made.{IsPlaced, HasNoPlace}
use Rattle.orders.specs.Tables.{action_of}
use Rattle.orders.proofs.Places.{one, is_action, at_of}
use Rattle.orders.proofs.Sync.{id_place}
use Rattle.orders.proofs.Said.{exec, prog, at_flat, not_true}
use Rattle.orders.proofs.Tabled.{inside_flat}
use Rattle.step_members.specs.declared.stage.Stage.{Stage}
use Rattle.step_members.specs.declared.table.Member.{Member}
use Rattle.step_members.specs.Stages.{IsStage, program_of, committed_of, step_of}
use Rattle.step_members.specs.Members.{IsMember}
use Rattle.step_members.proofs.Present.{is_placed, there_at}

-- ---- One member

abbrev pair : ℕ → ℕ → Member
pair m n = record { whole = m; own = n }

-- a place of the step's execution is that of one member
pub member_once : (s : Stage) (m o : Member) → IsStage s → IsMember s m → IsMember s o → m.own ≡ o.own → m ≡ o
member_once s m o stage is_m is_o same =
    let alike = is_m.same ∙ ap (action_of s.own.now.flat) same ∙ sym is_o.same in
    let whole : m.whole ≡ o.whole = id_place (prog s.whole.now) (exec s.whole.now) m.whole o.whole _ _ stage.whole.ordered (at_flat s.whole.now m.whole stage.whole is_m.in_whole) (at_flat s.whole.now o.whole stage.whole is_o.in_whole) (ap (λ (a : Action). a.id) alike) in
    ap₂ pair whole same

-- a committed action has its places
pub committed_member : (s : Stage) (a : Action) → IsStage s → Condition1 (program_of s) (committed_of s) (step_of s) → IsIn (program_of s) (committed_of s) s.names.now (Of a) → (m : Member) × IsMember s m × (action_of s.whole.now.flat m.whole ≡ a)
committed_member s a stage present member =
    let (i, at_i) = at_of (program_of s) (committed_of s) a member.action in
    let (j, at_j) = at_of (program_of s) (exec s.own.now) a (present (Of a) member) in
    let in_i = inside_flat s.whole.now.flat i a stage.whole.tables at_i in
    let in_j = inside_flat s.own.now.flat j a stage.own.tables at_j in
    let is_i : action_of s.whole.now.flat i ≡ a = one (sym (at_flat s.whole.now i stage.whole in_i) ∙ at_i) in
    let is_j : action_of s.own.now.flat j ≡ a = one (sym (at_flat s.own.now j stage.own in_j) ∙ at_j) in (
      record { whole = i; own = j },
      record {
        in_whole = in_i;
        in_own = in_j;
        same = is_i ∙ sym is_j;
        listed = (stage.ids (action_of s.own.now.flat j).id).1 (subst (λ (x : Action). Contains s.names.now (Id x.id)) (sym is_j) member.member);
      },
      is_i,
    )

-- and a member is a committed action
pub member_committed : (s : Stage) (m : Member) → IsStage s → IsMember s m → IsIn (program_of s) (committed_of s) s.names.now (Of (action_of s.whole.now.flat m.whole))
member_committed s m stage is_m = record {
  action = is_action (program_of s) (committed_of s) m.whole (action_of s.whole.now.flat m.whole) (at_flat s.whole.now m.whole stage.whole is_m.in_whole);
  member = subst (λ (x : Action). Contains s.names.now (Id x.id)) (sym is_m.same) ((stage.ids (action_of s.own.now.flat m.own).id).0 is_m.listed);
}

-- ---- At a place

pub found_at : (s : Stage) (whole own id : ℕ) → IsStage s → Condition1 (program_of s) (committed_of s) (step_of s) → own < length s.own.now.flat.entries.items → id ≡ (action_of s.own.now.flat own).id → Contains s.ids.keys id →
    IsPlaced s.whole.now id whole → IsMember s (record { whole = whole; own = own })
found_at s whole own id stage present within is listed placed = record {
  in_whole = placed.inside;
  in_own = within;
  same = is_placed s.own.now id own (action_of s.whole.now.flat whole) stage.own (record { inside = within; named = sym is }) placed.named
      (present (Of (action_of s.whole.now.flat whole)) (record { action = there_at s.whole.now id whole stage.whole placed; member = subst (λ (n : ℕ). Contains s.names.now (Id n)) (sym placed.named) ((stage.ids id).0 listed) }));
  listed = subst (Contains s.ids.keys) is listed;
}

pub not_listed : (s : Stage) (own id : ℕ) (b : Bool) (m : Member) → id ≡ (action_of s.own.now.flat own).id → (IsTrue b ↔ Contains s.ids.keys id) → b ≡ false → IsMember s m → m.own ≡ own → ⊥
not_listed s own id b m is iff none is_m same =
    not_true b none (iff.1 (subst (Contains s.ids.keys) (ap (λ (n : ℕ). (action_of s.own.now.flat n).id) same ∙ sym is) is_m.listed))

pub not_placed : (s : Stage) (own id : ℕ) (m : Member) → IsStage s → id ≡ (action_of s.own.now.flat own).id → HasNoPlace s.whole.now id → IsMember s m → m.own ≡ own → ⊥
not_placed s own id m stage is none is_m same =
    none m.whole (action_of s.whole.now.flat m.whole) (at_flat s.whole.now m.whole stage.whole is_m.in_whole) (ap (λ (a : Action). a.id) is_m.same ∙ ap (λ (n : ℕ). (action_of s.own.now.flat n).id) same ∙ sym is)
