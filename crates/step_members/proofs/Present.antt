-- The first condition, by identifiers.
use Rattle.std.proofs.Common.{◌≡◌, ◌↔◌, ℕ, Option, Some, Bool, true, false, IsTrue, Contains, List, slice_get, length, refl, sym, ◌∙◌, ap, subst}
use Rattle.program.proofs.Lists.{contains_at, place_of}
use Rattle.action_orders.specs.declared.action.Action.{Action}
use Rattle.action_orders.specs.declared.action.ActionRef.TheVariants.{Id}
use Rattle.action_orders.specs.Actions.{Of, IsAction}
use Rattle.orders.specs.declared.answers.Orders.{Orders}
use Rattle.orders.specs.Made.{IsMade, IsPlaced, HasNoPlace}
use Rattle.orders.specs.Tables.{action_of}
use Rattle.orders.proofs.Places.{one, is_action, at_of}
use Rattle.orders.proofs.Sync.{same_action}
use Rattle.orders.proofs.Said.{exec, prog, at_flat, not_true}
use Rattle.least_break.specs.Least.{IsScanned}
use Rattle.volatile_reads.proofs.Scanned.{least_of}
use Rattle.step_members.specs.declared.stage.Stage.{Stage}
use Rattle.step_members.specs.Stages.{IsStage, program_of, committed_of, step_of}
use Rattle.step_members.specs.Members.{IsPresent}
use Rattle.step_members.specs.AtActions.{Condition1At, IsLeastAction, WithId}

-- the action of an execution with an identifier stands at the place of the identifier
pub is_placed : (o : Orders) (id i : ℕ) (a : Action) → IsMade o → IsPlaced o id i → a.id ≡ id → IsAction (prog o) (exec o) (Of a) → a ≡ action_of o.flat i
is_placed o id i a made placed named action =
    let (j, at) = at_of (prog o) (exec o) a action in
    same_action (prog o) (exec o) j i a (action_of o.flat i) made.ordered at (at_flat o i made placed.inside) (named ∙ sym placed.named)

pub there_at : (o : Orders) (id i : ℕ) → IsMade o → IsPlaced o id i → IsAction (prog o) (exec o) (Of (action_of o.flat i))
there_at o id i made placed = is_action (prog o) (exec o) i (action_of o.flat i) (at_flat o i made placed.inside)

pub absent : (o : Orders) (id : ℕ) (a : Action) → HasNoPlace o id → a.id ≡ id → IsAction (prog o) (exec o) (Of a) → ⊥
absent o id a none named action = let (i, at) = at_of (prog o) (exec o) a action in none i a at named

-- ---- One identifier

pub names_nothing : (s : Stage) (id : ℕ) → HasNoPlace s.whole.now id → IsTrue true ↔ IsPresent s id
names_nothing s id none = (λ _ a named action. absurd (absent s.whole.now id a none named action), λ _. refl)

pub both_there : (s : Stage) (id i j : ℕ) (x y : Action) (b : Bool) → IsStage s → IsPlaced s.whole.now id i → IsPlaced s.own.now id j → x ≡ action_of s.whole.now.flat i → y ≡ action_of s.own.now.flat j → (IsTrue b ↔ (x ≡ y)) → IsTrue b ↔ IsPresent s id
both_there s id i j x y b stage in_whole in_own is_x is_y iff = (to, from)
  where
    to : IsTrue b → IsPresent s id
    to is a named action =
        let alike = is_placed s.whole.now id i a stage.whole in_whole named action in
        subst (λ (z : Action). IsAction (prog s.own.now) (exec s.own.now) (Of z)) (sym is_y ∙ sym (iff.0 is) ∙ is_x ∙ sym alike) (there_at s.own.now id j stage.own in_own)

    from : IsPresent s id → IsTrue b
    from present =
        let there = present (action_of s.whole.now.flat i) in_whole.named (there_at s.whole.now id i stage.whole in_whole) in
        iff.1 (is_x ∙ is_placed s.own.now id j (action_of s.whole.now.flat i) stage.own in_own in_whole.named there ∙ sym is_y)

pub not_there : (s : Stage) (id i : ℕ) → IsStage s → IsPlaced s.whole.now id i → HasNoPlace s.own.now id → IsTrue false ↔ IsPresent s id
not_there s id i stage in_whole none = (
  λ never. absurd (not_true false refl never),
  λ present. absurd (absent s.own.now id (action_of s.whole.now.flat i) none in_whole.named (present (action_of s.whole.now.flat i) in_whole.named (there_at s.whole.now id i stage.whole in_whole))),
)

-- ---- All identifiers

-- the identifier at a place of the list is that of an action that is there
abbrev pub IsPresentAt : Stage → ℕ → Type 0
IsPresentAt s k = (id : ℕ) → slice_get s.ids.keys k ≡ Some id → IsPresent s id

pub present_at : (s : Stage) (k id : ℕ) (b : Bool) → slice_get s.ids.keys k ≡ Some id → (IsTrue b ↔ IsPresent s id) → IsTrue b ↔ IsPresentAt s k
present_at s k id b at iff = (
  λ is id' at'. subst (IsPresent s) (one (sym at ∙ at')) (iff.0 is),
  λ all. iff.1 (all id at),
)

pub least_absent : (s : Stage) (ids : List ℕ) (result : Option ℕ) → IsStage s → ids ≡ s.ids.keys → IsScanned (IsPresentAt s) ids (length ids) result → IsLeastAction (Condition1At (program_of s) (committed_of s) (step_of s)) result
least_absent s ids result stage same scanned = record {
  defaults = λ v member. member.action;
  least = least_of (IsPresentAt s) (WithId (Condition1At (program_of s) (committed_of s) (step_of s))) ids result to from scanned;
}
  where
    to : (id : ℕ) → ((k : ℕ) → slice_get ids k ≡ Some id → IsPresentAt s k) → WithId (Condition1At (program_of s) (committed_of s) (step_of s)) id
    to id all a named member =
        let listed : Contains s.ids.keys id = (stage.ids id).1 (subst (λ (n : ℕ). Contains s.names.now (Id n)) named member.member) in
        let (k, at) = place_of s.ids.keys id listed in
        all k (ap (λ (xs : List ℕ). slice_get xs k) same ∙ at) id at a named member.action

    from : (k id : ℕ) → slice_get ids k ≡ Some id → WithId (Condition1At (program_of s) (committed_of s) (step_of s)) id → IsPresentAt s k
    from k id at meets id' at' a named action =
        let alike : id' ≡ id = one (sym at' ∙ ap (λ (xs : List ℕ). slice_get xs k) (sym same) ∙ at) in
        let listed = (stage.ids id').0 (contains_at s.ids.keys k id' at') in
        meets a (named ∙ alike) (record { action = action; member = subst (λ (n : ℕ). Contains s.names.now (Id n)) (sym named) listed })
