-- What holds of all members holds of all committed actions.
use Rattle.std.proofs.Common.{◌≡◌, ◌<◌, ◌↔◌, ℕ, List, Option, Some, Bool, IsTrue, slice_get, length, map, sym, ◌∙◌, ap, subst}
use Rattle.std.proofs.lemmas.List.{length-map}
use Rattle.program.proofs.Lists.{place_of, slice_get_of}
use Rattle.action_orders.specs.declared.action.Action.{Action}
use Rattle.action_orders.specs.Actions.{Act, Of}
use Rattle.orders.specs.Tables.{action_of}
use Rattle.orders.proofs.Places.{one}
use Rattle.least_break.specs.Least.{IsLeastBreak, IsScanned}
use Rattle.volatile_reads.proofs.Scanned.{least_of}
use Rattle.step_members.specs.declared.stage.Stage.{Stage}
use Rattle.step_members.specs.declared.table.Member.{Member}
use Rattle.step_members.specs.AtActions.{WithId}
use Rattle.step_members.specs.Members.{AreMembers, HoldsAt, IsMember, id_of}

pub holds_at : (ms : List Member) (P : Member → Type 0) (k : ℕ) (m : Member) (b : Bool) → slice_get ms k ≡ Some m → (IsTrue b ↔ P m) → IsTrue b ↔ HoldsAt ms P k
holds_at ms P k m b at iff = (λ fits o at_o. subst P (one (sym at ∙ at_o)) (iff.0 fits), λ all. iff.1 (all m at))

pub least_of_members : (s : Stage) (n : ℕ) (ms : List Member) (Q : Member → Type 0) (R : Act → Type 0) (result : Option ℕ) → AreMembers s n ms → ((m : Member) → IsMember s m → m.own < n) →
    ((a : Action) → ((m : Member) → IsMember s m → action_of s.whole.now.flat m.whole ≡ a → Q m) → R (Of a)) → ((m : Member) → IsMember s m → R (Of (action_of s.whole.now.flat m.whole)) → Q m) →
    IsScanned (HoldsAt ms Q) (map (id_of s) ms) (length ms) result → IsLeastBreak (WithId R) result
least_of_members s n ms Q R result are inside all one_of scanned =
    least_of (HoldsAt ms Q) (WithId R) (map (id_of s) ms) result to from (subst (λ (i : ℕ). IsScanned (HoldsAt ms Q) (map (id_of s) ms) i result) (sym (length-map ms (id_of s))) scanned)
  where
    to : (id : ℕ) → ((k : ℕ) → slice_get (map (id_of s) ms) k ≡ Some id → HoldsAt ms Q k) → WithId R id
    to id each a named = all a (λ m is_m same.
        let (k, at) = place_of ms m (are.all m is_m (inside m is_m)) in
        let alike : id_of s m ≡ id = ap (λ (x : Action). x.id) (sym is_m.same ∙ same) ∙ named in
        each k (slice_get_of (id_of s) ms k m at ∙ ap Some alike) m at)

    from : (k id : ℕ) → slice_get (map (id_of s) ms) k ≡ Some id → WithId R id → HoldsAt ms Q k
    from k id at meets m at_m =
        let is_m = are.each k m at_m in
        one_of m is_m (meets (action_of s.whole.now.flat m.whole) (ap (λ (x : Action). x.id) is_m.same ∙ one (sym (slice_get_of (id_of s) ms k m at_m) ∙ at)))
