-- The seventh condition, by members.
use Rattle.std.proofs.Common.{◌≡◌, ◌↔◌, ℕ, List, Option, Bool, false, IsTrue, Contains, length, map, sym, ◌∙◌, subst, inl, inr}
use Rattle.action_orders.specs.declared.action.Action.{Action}
use Rattle.action_orders.specs.declared.action.ActionRef.TheVariants.{Id}
use Rattle.action_orders.specs.Actions.{Of, IsRead, Sees}
use Rattle.action_orders.specs.Causality.{Condition1, IsIn}
use Rattle.orders.specs.Tables.{action_of}
use Rattle.orders.proofs.Said.{exec, not_true}
use Rattle.least_break.specs.Least.{IsScanned}
use Rattle.step_members.specs.declared.stage.Earlier.{Earlier}
use Rattle.step_members.specs.declared.stage.Stage.{Stage}
use Rattle.step_members.specs.declared.table.Member.{Member}
use Rattle.step_members.specs.AtActions.{Condition7At, IsLeastAction}
use Rattle.step_members.specs.Members.{AreMembers, HoldsAt, IsMember, id_of}
use Rattle.step_members.specs.Stages.{IsEarlier, IsStage, program_of, committed_of, step_of}
use Rattle.step_members.proofs.Membership.{committed_member, member_committed}
use Rattle.step_members.proofs.Walking.{least_of_members}
use Rattle.same_notes.proofs.Writes.{no_read}
use Rattle.committed_reads.specs.Now.{ReadsCommitted, SeesCommitted}

pub committed_twice : (s : Stage) (e : Earlier) (m : Member) (id : ℕ) (listed own whole : Bool) → id ≡ id_of s m → (IsTrue listed ↔ Contains e.ids.keys id) → listed ≡ false → (IsTrue own ↔ SeesCommitted s e s.own.now m.own) → IsTrue own →
    (IsTrue whole ↔ SeesCommitted s e s.whole.now m.whole) → IsTrue whole ↔ ReadsCommitted s e m
committed_twice s e m id listed own whole is has none iff_own fits_own iff_whole = (
  λ fits late. record { own = iff_own.0 fits_own; whole = iff_whole.0 fits },
  λ all. iff_whole.1 (let both = all (λ there. not_true listed none (has.1 (subst (Contains e.ids.keys) (sym is) there))) in both.whole),
)

pub least_committed : (s : Stage) (e : Earlier) (ms : List Member) (result : Option ℕ) → IsStage s → IsEarlier s e → Condition1 (program_of s) (committed_of s) (step_of s) → AreMembers s (length s.own.now.flat.entries.items) ms →
    IsScanned (HoldsAt ms (ReadsCommitted s e)) (map (id_of s) ms) (length ms) result → IsLeastAction (Condition7At (program_of s) (committed_of s) e.names.now (step_of s)) result
least_committed s e ms result stage earlier present are scanned = record {
  defaults = λ u v w read. absurd (no_read v u read);
  least = least_of_members s (length s.own.now.flat.entries.items) ms (ReadsCommitted s e) (Condition7At (program_of s) (committed_of s) e.names.now (step_of s)) result are (λ m is_m. is_m.in_own) all one_of scanned;
}
  where
    all : (a : Action) → ((m : Member) → IsMember s m → action_of s.whole.now.flat m.whole ≡ a → ReadsCommitted s e m) → Condition7At (program_of s) (committed_of s) e.names.now (step_of s) (Of a)
    all a each v w read in_a late sees =
        let (m, is_m, same) = committed_member s a stage present in_a in
        let own : action_of s.own.now.flat m.own ≡ a = sym is_m.same ∙ same in
        let not_listed : Contains e.ids.keys (id_of s m) → ⊥ = λ listed. late (record { action = in_a.action; member = subst (λ (x : Action). Contains e.names.now (Id x.id)) own ((earlier.ids (id_of s m)).0 listed) }) in
        let both = each m is_m same not_listed in
        elim sees [
          | inl here ↦ both.own v w (subst (λ (x : Action). IsRead v (Of x)) (sym own) read) (subst (λ (x : Action). Sees (exec s.own.now) v (Of x) w) (sym own) here)
          | inr there ↦ both.whole v w (subst (λ (x : Action). IsRead v (Of x)) (sym same) read) (subst (λ (x : Action). Sees (committed_of s) v (Of x) w) (sym same) there)
        ]

    one_of : (m : Member) → IsMember s m → Condition7At (program_of s) (committed_of s) e.names.now (step_of s) (Of (action_of s.whole.now.flat m.whole)) → ReadsCommitted s e m
    one_of m is_m meets late = record {
      own = λ v w read sees. meets v w (subst (λ (x : Action). IsRead v (Of x)) (sym is_m.same) read) (member_committed s m stage is_m) not_early (inl (subst (λ (x : Action). Sees (exec s.own.now) v (Of x) w) (sym is_m.same) sees));
      whole = λ v w read sees. meets v w read (member_committed s m stage is_m) not_early (inr sees);
    }
      where
        not_early : IsIn (program_of s) (committed_of s) e.names.now (Of (action_of s.whole.now.flat m.whole)) → ⊥
        not_early early = late ((earlier.ids (id_of s m)).1 (subst (λ (x : Action). Contains e.names.now (Id x.id)) is_m.same early.member))
