-- The values that are stored, by notes.
use Rattle.std.proofs.Common.{◌≡◌, ◌↔◌, ℕ, ℤ, List, Option, Some, Bool, IsTrue, length, map, refl, sym, ◌∙◌, ap, subst}
use Rattle.program.proofs.Lists.{contains_at}
use Rattle.program.specs.declared.kind.Kind.{Kind}
use Rattle.program.specs.declared.kind.Kind.TheVariants.{Read, VolatileRead, Write, VolatileWrite}
use Rattle.action_orders.specs.declared.action.Action.{Action}
use Rattle.action_orders.specs.declared.action.Entry.{Entry}
use Rattle.action_orders.specs.declared.action.Note.{Note}
use Rattle.action_orders.specs.declared.action.Note.TheVariants as note
use Rattle.action_orders.specs.Execution.{HasNote}
use Rattle.action_orders.specs.Actions.{Of, Stores, entries}
use Rattle.action_orders.specs.Causality.{Condition1}
use Rattle.orders.specs.declared.answers.Orders.{Orders}
use Rattle.orders.specs.Made.{IsMade}
use Rattle.orders.specs.Tables.{action_of}
use Rattle.orders.proofs.Said.{exec, prog}
use Rattle.least_break.specs.Least.{IsScanned}
use Rattle.volatile_reads.proofs.Named.{one_note}
use Rattle.step_members.specs.declared.stage.Stage.{Stage}
use Rattle.step_members.specs.declared.table.Member.{Member}
use Rattle.step_members.specs.AtActions.{Condition4At, IsLeastAction}
use Rattle.step_members.specs.Members.{AreMembers, HoldsAt, IsMember, id_of}
use Rattle.step_members.specs.Stages.{IsStage, program_of, committed_of, step_of}
use Rattle.step_members.proofs.Membership.{committed_member, member_committed}
use Rattle.step_members.proofs.Parts.{IsNotedAt, entry_fits}
use Rattle.step_members.proofs.Walking.{least_of_members}
use Rattle.same_notes.specs.Notes.{StoresAlike, are_stored_alike}

-- the note of the action at a place fits its kind
pub note_fits : (o : Orders) (i : ℕ) (m : Note) → IsMade o → IsNotedAt o i m → HasNote (action_of o.flat i).kind m
note_fits o i m made at = let (t, fits) = entry_fits (exec o) i (record { action = action_of o.flat i; note = m }) made.ordered.shape at in fits.note

-- what is stored is what the note says
stores_noted : (o : Orders) (i : ℕ) (m : Note) (value : ℤ) → IsMade o → IsNotedAt o i m → Stores (exec o) (Of (action_of o.flat i)) value ↔ (m ≡ note.Stores value)
stores_noted o i m value made at = (
  λ there. one_note (prog o) (exec o) i (record { action = action_of o.flat i; note = m }) (note.Stores value) made.ordered at there,
  λ is. contains_at (entries (exec o)) i _ (at ∙ ap (λ (x : Note). Some (let n : Entry = record { action = action_of o.flat i; note = x } in n)) is),
)

-- of two notes of one kind either both store or none
data AreStored (x y : Note) : Type 0 where
  both : (a b : ℤ) → x ≡ note.Stores a → y ≡ note.Stores b → AreStored x y
  none : ((a : ℤ) → x ≡ note.Stores a → ⊥) → ((b : ℤ) → y ≡ note.Stores b → ⊥) → AreStored x y

sees_stores : (k : Kind) (w : Option ℕ) (a : ℤ) → HasNote k (note.Sees w) → HasNote k (note.Stores a) → ⊥
sees_stores Read w a h g = g
sees_stores VolatileRead w a h g = g
sees_stores _ w a h g = h

nothing_stores : (k : Kind) (a : ℤ) → HasNote k note.Nothing → HasNote k (note.Stores a) → ⊥
nothing_stores Write a h g = h
nothing_stores VolatileWrite a h g = h
nothing_stores _ a h g = g

are_stored : (k : Kind) (x y : Note) → HasNote k x → HasNote k y → AreStored x y
are_stored k (note.Stores a) (note.Stores b) h g = both a b refl refl
are_stored k (note.Stores a) (note.Sees w) h g = absurd (sees_stores k w a g h)
are_stored k (note.Stores a) note.Nothing h g = absurd (nothing_stores k a g h)
are_stored k (note.Sees w) (note.Stores b) h g = absurd (sees_stores k w b h g)
are_stored k note.Nothing (note.Stores b) h g = absurd (nothing_stores k b h g)
are_stored k (note.Sees w) (note.Sees u) h g = none (λ c e. cc) (λ c e. cc)
are_stored k (note.Sees w) note.Nothing h g = none (λ c e. cc) (λ c e. cc)
are_stored k note.Nothing (note.Sees u) h g = none (λ c e. cc) (λ c e. cc)
are_stored k note.Nothing note.Nothing h g = none (λ c e. cc) (λ c e. cc)

alike_none : (x y : Note) → ((a : ℤ) → x ≡ note.Stores a → ⊥) → are_stored_alike x y
alike_none (note.Stores a) y never = absurd (never a refl)
alike_none (note.Sees w) y never = tt
alike_none note.Nothing y never = tt

one_value : (a b : ℤ) → note.Stores a ≡ note.Stores b → a ≡ b
one_value a b e = cc

pub stored_exactly : (s : Stage) (m : Member) (x y : Note) (b : Bool) → IsStage s → IsMember s m → IsNotedAt s.whole.now m.whole x → IsNotedAt s.own.now m.own y → (IsTrue b ↔ are_stored_alike x y) → IsTrue b ↔ StoresAlike s m
stored_exactly s m x y b stage is_m at_x at_y iff =
    go (are_stored (action_of s.own.now.flat m.own).kind x y (subst (λ (a : Action). HasNote a.kind x) is_m.same (note_fits s.whole.now m.whole x stage.whole at_x)) (note_fits s.own.now m.own y stage.own at_y))
  where
    go : AreStored x y → IsTrue b ↔ StoresAlike s m
    go (both c d is_x is_y) = (
      λ fits value. (let same : x ≡ y = is_x ∙ ap note.Stores (subst (λ (n : Note). are_stored_alike n (note.Stores d)) is_x (subst (are_stored_alike x) is_y (iff.0 fits))) ∙ sym is_y in
          let own = stores_noted s.own.now m.own y value stage.own at_y in
          let whole = stores_noted s.whole.now m.whole x value stage.whole at_x in
          (λ h. whole.1 (same ∙ own.0 h), λ h. own.1 (sym same ∙ whole.0 h))),
      λ alike. iff.1 (let whole = (stores_noted s.whole.now m.whole x d stage.whole at_x).0 ((alike d).0 ((stores_noted s.own.now m.own y d stage.own at_y).1 is_y)) in
          subst (λ (n : Note). are_stored_alike n y) (sym is_x) (subst (are_stored_alike (note.Stores c)) (sym is_y) (one_value c d (sym is_x ∙ whole)))),
    )
    go (none no_x no_y) = (
      λ fits value. (
        λ h. absurd (no_y value ((stores_noted s.own.now m.own y value stage.own at_y).0 h)),
        λ h. absurd (no_x value ((stores_noted s.whole.now m.whole x value stage.whole at_x).0 h)),
      ),
      λ alike. iff.1 (alike_none x y no_x),
    )

-- ---- The condition

pub least_stored : (s : Stage) (ms : List Member) (result : Option ℕ) → IsStage s → Condition1 (program_of s) (committed_of s) (step_of s) → AreMembers s (length s.own.now.flat.entries.items) ms →
    IsScanned (HoldsAt ms (StoresAlike s)) (map (id_of s) ms) (length ms) result → IsLeastAction (Condition4At (program_of s) (committed_of s) (step_of s)) result
least_stored s ms result stage present are scanned = record {
  defaults = λ v value in_v. (λ h. h, λ h. h);
  least = least_of_members s (length s.own.now.flat.entries.items) ms (StoresAlike s) (Condition4At (program_of s) (committed_of s) (step_of s)) result are (λ m is_m. is_m.in_own) all one_of scanned;
}
  where
    all : (a : Action) → ((m : Member) → IsMember s m → action_of s.whole.now.flat m.whole ≡ a → StoresAlike s m) → Condition4At (program_of s) (committed_of s) (step_of s) (Of a)
    all a each value in_a =
        let (m, is_m, same) = committed_member s a stage present in_a in
        let alike = each m is_m same value in
        let own : action_of s.own.now.flat m.own ≡ a = sym is_m.same ∙ same in (
          λ h. subst (λ (x : Action). Stores (committed_of s) (Of x) value) same (alike.0 (subst (λ (x : Action). Stores (exec s.own.now) (Of x) value) (sym own) h)),
          λ h. subst (λ (x : Action). Stores (exec s.own.now) (Of x) value) own (alike.1 (subst (λ (x : Action). Stores (committed_of s) (Of x) value) (sym same) h)),
        )

    one_of : (m : Member) → IsMember s m → Condition4At (program_of s) (committed_of s) (step_of s) (Of (action_of s.whole.now.flat m.whole)) → StoresAlike s m
    one_of m is_m meets value =
        let both = meets value (member_committed s m stage is_m) in (
          λ h. both.0 (subst (λ (x : Action). Stores (exec s.own.now) (Of x) value) (sym is_m.same) h),
          λ h. subst (λ (x : Action). Stores (exec s.own.now) (Of x) value) is_m.same (both.1 h),
        )
