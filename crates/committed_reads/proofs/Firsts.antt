-- The sixth condition, by places.
use Rattle.std.proofs.Common.{◌≡◌, ◌<◌, ◌↔◌, ℕ, Option, Some, None, Bool, true, IsTrue, length, slice_index_or, refl, sym, ◌∙◌, ap, subst, Bor}
use Rattle.program.specs.Program.{Prog}
use Rattle.action_orders.specs.declared.action.Action.{Action}
use Rattle.action_orders.specs.declared.action.ActionOperand.{ActionOperand}
use Rattle.action_orders.specs.declared.action.ActionRef.{ActionRef}
use Rattle.action_orders.specs.declared.action.Entry.{Entry}
use Rattle.action_orders.specs.declared.action.Note.{Note}
use Rattle.action_orders.specs.declared.action.Note.TheVariants as note
use Rattle.action_orders.specs.Actions.{Act, Of, Var, IsAction, IsRead, Sees, name_of}
use Rattle.action_orders.specs.Causality.{IsIn}
use Rattle.action_orders.specs.HappensBefore.{HappensBefore}
use Rattle.orders.specs.Tables.{action_of}
use Rattle.orders.proofs.Places.{is_action}
use Rattle.orders.proofs.Said.{exec, prog, at_flat}
use Rattle.least_break.specs.Least.{IsScanned}
use Rattle.step_members.specs.declared.stage.Earlier.{Earlier}
use Rattle.step_members.specs.declared.stage.Stage.{Stage}
use Rattle.step_members.specs.AtActions.{Condition6At, IsLeastAction}
use Rattle.step_members.specs.Stages.{IsStage, program_of, committed_of, step_of}
use Rattle.step_members.proofs.Entries.{place_of_action, least_of_entries}
use Rattle.same_notes.proofs.Writes.{no_read, reads_noted}
use Rattle.happens_before_reads.specs.Sights.{seen_name}
use Rattle.happens_before_reads.proofs.Naming.{one_read}
use Rattle.happens_before_reads.proofs.Seeing.{IsNotedAt, is_seen, noted_at, one_seen, name_seen, no_name}
use Rattle.writes_between.specs.Before.{IsBefore}
use Rattle.committed_reads.specs.Early.{IsEarlyAt, ReadsFirst, SeesFirst, act_at}

-- ---- One place

-- only a read's note names a write
pub named_sees : (m : Note) (operand : ActionOperand) (ref : ActionRef) → seen_name m operand ≡ Some ref → (p : Option ℕ) × (m ≡ note.Sees p)
named_sees (note.Sees p) operand ref is = (p, refl)
named_sees (note.Stores a) operand ref is = cc
named_sees note.Nothing operand ref is = cc

pub sees_nothing : (s : Stage) (i : ℕ) (x : Bor Entry) (name : Option ActionRef) → IsStage s → i < length s.own.now.flat.entries.items → x ≡ slice_index_or s.own.now.flat.entries.items i x → name ≡ seen_name x.now.note x.now.action.operand → name ≡ None → IsTrue true ↔ SeesFirst s i
sees_nothing s i x name stage within is names none =
    let (at, same) = noted_at s.own.now i x stage.own within is in
    let empty : seen_name x.now.note (action_of s.own.now.flat i).operand ≡ None = ap (λ (a : Action). seen_name x.now.note a.operand) (sym same) ∙ sym names ∙ none in
    (λ _ v w read sees. absurd (no_name w (seen_name x.now.note (action_of s.own.now.flat i).operand) empty (name_seen s.own.now i x.now.note v w stage.own at sees)), λ _. refl)

pub sees_exactly : (s : Stage) (i : ℕ) (x : Bor Entry) (name : Option ActionRef) (ref : ActionRef) (b : Bool) → IsStage s → i < length s.own.now.flat.entries.items → x ≡ slice_index_or s.own.now.flat.entries.items i x →
    name ≡ seen_name x.now.note x.now.action.operand → name ≡ Some ref → ((y : Act) → IsAction (prog s.own.now) (exec s.own.now) y → name_of y ≡ ref → IsTrue b ↔ IsBefore s.own.now y i) → IsTrue b ↔ SeesFirst s i
sees_exactly s i x name ref b stage within is names some decides =
    let (at, same) = noted_at s.own.now i x stage.own within is in
    let found : seen_name x.now.note (action_of s.own.now.flat i).operand ≡ Some ref = ap (λ (a : Action). seen_name x.now.note a.operand) (sym same) ∙ sym names ∙ some in
    let (p, is_p) = named_sees x.now.note (action_of s.own.now.flat i).operand ref found in
    let (v, read) = reads_noted s.own.now i p stage.own (subst (IsNotedAt s.own.now i) is_p at) in
    let seen = is_seen s.own.now i x.now.note v ref stage.own within at read found in
    let iff = decides seen.write seen.action seen.is_named in (
      λ fits u w read_u sees. (let same_v : u ≡ v = one_read u v (action_of s.own.now.flat i) read_u read in
          let same_w : w ≡ seen.write = one_seen s.own.now i x.now.note v w seen.write stage.own at (subst (λ (y : Var). Sees (exec s.own.now) y (act_at s i) w) same_v sees) seen.sees in
          subst (λ (y : Act). IsBefore s.own.now y i) (sym same_w) (iff.0 fits)),
      λ all. iff.1 (all v seen.write read seen.sees),
    )

pub early_reads : (s : Stage) (e : Earlier) (i : ℕ) (b : Bool) → (IsTrue b ↔ IsEarlyAt s e i) → IsTrue b → IsTrue true ↔ ReadsFirst s e i
early_reads s e i b iff is = (λ _ late. absurd (late (iff.0 is)), λ _. refl)

pub late_reads : (s : Stage) (e : Earlier) (i : ℕ) (early b : Bool) → (IsTrue early ↔ IsEarlyAt s e i) → (IsTrue early → ⊥) → (IsTrue b ↔ SeesFirst s i) → IsTrue b ↔ ReadsFirst s e i
late_reads s e i early b iff late sees = (λ fits _. sees.0 fits, λ all. sees.1 (all (λ is. late (iff.1 is))))

-- ---- The condition

pub least_late : (s : Stage) (e : Earlier) (result : Option ℕ) → IsStage s → IsScanned (ReadsFirst s e) s.own.now.flat.ids.keys (length s.own.now.flat.entries.items) result → IsLeastAction (Condition6At (program_of s) (committed_of s) e.names.now (step_of s)) result
least_late s e result stage scanned = record {
  defaults = λ u v w read. absurd (no_read v u read);
  least = least_of_entries s.own.now (ReadsFirst s e) (Condition6At (program_of s) (committed_of s) e.names.now (step_of s)) result stage.own all one_of scanned;
}
  where
    all : (a : Action) → ((i : ℕ) → i < length s.own.now.flat.entries.items → action_of s.own.now.flat i ≡ a → ReadsFirst s e i) → Condition6At (program_of s) (committed_of s) e.names.now (step_of s) (Of a)
    all a each v w read action late sees =
        let (i, within, same) = place_of_action s.own.now a stage.own action in
        let back = sym same in
        let path = each i within same (λ early. late (subst (λ (z : Action). IsIn (program_of s) (committed_of s) e.names.now (Of z)) same early)) v w (subst (λ (z : Action). IsRead v (Of z)) back read) (subst (λ (z : Action). Sees (exec s.own.now) v (Of z) w) back sees) in
        subst (λ (p : Prog). HappensBefore p (exec s.own.now) w (Of a)) stage.program (subst (λ (z : Action). HappensBefore (prog s.own.now) (exec s.own.now) w (Of z)) same path)

    one_of : (i : ℕ) → i < length s.own.now.flat.entries.items → Condition6At (program_of s) (committed_of s) e.names.now (step_of s) (act_at s i) → ReadsFirst s e i
    one_of i within meets late v w read sees =
        subst (λ (p : Prog). HappensBefore p (exec s.own.now) w (act_at s i)) (sym stage.program)
        (meets v w read (is_action (program_of s) (exec s.own.now) i (action_of s.own.now.flat i) (at_flat s.own.now i stage.own within)) late sees)
