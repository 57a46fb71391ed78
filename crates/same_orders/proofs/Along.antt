-- Happens-before along the committed actions of a thread.
use Rattle.std.proofs.Common.{◌≡◌, ◌<◌, ◌≤◌, ◌+◌, ◌↔◌, ℕ, List, Option, Some, Bool, true, false, IsTrue, slice_get, length, arith, refl, sym, ◌∙◌, ap, subst, inl, inr}
use Rattle.std.proofs.lemmas.Bool.{cases_eq, cases_lt}
use Rattle.action_orders.specs.declared.action.Action.{Action}
use Rattle.action_orders.specs.Actions.{Of}
use Rattle.orders.specs.declared.answers.Orders.{Orders}
use Rattle.orders.specs.Made.{IsMade}
use Rattle.orders.specs.Tables.{action_of}
use Rattle.orders.proofs.Places.{one}
use Rattle.orders.proofs.Reaching.{at_or_before, path_after, of_or}
use Rattle.orders.proofs.Said.{exec, prog, at_flat, not_true}
use Rattle.step_members.specs.declared.stage.Stage.{Stage}
use Rattle.step_members.specs.declared.table.Member.{Member}
use Rattle.step_members.specs.Members.{IsMember}
use Rattle.step_members.specs.Stages.{IsStage}
use Rattle.same_orders.specs.Lines.{IsGreatestBelow, IsLeastFrom}
use Rattle.same_orders.specs.Happening.{AreInRow, Happens, HappensAlikeIn, HappensBeforeLater, HappensBeforeNoEarlier, IsFirstAfter, thread_at}

-- what happens before an action happens before each later one of its thread
later_too : (o : Orders) (i k l : ℕ) → IsMade o → k < length o.flat.entries.items → l < length o.flat.entries.items → thread_at o k ≡ thread_at o l → k ≤ l → Happens o i k → Happens o i l
later_too o i k l made in_k in_l same order path =
    path_after (prog o) (exec o) (Of (action_of o.flat i)) (Of (action_of o.flat k)) (Of (action_of o.flat l)) path
    (of_or (action_of o.flat k) (action_of o.flat l) _ (at_or_before (prog o) (exec o) k l (action_of o.flat k) (action_of o.flat l) made.ordered (at_flat o k made in_k) (at_flat o l made in_l) same order))

-- ---- In the step's execution

pub from_here : (s : Stage) (ms : List Member) (i k j : ℕ) (x m : Member) → IsStage s → AreInRow s ms → slice_get ms k ≡ Some x → Happens s.own.now i x.own → k ≤ j → slice_get ms j ≡ Some m → Happens s.own.now i m.own
from_here s ms i k j x m stage row at_k happens order at_j = elim (cases_eq j k) [
  | inl eq ↦ subst (λ (y : Member). Happens s.own.now i y.own) (one (sym at_k ∙ ap (slice_get ms) (sym eq) ∙ at_j)) happens
  | inr apart ↦ (let rise = row.rising k j x m (omega arith) at_k at_j in
      later_too s.own.now i x.own m.own stage.own (row.each k x at_k).in_own (row.each j m at_j).in_own (row.alike k j x m at_k at_j) (omega arith) happens)
]

pub up_to_here : (s : Stage) (ms : List Member) (i k j : ℕ) (x m : Member) → IsStage s → AreInRow s ms → slice_get ms k ≡ Some x → (Happens s.own.now i x.own → ⊥) → j < k + 1 → slice_get ms j ≡ Some m → Happens s.own.now i m.own → ⊥
up_to_here s ms i k j x m stage row at_k never order at_j happens = never (from_here s ms i j k m x stage row at_j happens (omega arith) at_k)

-- ---- In the committed execution

whole_threads : (s : Stage) (m o : Member) → IsMember s m → IsMember s o → thread_at s.own.now m.own ≡ thread_at s.own.now o.own → thread_at s.whole.now m.whole ≡ thread_at s.whole.now o.whole
whole_threads s m o is_m is_o same = ap (λ (a : Action). a.thread) is_m.same ∙ same ∙ sym (ap (λ (a : Action). a.thread) is_o.same)

-- of two actions of a row the later one in the committed execution
whole_later : (s : Stage) (ms : List Member) (i j k x : ℕ) (m o : Member) → IsStage s → AreInRow s ms → slice_get ms j ≡ Some m → slice_get ms k ≡ Some o → m.whole ≡ x → x ≤ o.whole → Happens s.whole.now i x → Happens s.whole.now i o.whole
whole_later s ms i j k x m o stage row at_j at_k is order happens =
    let is_m = row.each j m at_j in
    let is_o = row.each k o at_k in
    later_too s.whole.now i m.whole o.whole stage.whole is_m.in_whole is_o.in_whole (whole_threads s m o is_m is_o (row.alike j k m o at_j at_k)) (omega arith) (subst (Happens s.whole.now i) (sym is) happens)

pub least_inside : (s : Stage) (ms : List Member) (k x : ℕ) (o : Option ℕ) → AreInRow s ms → IsLeastFrom ms k o → o ≡ Some x → x < length s.whole.now.flat.entries.items
least_inside s ms k x o row least is = let (j, m, from, at, same) = least.found x is in let inside = (row.each j m at).in_whole in omega arith

pub greatest_inside : (s : Stage) (ms : List Member) (k x : ℕ) (o : Option ℕ) → AreInRow s ms → IsGreatestBelow ms k o → o ≡ Some x → x < length s.whole.now.flat.entries.items
greatest_inside s ms k x o row greatest is = let (j, m, below, at, same) = greatest.found x is in let inside = (row.each j m at).in_whole in omega arith

pub later_exactly : (s : Stage) (ms : List Member) (i k x : ℕ) (o : Option ℕ) (b : Bool) → IsStage s → AreInRow s ms → IsLeastFrom ms k o → o ≡ Some x → (IsTrue b ↔ Happens s.whole.now i x) → IsTrue b ↔ HappensBeforeLater s ms i k
later_exactly s ms i k x o b stage row least is iff =
    let (j, m, from, at, same) = least.found x is in (
      λ h j' m' from' at'. (let (x', is', order) = least.least j' m' from' at' in let eq : x ≡ x' = one (sym is ∙ is') in whole_later s ms i j j' x m m' stage row at at' same (omega arith) (iff.0 h)),
      λ all. iff.1 (subst (Happens s.whole.now i) same (all j m from at)),
    )

pub earlier_exactly : (s : Stage) (ms : List Member) (i k x : ℕ) (o : Option ℕ) (b : Bool) → IsStage s → AreInRow s ms → IsGreatestBelow ms k o → o ≡ Some x → (IsTrue b ↔ Happens s.whole.now i x) → (IsTrue b → ⊥) ↔ HappensBeforeNoEarlier s ms i k
earlier_exactly s ms i k x o b stage row greatest is iff =
    let (j, m, below, at, same) = greatest.found x is in (
      λ none j' m' below' at' happens. none (iff.1 (let (x', is', order) = greatest.greatest j' m' below' at' in let eq : x ≡ x' = one (sym is ∙ is') in
          subst (Happens s.whole.now i) same (whole_later s ms i j' j m'.whole m' m stage row at' at refl (omega arith) happens))),
      λ none h. none j m below at (subst (Happens s.whole.now i) (sym same) (iff.0 h)),
    )

-- ---- Both

pub unlike : (s : Stage) (ms : List Member) (a : Member) (k : ℕ) (b : Bool) → IsFirstAfter s ms a.own k → ((IsTrue b → ⊥) ↔ HappensBeforeNoEarlier s ms a.whole k) → b ≡ true → IsTrue false ↔ HappensAlikeIn s ms a
unlike s ms a k b first iff is = (
  λ never. absurd (not_true false refl never),
  λ alike. absurd (iff.1 (λ j m below at happens. first.before j m below at ((alike j m at).1 happens)) is),
)

pub alike_exactly : (s : Stage) (ms : List Member) (a : Member) (k : ℕ) (earlier b : Bool) → IsFirstAfter s ms a.own k → ((IsTrue earlier → ⊥) ↔ HappensBeforeNoEarlier s ms a.whole k) → earlier ≡ false →
    (IsTrue b ↔ HappensBeforeLater s ms a.whole k) → IsTrue b ↔ HappensAlikeIn s ms a
alike_exactly s ms a k earlier b first none not_earlier later = (to, λ alike. later.1 (λ j m from at. (alike j m at).0 (first.after j m from at)))
  where
    to : IsTrue b → HappensAlikeIn s ms a
    to h j m at = elim (cases_lt j k) [
      | inl below ↦ (λ own. absurd (first.before j m below at own), λ whole. absurd (none.0 (not_true earlier not_earlier) j m below at whole))
      | inr from ↦ (λ own. later.0 h j m from at, λ whole. first.after j m from at)
    ]
