-- Marks that are set in a resolvent.
use Rattle.std.proofs.Common.{◌≡◌, ◌≢◌, ℕ, ◌+◌, ◌-◌, ◌*◌, ◌≤◌, ◌<◌, inl, inr, List, [], ◌∷◌, ◌++◌, Bool, true, false, length, set, sym, ◌∙◌, ap, subst, arith}
use Rattle.std.specs.Vec.{vec_capacity}
use Rattle.std.proofs.lemmas.List.{length-set, length-drop}
use Rattle.clause_pool.specs.PoolValue.{IsIn}
use Rattle.clause_pool.proofs.Chains.{length-le_NoneTwice}
use Rattle.literals.specs.Literal.{opposite_of, variable_of}
use Rattle.literals.specs.Propagation.{IsFalseIn}
use Rattle.literals.proofs.Opposites.{opposite-opposite, opposite-below, opposite-variable}
use Rattle.trail.specs.Steps.{TrailValue, literals_of, level_of, level_at, is_decision}
use Rattle.trail.specs.declared.step.Step.{Step}
use Rattle.trail.proofs.Lookup.{variable_known}
use Rattle.conflict_analysis.specs.Marks.{mark_at, newest_of, one_if, pending_in, oldest_steps, AreMarks}
use Rattle.conflict_analysis.specs.Resolvents.{IsResolvent, left_of}
use Rattle.conflict_analysis.specs.declared.resolvent.Resolvent.{Resolvent}
use Rattle.conflict_analysis.proofs.Newest.{bool_cases, true_not_false, newest_level, level_newest, pending_on, pending_end}
use Rattle.conflict_analysis.proofs.Left.{sound_left, level_in_left}
use Rattle.conflict_analysis.proofs.Marking.{AreMarks-newest, AreMarks-earlier}

pub one_if_small : (b : Bool) → one_if b ≤ 1
one_if_small true = omega arith
one_if_small false = omega arith

pub pending_few : (marks : List Bool) (steps : List Step) → pending_in marks steps ≤ length steps
pending_few marks [] = omega arith
pending_few marks (s ∷ older) = elim (bool_cases (is_decision s.reason)) [
  | inl is ↦ omega (arith, pending_end marks s older is, one_if_small (mark_at marks (opposite_of s.literal)))
  | inr not_one ↦ omega (arith, pending_on marks s older not_one, one_if_small (mark_at marks (opposite_of s.literal)), pending_few marks older)
]

-- a literal that is false in the steps that are left is one of the trail's
pub literal_known : (r : Resolvent) (trail : TrailValue) (l : ℕ) → IsResolvent r trail → IsFalseIn (literals_of (left_of r trail)) l → l < length r.marks.items
literal_known r trail l is is_false =
    let opposite : opposite_of l < 2 * trail.variables = variable_known trail.variables (left_of r trail) (opposite_of l) is_false (sound_left trail r.place is.sound is.within) in
    subst (λ n. l < n) (sym is.marks_fit) (subst (λ x. x < 2 * trail.variables) (opposite-opposite l) (opposite-below (opposite_of l) trail.variables opposite))

-- its level is the highest exactly where it became false with the last decision or after it
pub level_of_false : (r : Resolvent) (trail : TrailValue) (l : ℕ) → IsResolvent r trail → IsFalseIn (literals_of (left_of r trail)) l → level_at trail.steps (variable_of l) ≡ level_at (left_of r trail) (variable_of (opposite_of l))
level_of_false r trail l is is_false =
    ap (level_at trail.steps) (sym (opposite-variable l)) ∙ level_in_left trail r.place (opposite_of l) is.sound is.within is_false

pub is_newest : (r : Resolvent) (trail : TrailValue) (l : ℕ) → IsResolvent r trail → IsFalseIn (literals_of (left_of r trail)) l → level_at trail.steps (variable_of l) ≡ level_of trail.steps → IsIn (opposite_of l) (newest_of (left_of r trail))
is_newest r trail l is is_false e =
    level_newest trail.variables (left_of r trail) (opposite_of l) (sound_left trail r.place is.sound is.within) is_false (sym (level_of_false r trail l is is_false) ∙ e ∙ sym is.newest)

pub not_newest : (r : Resolvent) (trail : TrailValue) (l : ℕ) → IsResolvent r trail → IsFalseIn (literals_of (left_of r trail)) l → level_at trail.steps (variable_of l) ≢ level_of trail.steps → IsIn (opposite_of l) (newest_of (left_of r trail)) → ⊥
not_newest r trail l is is_false ne i =
    ne (level_of_false r trail l is is_false ∙ newest_level trail.variables (left_of r trail) (opposite_of l) (sound_left trail r.place is.sound is.within) i ∙ is.newest)

pub left_same : (r new : Resolvent) (trail : TrailValue) → new.place ≡ r.place → left_of r trail ≡ left_of new trail
left_same r new trail e = ap (λ n. oldest_steps n trail.steps) (sym e)

pub marked_newest : (r new : Resolvent) (trail : TrailValue) (l : ℕ) → IsResolvent r trail → IsFalseIn (literals_of (left_of r trail)) l → mark_at r.marks.items l ≡ false → level_at trail.steps (variable_of l) ≡ level_of trail.steps → new.marks.items ≡ set r.marks.items l true → new.learned.items ≡ r.learned.items → vec_capacity new.learned ≡ vec_capacity r.learned → new.pending ≡ r.pending + 1 → new.place ≡ r.place → IsResolvent new trail
marked_newest r new trail l is is_false off e marks learned capacity pending place =
    let known = literal_known r trail l is is_false in
    let sound = sound_left trail r.place is.sound is.within in
    let a = AreMarks-newest trail.variables r.marks.items (left_of r trail) is.earlier r.pending l sound is.marks known off (is_newest r trail l is is_false e) in
    let b = subst (λ ms. AreMarks ms (left_of r trail) is.earlier (r.pending + 1)) (sym marks) a in
    let c = subst (λ n. AreMarks new.marks.items (left_of r trail) is.earlier n) (sym pending) b in
    record {
      sound = is.sound;
      within = subst (λ n. n ≤ length trail.steps) (sym place) is.within;
      newest = ap level_of (sym (left_same r new trail place)) ∙ is.newest;
      marks_fit = ap length marks ∙ length-set r.marks.items l true ∙ is.marks_fit;
      free = is.free;
      earlier = is.earlier;
      learned = learned ∙ is.learned;
      room = subst (λ n. 2 * trail.variables < n) (sym capacity) is.room;
      marks = subst (λ ys. AreMarks new.marks.items ys is.earlier new.pending) (left_same r new trail place) c;
    }

pub marked_earlier : (r new : Resolvent) (trail : TrailValue) (l : ℕ) → IsResolvent r trail → IsFalseIn (literals_of (left_of r trail)) l → mark_at r.marks.items l ≡ false → level_at trail.steps (variable_of l) ≢ level_of trail.steps → new.marks.items ≡ set r.marks.items l true → new.learned.items ≡ r.learned.items ++ l ∷ [] → vec_capacity new.learned ≡ vec_capacity r.learned → new.pending ≡ r.pending → new.place ≡ r.place → IsResolvent new trail
marked_earlier r new trail l is is_false off ne marks learned capacity pending place =
    let known = literal_known r trail l is is_false in
    let a = AreMarks-earlier r.marks.items (left_of r trail) is.earlier r.pending l is.marks known off is_false (not_newest r trail l is is_false ne) in
    let b = subst (λ ms. AreMarks ms (left_of r trail) (is.earlier ++ l ∷ []) r.pending) (sym marks) a in
    let c = subst (λ n. AreMarks new.marks.items (left_of r trail) (is.earlier ++ l ∷ []) n) (sym pending) b in
    record {
      sound = is.sound;
      within = subst (λ n. n ≤ length trail.steps) (sym place) is.within;
      newest = ap level_of (sym (left_same r new trail place)) ∙ is.newest;
      marks_fit = ap length marks ∙ length-set r.marks.items l true ∙ is.marks_fit;
      free = is.free;
      earlier = is.earlier ++ l ∷ [];
      learned = learned ∙ ap (λ ys. ys ++ l ∷ []) is.learned;
      room = subst (λ n. 2 * trail.variables < n) (sym capacity) is.room;
      marks = subst (λ ys. AreMarks new.marks.items ys (is.earlier ++ l ∷ []) new.pending) (left_same r new trail place) c;
    }

-- there is room for a literal that isn't marked
pub room_for_one : (r : Resolvent) (trail : TrailValue) (l : ℕ) → IsResolvent r trail → IsFalseIn (literals_of (left_of r trail)) l → mark_at r.marks.items l ≡ false → length r.learned.items < vec_capacity r.learned
room_for_one r trail l is is_false off =
    let out : IsIn l is.earlier → ⊥ = λ i. true_not_false (mark_at r.marks.items l) (is.marks.marked l i) off in
    let every : (k : ℕ) → IsIn k (l ∷ is.earlier) → k < 2 * trail.variables = λ k i. elim i [
      | inl same ↦ subst (λ n. k < n) is.marks_fit (subst (λ x. x < length r.marks.items) (sym same) (literal_known r trail l is is_false))
      | inr later ↦ subst (λ n. k < n) is.marks_fit (literal_known r trail k is (is.marks.all_false k (is.marks.marked k later)))
    ] in
    omega (arith, length-le_NoneTwice (l ∷ is.earlier) (2 * trail.variables) (out, is.marks.once) every, ap length is.learned, is.room)

-- the count can't wrap
pub pending_fits : (r : Resolvent) (trail : TrailValue) → IsResolvent r trail → r.pending ≤ trail.variables
pending_fits r trail is =
    omega (arith, is.marks.is_pending, pending_few r.marks.items (left_of r trail), length-drop (length trail.steps - r.place) trail.steps, is.sound.few_steps)
