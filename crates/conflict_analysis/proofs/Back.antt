-- A step back along the trail.
use Rattle.std.proofs.Common.{◌≡◌, ◌≢◌, ℕ, ◌+◌, ◌-◌, ◌*◌, ◌≤◌, ◌<◌, ◌⊎◌, inl, inr, List, [], ◌∷◌, ◌++◌, Option, Bool, true, false, cond, map, length, drop, set, refl, sym, ◌∙◌, ap, subst, arith}
use Rattle.std.specs.Vec.{vec_capacity}
use Rattle.std.proofs.lemmas.Bool.Decides.{eqb_tells}
use Rattle.std.proofs.lemmas.List.{length-set, append_assoc}
use Rattle.clause_pool.specs.PoolValue.{PoolValue, IsIn}
use Rattle.literals.specs.Literal.{opposite_of, variable_of}
use Rattle.literals.specs.Propagation.{IsUnitBut}
use Rattle.literals.proofs.Members.{map-IsIn}
use Rattle.literals.proofs.Opposites.{opposite-opposite}
use Rattle.trail.specs.Steps.{TrailValue, IsSoundTrail, IsSoundFor, IsStepAt, literals_of, decisions_of, level_of, reason_at, is_decision}
use Rattle.trail.specs.declared.step.Step.{Step}
use Rattle.trail.specs.declared.step.Reason.TheVariants.{Decisions}
use Rattle.conflict_analysis.specs.declared.hint.Hint.TheVariants.{Excluded}
use Rattle.propagation.specs.Watches.{HasReason, HaveReasons}
use Rattle.propagation.proofs.Consistency.{among}
use Rattle.conflict_analysis.specs.Hints.{decisions_before, clause_of_hint}
use Rattle.conflict_analysis.specs.Marks.{mark_at, IsMarked, newest_of, one_if, pending_in, oldest_steps, AreMarks, EndsWith}
use Rattle.conflict_analysis.specs.Resolvents.{IsIdle, IsResolvent, IsMorePending, MarksReason, KeepsEnd, AddsHint, left_of}
use Rattle.conflict_analysis.specs.declared.hint.Hint.{Hint}
use Rattle.conflict_analysis.specs.declared.resolvent.Resolvent.{Resolvent}
use Rattle.conflict_analysis.proofs.Following.{ends_skip, ends_resolve}
use Rattle.conflict_analysis.proofs.Newest.{bool_cases, true_not_false, other_variable, rise_on, rise_end, pending_end, pending_on}
use Rattle.conflict_analysis.proofs.Left.{left_split, left_more, sound_left, split_left}
use Rattle.conflict_analysis.proofs.Marking.{AreMarks-skip, AreMarks-unmark, marked_still}
use Rattle.conflict_analysis.proofs.Resolving.{pending_few, one_if_small}

-- the decisions before a step
pub decisions_before_step : (n : ℕ) (newer older : List Step) (s : Step) → IsSoundFor n (newer ++ s ∷ older) → decisions_before (newer ++ s ∷ older) s.literal ≡ decisions_of older
decisions_before_step n [] older s sound = elim (eqb_tells s.literal s.literal) [
  | inl same ↦ ap (λ b. cond b (decisions_of older) (decisions_before older s.literal)) same.0
  | inr differ ↦ absurd (differ.1 refl)
]
decisions_before_step n (t ∷ newer) older s sound = elim (eqb_tells t.literal s.literal) [
  | inl same ↦ absurd (sound.1.not_true (subst (λ x. IsIn x (literals_of (newer ++ s ∷ older))) (sym same.1) (among (newer ++ s ∷ older) newer (s ∷ older) s.literal refl (inl refl))))
  | inr differ ↦ ap (λ b. cond b (decisions_of (newer ++ s ∷ older)) (decisions_before (newer ++ s ∷ older) s.literal)) differ.0 ∙ decisions_before_step n newer older s sound.2
]

-- the reason of a step
pub reason_of_step : (n : ℕ) (newer older : List Step) (s : Step) → IsSoundFor n (newer ++ s ∷ older) → reason_at (newer ++ s ∷ older) (variable_of s.literal) ≡ s.reason
reason_of_step n [] older s sound = elim (eqb_tells (variable_of s.literal) (variable_of s.literal)) [
  | inl same ↦ ap (λ b. cond b s.reason (reason_at older (variable_of s.literal))) same.0
  | inr differ ↦ absurd (differ.1 refl)
]
reason_of_step n (t ∷ newer) older s sound = elim (eqb_tells (variable_of t.literal) (variable_of s.literal)) [
  | inl same ↦ absurd (other_variable (literals_of (newer ++ s ∷ older)) t.literal s.literal sound.1 (among (newer ++ s ∷ older) newer (s ∷ older) s.literal refl (inl refl)) same.1)
  | inr differ ↦ ap (λ b. cond b t.reason (reason_at (newer ++ s ∷ older) (variable_of s.literal))) differ.0 ∙ reason_of_step n newer older s sound.2
]

pub decisions_among : (steps : List Step) (x : ℕ) → IsIn x (decisions_of steps) → IsIn x (literals_of steps)
decisions_among [] x i = i
decisions_among (s ∷ older) x i = elim (bool_cases (is_decision s.reason)) [
  | inl is ↦ elim (subst (IsIn x) (ap (λ b. cond b (s.literal ∷ decisions_of older) (decisions_of older)) is) i) [ inl here ↦ inl here | inr later ↦ inr (decisions_among older x later) ]
  | inr not_one ↦ inr (decisions_among older x (subst (IsIn x) (ap (λ b. cond b (s.literal ∷ decisions_of older) (decisions_of older)) not_one) i))
]

-- a decision of one step more
pub decisions_more : (s : Step) (older : List Step) (x : ℕ) → IsIn x (decisions_of (s ∷ older)) → ((x ≡ s.literal) × (is_decision s.reason ≡ true)) ⊎ IsIn x (decisions_of older)
decisions_more s older x i = elim (bool_cases (is_decision s.reason)) [
  | inl is ↦ elim (subst (IsIn x) (ap (λ b. cond b (s.literal ∷ decisions_of older) (decisions_of older)) is) i) [ inl here ↦ inl (here, is) | inr later ↦ inr later ]
  | inr not_one ↦ inr (subst (IsIn x) (ap (λ b. cond b (s.literal ∷ decisions_of older) (decisions_of older)) not_one) i)
]

-- the step in a place, with the steps before it
pub older_at : (steps : List Step) (place : ℕ) (s : Step) → (at : IsStepAt steps place s) → oldest_steps place steps ≡ at.older
older_at steps place s at = left_split steps (at.newer ++ s ∷ []) at.older place (at.splits ∙ sym (append_assoc at.newer (s ∷ []) at.older)) at.count

-- the decisions that exclude a literal's opposite, as its reason
pub excluded : (r new : Resolvent) (pool : PoolValue) (trail : TrailValue) (s : Step) → IsSoundTrail trail → IsStepAt trail.steps r.place s → s.reason ≡ Decisions → ((x : ℕ) → IsMarked r.marks.items x → IsMarked new.marks.items x) → ((x : ℕ) → IsIn x (decisions_of (left_of r trail)) → IsMarked new.marks.items (opposite_of x)) → MarksReason r new pool trail s.literal (Excluded s.literal)
excluded r new pool trail s sound at reason kept marked =
    let whole = subst (IsSoundFor trail.variables) at.splits sound.steps in
    let left : left_of r trail ≡ at.older = older_at trail.steps r.place s at in
    let before : decisions_before trail.steps s.literal ≡ decisions_of (left_of r trail) = ap (λ ys. decisions_before ys s.literal) at.splits ∙ decisions_before_step trail.variables at.newer at.older s whole ∙ ap decisions_of (sym left) in
    let found : (x : ℕ) → IsIn x (s.literal ∷ map opposite_of (decisions_before trail.steps s.literal)) → x ≢ s.literal → (d : ℕ) × IsIn d (decisions_of (left_of r trail)) × (x ≡ opposite_of d) = λ x i ne. elim i [
      | inl here ↦ absurd (ne here)
      | inr later ↦ map-IsIn opposite_of x (decisions_of (left_of r trail)) (subst (λ ds. IsIn x (map opposite_of ds)) before later)
    ] in
    record {
      known = (among trail.steps at.newer (s ∷ at.older) s.literal at.splits (inl refl), ap (λ ys. reason_at ys (variable_of s.literal)) at.splits ∙ reason_of_step trail.variables at.newer at.older s whole ∙ reason);
      unit = record {
        member = inl refl;
        others_false = λ x i ne. (let d = found x i ne in
            subst (λ y. IsIn y (literals_of (left_of r trail))) (sym (ap opposite_of d.2 ∙ opposite-opposite d.0)) (decisions_among (left_of r trail) d.0 d.1));
      };
      marked = λ x i ne. (let d = found x i ne in subst (IsMarked new.marks.items) (sym d.2) (marked d.0 d.1));
      kept = kept;
    }

-- the newest step that is left
pub record IsHead (r : Resolvent) (trail : TrailValue) (s : Step) (older : List Step) : Type 0 where
  pub left : left_of r trail ≡ s ∷ older
  pub sound : IsSoundFor trail.variables (s ∷ older)
  pub not_decided : is_decision s.reason ≡ false

pub not_last : (r : Resolvent) (trail : TrailValue) (s : Step) (older : List Step) → IsResolvent r trail → IsMorePending r trail → left_of r trail ≡ s ∷ older → is_decision s.reason ≡ false
not_last r trail s older is more left = elim (bool_cases (is_decision s.reason)) [
  | inr not_one ↦ not_one
  | inl one ↦
      (let level : level_of (s ∷ older) ≡ level_of trail.steps = ap level_of (sym left) ∙ is.newest in
      let two : 1 < r.pending = more.two (omega (arith, level, rise_end s.reason one)) in
      let count : r.pending ≡ pending_in r.marks.items (s ∷ older) = is.marks.is_pending ∙ ap (pending_in r.marks.items) left in
      absurd (omega (arith, two, count, pending_end r.marks.items s older one, one_if_small (mark_at r.marks.items (opposite_of s.literal)))))
]

pub place_positive : (r : Resolvent) (trail : TrailValue) → IsResolvent r trail → 0 < r.pending → 0 < r.place
place_positive r trail is some =
    omega (arith, some, is.marks.is_pending, pending_few r.marks.items (left_of r trail), (split_left trail.steps r.place is.within).size)

pub head_at : (r : Resolvent) (trail : TrailValue) (s : Step) (n : ℕ) → IsResolvent r trail → IsMorePending r trail → r.place ≡ n + 1 → IsStepAt trail.steps n s → IsHead r trail s (oldest_steps n trail.steps)
head_at r trail s n is more e at =
    let left : left_of r trail ≡ s ∷ oldest_steps n trail.steps = ap (λ k. oldest_steps k trail.steps) e ∙ left_more trail.steps n s at in
    record {
      left = left;
      sound = subst (IsSoundFor trail.variables) left (sound_left trail r.place is.sound is.within);
      not_decided = not_last r trail s (oldest_steps n trail.steps) is more left;
    }

-- a step whose opposite isn't marked
pub skipped : (r new : Resolvent) (trail : TrailValue) (s : Step) (n : ℕ) → IsResolvent r trail → IsHead r trail s (oldest_steps n trail.steps) → r.place ≡ n + 1 → mark_at r.marks.items (opposite_of s.literal) ≡ false → new.marks.items ≡ r.marks.items → new.learned.items ≡ r.learned.items → vec_capacity new.learned ≡ vec_capacity r.learned → new.pending ≡ r.pending → new.place ≡ n → IsResolvent new trail × KeepsEnd r new trail
skipped r new trail s n is h e off marks learned capacity pending place =
    let older : List Step = oldest_steps n trail.steps in
    let left : older ≡ left_of new trail = ap (λ k. oldest_steps k trail.steps) (sym place) in
    let a = AreMarks-skip r.marks.items s older is.earlier r.pending (subst (λ ys. AreMarks r.marks.items ys is.earlier r.pending) h.left is.marks) off h.not_decided in
    let b = subst (λ ms. AreMarks ms older is.earlier r.pending) (sym marks) a in
    let c = subst (λ k. AreMarks new.marks.items older is.earlier k) (sym pending) b in (
      record {
        sound = is.sound;
        within = omega (arith, is.within, e, place);
        newest = ap level_of (sym left) ∙ omega (arith, ap level_of h.left, is.newest, rise_on s.reason h.not_decided);
        marks_fit = ap length marks ∙ is.marks_fit;
        free = is.free;
        earlier = is.earlier;
        learned = learned ∙ is.learned;
        room = subst (λ k. 2 * trail.variables < k) (sym capacity) is.room;
        marks = subst (λ ys. AreMarks new.marks.items ys is.earlier new.pending) left c;
      },
      λ hints ends. subst (λ ys. EndsWith new.marks.items ys hints) left (subst (λ ms. EndsWith ms older hints) (sym marks)
          (ends_skip r.marks.items s older hints (subst (λ ys. EndsWith r.marks.items ys hints) h.left ends))),
    )

-- a step whose opposite is taken out
pub unmarked : (r new : Resolvent) (trail : TrailValue) (s : Step) (n : ℕ) → IsResolvent r trail → IsMorePending r trail → r.place ≡ n + 1 → IsStepAt trail.steps n s → IsMarked r.marks.items (opposite_of s.literal) → opposite_of s.literal < length r.marks.items → new.marks.items ≡ set r.marks.items (opposite_of s.literal) false → new.learned.items ≡ r.learned.items → vec_capacity new.learned ≡ vec_capacity r.learned → new.pending ≡ r.pending - 1 → new.place ≡ n → IsResolvent new trail
unmarked r new trail s n is more e at on lt marks learned capacity pending place =
    let h = head_at r trail s n is more e at in
    let older : List Step = oldest_steps n trail.steps in
    let left : older ≡ left_of new trail = ap (λ k. oldest_steps k trail.steps) (sym place) in
    let a = AreMarks-unmark trail.variables r.marks.items s older is.earlier r.pending h.sound (subst (λ ys. AreMarks r.marks.items ys is.earlier r.pending) h.left is.marks) lt on h.not_decided in
    let b = subst (λ ms. AreMarks ms older is.earlier (r.pending - 1)) (sym marks) a in
    let c = subst (λ k. AreMarks new.marks.items older is.earlier k) (sym pending) b in
    record {
      sound = is.sound;
      within = omega (arith, is.within, e, place);
      newest = ap level_of (sym left) ∙ omega (arith, ap level_of h.left, is.newest, rise_on s.reason h.not_decided);
      marks_fit = ap length marks ∙ length-set r.marks.items (opposite_of s.literal) false ∙ is.marks_fit;
      free = is.free;
      earlier = is.earlier;
      learned = learned ∙ is.learned;
      room = subst (λ k. 2 * trail.variables < k) (sym capacity) is.room;
      marks = subst (λ ys. AreMarks new.marks.items ys is.earlier new.pending) left c;
    }

-- and is resolved with the step's reason
pub resolved : (r one new : Resolvent) (pool : PoolValue) (trail : TrailValue) (s : Step) (n : ℕ) (hint : Hint) → IsResolvent r trail → IsMorePending r trail → r.place ≡ n + 1 → IsStepAt trail.steps n s → one.marks.items ≡ set r.marks.items (opposite_of s.literal) false → one.place ≡ n → new.place ≡ one.place → MarksReason one new pool trail s.literal hint → AddsHint r new pool trail hint
resolved r one new pool trail s n hint is more e at marks place same m =
    let h = head_at r trail s n is more e at in
    let older : List Step = oldest_steps n trail.steps in
    let left_one : left_of one trail ≡ older = ap (λ k. oldest_steps k trail.steps) place in
    let left_new : older ≡ left_of new trail = ap (λ k. oldest_steps k trail.steps) (sym place ∙ sym same) in
    record {
      known = m.known;
      ends = λ hints ends. subst (λ ys. EndsWith new.marks.items ys (clause_of_hint pool.clauses trail.steps hint ∷ hints)) left_new
          (ends_resolve r.marks.items new.marks.items s older (clause_of_hint pool.clauses trail.steps hint) hints
          (subst (λ ys. EndsWith r.marks.items ys hints) h.left ends)
          (subst (λ ys. IsUnitBut (literals_of ys) (clause_of_hint pool.clauses trail.steps hint) s.literal) left_one m.unit)
          h.sound.1
          (λ x old ne. m.kept x (subst (λ ms. IsMarked ms x) (sym marks) (marked_still r.marks.items (opposite_of s.literal) x ne old)))
          m.marked);
    }

-- the reason of the newest step that is left
pub reason_in : (clauses : List (Option (List ℕ))) (newer older : List Step) (s : Step) → HaveReasons clauses (newer ++ s ∷ older) → HasReason clauses (literals_of older) s.literal s.reason
reason_in clauses [] older s r = r.0
reason_in clauses (t ∷ newer) older s r = reason_in clauses newer older s r.1

one_if_more : (a b : Bool) → (a ≡ true → b ≡ true) → one_if a ≤ one_if b
one_if_more true true h = omega arith
one_if_more true false h = absurd (true_not_false false (h refl) refl)
one_if_more false true h = omega arith
one_if_more false false h = omega arith

pending_more_marks : (old new : List Bool) (steps : List Step) → ((x : ℕ) → IsMarked old x → IsMarked new x) → pending_in old steps ≤ pending_in new steps
pending_more_marks old new [] kept = omega arith
pending_more_marks old new (s ∷ older) kept =
    let here = one_if_more (mark_at old (opposite_of s.literal)) (mark_at new (opposite_of s.literal)) (kept (opposite_of s.literal)) in
    elim (bool_cases (is_decision s.reason)) [
      | inl is ↦ omega (arith, pending_end old s older is, pending_end new s older is, here)
      | inr not_one ↦ omega (arith, pending_on old s older not_one, pending_on new s older not_one, here, pending_more_marks old new older kept)
    ]

-- more marks leave no fewer pending
pub pending_kept : (r new : Resolvent) (trail : TrailValue) → IsResolvent r trail → IsResolvent new trail → new.place ≡ r.place → ((x : ℕ) → IsMarked r.marks.items x → IsMarked new.marks.items x) → r.pending ≤ new.pending
pending_kept r new trail is after place kept =
    omega (arith, is.marks.is_pending, after.marks.is_pending, ap (λ n. pending_in new.marks.items (oldest_steps n trail.steps)) place, pending_more_marks r.marks.items new.marks.items (left_of r trail) kept)

drop_none : (k : ℕ) (steps : List Step) → k ≡ 0 → drop k steps ≡ steps
drop_none k steps e = ap (λ n. drop n steps) e

pub left_whole : (steps : List Step) (count : ℕ) → count ≡ length steps → oldest_steps count steps ≡ steps
left_whole steps count e = drop_none (length steps - count) steps (omega (arith, e))

none_pending : (marks : List Bool) (steps : List Step) → ((x : ℕ) → IsMarked marks x → ⊥) → pending_in marks steps ≡ 0
none_pending marks [] none = refl
none_pending marks (s ∷ older) none =
    let off : one_if (mark_at marks (opposite_of s.literal)) ≡ 0 = elim (bool_cases (mark_at marks (opposite_of s.literal))) [ inl on ↦ absurd (none (opposite_of s.literal) on) | inr off ↦ ap one_if off ] in
    elim (bool_cases (is_decision s.reason)) [
      | inl is ↦ omega (arith, pending_end marks s older is, off)
      | inr not_one ↦ omega (arith, pending_on marks s older not_one, off, none_pending marks older none)
    ]

-- no mark yet
pub started : (r new : Resolvent) (trail : TrailValue) (free : ℕ) → IsIdle r trail → new.marks.items ≡ r.marks.items → new.learned.items ≡ free ∷ [] → vec_capacity new.learned ≡ vec_capacity r.learned → new.pending ≡ 0 → new.place ≡ length trail.steps → IsResolvent new trail
started r new trail free idle marks learned capacity pending place =
    let none : (x : ℕ) → IsMarked new.marks.items x → ⊥ = λ x m. idle.none_marked x (subst (λ ms. IsMarked ms x) marks m) in
    record {
      sound = idle.sound;
      within = omega (arith, place);
      newest = ap level_of (left_whole trail.steps new.place place);
      marks_fit = ap length marks ∙ idle.marks_fit;
      free = free;
      earlier = [];
      learned = learned;
      room = subst (λ k. 2 * trail.variables < k) (sym capacity) idle.room;
      marks = record {
        all_false = λ x m. absurd (none x m);
        is_pending = pending ∙ sym (none_pending new.marks.items (left_of new trail) none);
        listed = λ x m. absurd (none x m);
        marked = λ x i. absurd i;
        not_newest = λ x i. absurd i;
        once = tt;
      };
    }

-- where one is pending, the newest step that is left was decided only if its opposite is marked
pub head_of_one : (r : Resolvent) (trail : TrailValue) (s : Step) (n : ℕ) → IsResolvent r trail → r.pending ≡ 1 → r.place ≡ n + 1 → IsStepAt trail.steps n s → mark_at r.marks.items (opposite_of s.literal) ≡ false → IsHead r trail s (oldest_steps n trail.steps)
head_of_one r trail s n is one e at off =
    let older : List Step = oldest_steps n trail.steps in
    let left : left_of r trail ≡ s ∷ older = ap (λ k. oldest_steps k trail.steps) e ∙ left_more trail.steps n s at in
    record {
      left = left;
      sound = subst (IsSoundFor trail.variables) left (sound_left trail r.place is.sound is.within);
      not_decided = elim (bool_cases (is_decision s.reason)) [
        | inr not_one ↦ not_one
        | inl decided ↦ absurd (omega (arith, one, is.marks.is_pending, ap (pending_in r.marks.items) left, pending_end r.marks.items s older decided, ap one_if off))
      ];
    }

pub newest_head : (r : Resolvent) (trail : TrailValue) (s : Step) (n : ℕ) → r.place ≡ n + 1 → IsStepAt trail.steps n s → IsIn (opposite_of (opposite_of s.literal)) (newest_of (left_of r trail))
newest_head r trail s n e at =
    subst (λ ys. IsIn (opposite_of (opposite_of s.literal)) (newest_of ys)) (sym (ap (λ k. oldest_steps k trail.steps) e ∙ left_more trail.steps n s at))
    (inl (opposite-opposite s.literal))
