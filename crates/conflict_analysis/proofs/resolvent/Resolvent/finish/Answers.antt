use Rattle.std.proofs.Common.{◌≡◌, ℕ, ◌<◌, inl, inr, List, ◌∷◌, length, set, sym, ◌∙◌, ap, subst, arith}
use Rattle.clause_pool.specs.PoolValue.{IsIn}
use Rattle.conflict_analysis.specs.Marks.{IsMarked}
use Rattle.conflict_analysis.proofs.Resolving.{literal_known}
use Rattle.std.proofs.lemmas.List.{length-set}
use Rattle.std.proofs.lemmas.List.Sorted.{length_permutation}
use Rattle.trail.specs.Steps.{level_of}
use Rattle.conflict_analysis.specs.Resolvents.{IsFinished}
use Rattle.conflict_analysis.proofs.Left.{among_left}
use Rattle.conflict_analysis.proofs.Finishing.{none_marked, finished_empty, finished, all_marked, refilled}
use Rattle.conflict_analysis.proofs.resolvent.Resolvent.finish.Goals as goal

pub returns-then-level-eq0-clause-idle : goal.returns-then-level-eq0-clause-idle
returns-then-level-eq0-clause-idle c =
    let none : level_of c.args.trail.now.steps ≡ 0 = sym c.level.ensures ∙ c.if-level-eq0.true in
    record {
      sound = c.requires.resolvent.sound;
      marks_fit = c.requires.resolvent.marks_fit;
      none_marked = λ x m. none_marked c.args.self.now c.args.trail.now x c.requires.resolvent none (c.requires.last.none none) m;
      room = omega (arith, c.requires.resolvent.room, c.clear.ensures.capacity);
    }

pub returns-then-level-eq0-clause-finished : goal.returns-then-level-eq0-clause-finished
returns-then-level-eq0-clause-finished c =
    let none : level_of c.args.trail.now.steps ≡ 0 = sym c.level.ensures ∙ c.if-level-eq0.true in
    finished_empty c.args.self.now c.args.trail.now c.clear.new.self.items c.requires.resolvent none (c.requires.last.none none) c.clear.ensures.items

pub clear_marks-requires : goal.clear_marks-requires
clear_marks-requires c =
    let some : 0 < level_of c.args.trail.now.steps = omega (arith, c.level.ensures, c.if-level-eq0.false) in
    let u : ℕ = c.newest_marked.result in
    let is = c.newest_marked.ensures.resolvent in
    let old : List ℕ = set c.newest_marked.new.self.learned.items 0 u in
    let is_old : old ≡ u ∷ is.earlier = ap (λ xs. set xs 0 u) is.learned in
    let marked : (x : ℕ) → IsIn x old → IsMarked c.newest_marked.new.self.marks.items x = λ x i. elim (subst (IsIn x) is_old i) [
      | inl same ↦ subst (IsMarked c.newest_marked.new.self.marks.items) (sym same) c.newest_marked.ensures.marked
      | inr there ↦ is.marks.marked x there
    ] in
    λ x i. (let m = marked x (subst (IsIn x) c.deref.ensures.value i) in
    omega (arith, literal_known c.newest_marked.new.self c.args.trail.now x is (is.marks.all_false x m), ap length c.deref_mut.ensures.value))

pub order_watches-requires-clause-values : goal.order_watches-requires-clause-values
order_watches-requires-clause-values c =
    let some : 0 < level_of c.args.trail.now.steps = omega (arith, c.level.ensures, c.if-level-eq0.false) in
    let u : ℕ = c.newest_marked.result in
    let is = c.newest_marked.ensures.resolvent in
    let old : List ℕ = set c.newest_marked.new.self.learned.items 0 u in
    let is_old : old ≡ u ∷ is.earlier = ap (λ xs. set xs 0 u) is.learned in
    let marked : (x : ℕ) → IsIn x old → IsMarked c.newest_marked.new.self.marks.items x = λ x i. elim (subst (IsIn x) is_old i) [
      | inl same ↦ subst (IsMarked c.newest_marked.new.self.marks.items) (sym same) c.newest_marked.ensures.marked
      | inr there ↦ is.marks.marked x there
    ] in
    λ x i. (let m = marked x (subst (IsIn x) c.deref_mut-2.ensures.value i) in
    inr (among_left c.args.trail.now.steps c.newest_marked.new.self.place _ is.within (is.marks.all_false x m)))

pub returns-clause-idle : goal.returns-clause-idle
returns-clause-idle c =
    let some : 0 < level_of c.args.trail.now.steps = omega (arith, c.level.ensures, c.if-level-eq0.false) in
    let u : ℕ = c.newest_marked.result in
    let is = c.newest_marked.ensures.resolvent in
    let old : List ℕ = set c.newest_marked.new.self.learned.items 0 u in
    let is_old : old ≡ u ∷ is.earlier = ap (λ xs. set xs 0 u) is.learned in
    let marked : (x : ℕ) → IsIn x old → IsMarked c.newest_marked.new.self.marks.items x = λ x i. elim (subst (IsIn x) is_old i) [
      | inl same ↦ subst (IsMarked c.newest_marked.new.self.marks.items) (sym same) c.newest_marked.ensures.marked
      | inr there ↦ is.marks.marked x there
    ] in
    let length_marks : length c.clear_marks.new.marks ≡ length c.newest_marked.new.self.marks.items = omega (arith, c.clear_marks.auto.marks, ap length c.deref_mut.ensures.value) in
    let items = refilled c.newest_marked.new.self.marks.len c.clear_marks.new.marks c.newest_marked.new.self.marks.items (omega (arith, length_marks, c.newest_marked.new.self.marks.ok.0)) in
    record {
      sound = is.sound;
      marks_fit = ap length items ∙ length_marks ∙ is.marks_fit;
      none_marked = λ x m. (let w = c.clear_marks.ensures x (subst (λ ms. IsMarked ms x) items m) in
          w.1 (subst (IsIn x) (sym is_old ∙ sym c.deref.ensures.value) (all_marked c.newest_marked.new.self c.args.trail.now u x is c.newest_marked.ensures.one c.newest_marked.ensures.marked c.newest_marked.ensures.newest (subst (λ ms. IsMarked ms x) c.deref_mut.ensures.value w.0))));
      room = is.room;
    }

pub returns-clause-finished : goal.returns-clause-finished
returns-clause-finished c =
    let some : 0 < level_of c.args.trail.now.steps = omega (arith, c.level.ensures, c.if-level-eq0.false) in
    let u : ℕ = c.newest_marked.result in
    let is = c.newest_marked.ensures.resolvent in
    let old : List ℕ = set c.newest_marked.new.self.learned.items 0 u in
    let is_old : old ≡ u ∷ is.earlier = ap (λ xs. set xs 0 u) is.learned in
    let marked : (x : ℕ) → IsIn x old → IsMarked c.newest_marked.new.self.marks.items x = λ x i. elim (subst (IsIn x) is_old i) [
      | inl same ↦ subst (IsMarked c.newest_marked.new.self.marks.items) (sym same) c.newest_marked.ensures.marked
      | inr there ↦ is.marks.marked x there
    ] in
    let size : length c.order_watches.new.learned ≡ length old = length_permutation c.deref_mut-2.result.now c.order_watches.new.learned c.order_watches.ensures.permuted ∙ ap length c.deref_mut-2.ensures.value in
    let items = refilled c.newest_marked.new.self.learned.len c.order_watches.new.learned old (omega (arith, size, length-set c.newest_marked.new.self.learned.items 0 u, c.newest_marked.new.self.learned.ok.0)) in
    subst (λ ls. IsFinished c.args.self.now ls c.args.trail.now c.order_watches.result) (sym items)
    (finished c.args.self.now c.newest_marked.new.self c.args.trail.now c.deref_mut-2.result.now c.order_watches.new.learned u c.order_watches.result is c.newest_marked.ensures.one c.newest_marked.ensures.marked c.newest_marked.ensures.newest c.newest_marked.ensures.ends (c.deref_mut-2.ensures.value ∙ is_old) c.order_watches.ensures.permuted c.order_watches.ensures.first c.order_watches.ensures.back some)
