-- Spot by spot.
use Rattle.std.proofs.Common.{◌≡◌, ◌≤◌, ◌+◌, suc, take, get_or, false, List, Contains, length, ap, ap₂, cond, sym, subst, ◌∙◌, [], ◌∷◌, ◌++◌}
use native.Mathlib.Omega.{arith}
use Rattle.std.specs.List.Sorted.{IsStrictlySortedBy}
use Rattle.spots.specs.Order.{spot_cmp}
use Rattle.spots.specs.declared.spot.Spot.{Spot}
use Rattle.pruned_graph.proofs.Marked.{all_marked, few_kept, is_marked, kept, marked_of, one_more, still_sorted}
use Rattle.pruned_graph.proofs.kept.marked.Goals as goal

pub loop-place-preserved : goal.loop-place-preserved
loop-place-preserved c =
    let spots = c.args.spots.now in
    let marks = c.args.marks.now in
    let next : suc c.loop-place.place ≡ c.loop-place.place + 1 = omega arith in
    let same = c.requires.marks in
    let within = c.loop-place-test.true in
    c.in_ok-keep_marked.ensures
    ∙ ap₂ (λ (xs : List Spot) (x : Spot). xs ++ cond (get_or marks c.loop-place.place false) (x ∷ []) [])
    c.loop-place.invariant c.index-spots-place.is
    ∙ sym (one_more spots marks c.loop-place.place c.index-spots-place.result false (omega arith) (omega arith))
    ∙ ap (λ n. marked_of (take n spots) (take n marks)) next

pub returns-clause-ordered : goal.returns-clause-ordered
returns-clause-ordered c =
    let most = c.loop-place.auto.place-end in
    let least = c.loop-place-test.false in
    let all = all_marked c.loop-place.kept c.args.spots.now c.args.marks.now c.loop-place.place c.loop-place.invariant
    (omega arith) c.requires.marks in
    subst (IsStrictlySortedBy spot_cmp) (sym all) (still_sorted c.args.spots.now c.args.marks.now c.requires.ordered)

pub returns-clause-exact : goal.returns-clause-exact
returns-clause-exact c = λ s.
    let most = c.loop-place.auto.place-end in
    let least = c.loop-place-test.false in
    let all = all_marked c.loop-place.kept c.args.spots.now c.args.marks.now c.loop-place.place c.loop-place.invariant
    (omega arith) c.requires.marks in (
      (λ there. is_marked c.args.spots.now c.args.marks.now s (subst (λ (xs : List Spot). Contains xs s) all there)),
      (λ is. subst (λ (xs : List Spot). Contains xs s) (sym all) (kept c.args.spots.now c.args.marks.now s is)),
    )

pub returns-clause-few : goal.returns-clause-few
returns-clause-few c =
    let most = c.loop-place.auto.place-end in
    let least = c.loop-place-test.false in
    let all = all_marked c.loop-place.kept c.args.spots.now c.args.marks.now c.loop-place.place c.loop-place.invariant
    (omega arith) c.requires.marks in
    subst (λ (xs : List Spot). length xs ≤ length c.args.spots.now) (sym all)
    (few_kept c.args.spots.now c.args.marks.now)
