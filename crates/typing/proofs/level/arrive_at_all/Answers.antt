use Rattle.std.proofs.Common.{◌<◌, ℕ, List, All, Contains, ◌⊎◌, inl, inr, get_or, length, subst, sym, arith, refl, ◌++◌, ◌∷◌, []}
use Rattle.std.proofs.lemmas.List.Elements.{Contains-append_left, All-push, Contains-get_or}
use Rattle.std.proofs.lemmas.List.{get_or_default}
use Rattle.typing.specs.Levels.{HasArrival, IsFrom}
use Rattle.typing.specs.Summaries.{summary_of}
use Rattle.typing.specs.declared.level.Arrival.{Arrival}
use Rattle.typing.proofs.Arrivals.{more_has, pushed_has, at_or_before}
use Rattle.typing.proofs.level.arrive_at_all.Goals as goal

pub loop-to-preserved : goal.loop-to-preserved
loop-to-preserved c =
    let adds = c.in_ok-arrive.ensures in
    let to = get_or c.args.targets.now c.loop-to.to-index 0 in
    let item : Arrival = record { from = c.args.from; to = to; state = adds.state } in
    let lt : c.loop-to.to-index < length c.args.targets.now = omega arith in
    let H : List Arrival → ℕ → Type 0 = λ xs k. HasArrival xs c.args.from (get_or c.args.targets.now k 0) in
    let F : Arrival → Type 0 = λ a. Contains c.args.arrivals.now.items a ⊎ IsFrom c.args.from c.args.targets.now (summary_of c.args.state.now) a in
    record {
      kept = λ a h. let P : List Arrival → Type 0 = λ xs. Contains xs a in
          subst P (sym adds.is_new) (Contains-append_left c.loop-to.arrivals.items (item ∷ []) a (c.loop-to.invariant.kept a h));
      added = λ k below. let P : List Arrival → Type 0 = λ xs. H xs k in
          subst P (sym adds.is_new) (elim (at_or_before k c.loop-to.to-index below) [
            | inl same ↦ (let Q : ℕ → Type 0 = λ n. H (c.loop-to.arrivals.items ++ item ∷ []) n in subst Q (sym same) (pushed_has c.loop-to.arrivals.items item))
            | inr before ↦ more_has c.loop-to.arrivals.items item c.args.from _ (c.loop-to.invariant.added k before)
          ]);
      others = subst (All F) (sym adds.is_new) (All-push F c.loop-to.arrivals.items item c.loop-to.invariant.others
          (inr (record { is_from = refl; among = Contains-get_or c.args.targets.now c.loop-to.to-index 0 lt; same = adds.same })));
    }

pub returns-clause-added : goal.returns-clause-added
returns-clause-added c = λ to has.
    let P : ℕ → Type 0 = λ n. HasArrival c.loop-to.arrivals.items c.args.from n in
    subst P has.2 (let Q : ℕ → Type 0 = λ n. HasArrival c.loop-to.arrivals.items c.args.from n in
    subst Q (get_or_default c.args.targets.now has.0 0 to has.1) (c.loop-to.invariant.added has.0 (omega (arith, has.1))))
