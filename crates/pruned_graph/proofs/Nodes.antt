-- The kept spots are the nodes.
use Rattle.std.proofs.Common.{◌≡◌, ◌↔◌, ◌<◌, ℕ, Bool, true, false, List, Contains, Some, slice_get, length, refl, sym, subst, ◌∙◌, true≢false}
use Rattle.relations.specs.Least.{IsLeast}
use Rattle.relations.specs.Path.{here}
use Rattle.program.proofs.Lists.{contains_at, place_of}
use Rattle.program.specs.Bounds.{Ends, IsWhole}
use Rattle.program.specs.Program.{Prog}
use Rattle.spots.specs.Spots.{IsReached, begin_of}
use Rattle.spots.specs.declared.spot.Spot.{Spot}
use Rattle.reached_spots.specs.Exploring.{SomeLeavesOut}
use Rattle.kept_spots.specs.Ending.{CanEnd}
use Rattle.spot_routes.proofs.Bounded.{ends_by_steps, whole_where_none_is_left_out}
use Rattle.pruned_graph.specs.Pruned.{HasNoBegin, IsMarkedThere, IsNode, NeverEnds}

module _ (p : Prog) (limit : ℕ) where
  pub nodes_are : (spots : List Spot) (marks : List Bool) → ((s : Spot) → Contains spots s ↔ IsReached p limit s) →
      ((place : ℕ) (s : Spot) → slice_get spots place ≡ Some s → (slice_get marks place ≡ Some true) ↔
      CanEnd p limit s) → (s : Spot) → IsMarkedThere spots marks s ↔ IsNode p limit s
  nodes_are spots marks reached ends s = (
    (λ is. record {
      is_reached = (reached s).0 (contains_at spots is.place s is.stands);
      can_end =
          (ends is.place s is.stands).0 is.marked;
    }),
    (λ node. (let at = place_of spots s ((reached s).1 node.is_reached) in
        record { place = at.0; stands = at.1; marked = (ends at.0 s at.1).1 node.can_end })),
  )

  module _ (spots : List Spot) (nodes : (s : Spot) → Contains spots s ↔ IsNode p limit s) where
    -- a thread whose beginning is a node can end, and no other can
    pub can_end : (thread : ℕ) → Contains spots (begin_of thread) → Ends p thread limit
    can_end thread there = (ends_by_steps p limit thread).1 ((nodes (begin_of thread)).0 there).can_end

    has_begin : (thread : ℕ) → thread < length p.threads → Ends p thread limit → Contains spots (begin_of thread)
    has_begin thread is ends =
        (nodes (begin_of thread)).1 (record {
          is_reached = record { thread = thread; is_thread = is; walk = here };
          can_end = (ends_by_steps p limit thread).0 ends;
        })

    pub least_that_never_ends : (threads thread : ℕ) → threads ≡ length p.threads →
        IsLeast (HasNoBegin spots threads) thread → IsLeast (NeverEnds p limit) thread
    least_that_never_ends threads thread all is = record {
      holds = (let within = subst (λ (n : ℕ). thread < n) all is.holds.is_thread in
          record { is_thread = within; never = λ ends. is.holds.none (has_begin thread within ends) });
      least = λ m never.
          is.least m (record {
            is_thread = subst (λ (n : ℕ). m < n) (sym all) never.is_thread;
            none =
                λ there. never.never (can_end m there);
          });
    }

  pub whole_is : (width : ℕ) (left_out b : Bool) → (left_out ≡ true) ↔ SomeLeavesOut p limit → (b ≡ true) ↔
      ((width ≡ 32) × (left_out ≡ false)) → (b ≡ true) ↔ IsWhole p limit width
  whole_is width left_out b out is = (
    (λ e. (let facts = is.0 e in law.1 (facts.0, λ some. true≢false (sym (out.1 some) ∙ facts.1)))),
    (λ whole. (let facts = law.0 whole in is.1 (facts.0, none left_out out facts.1))),
  )
    where
      law : IsWhole p limit width ↔ ((width ≡ 32) × (SomeLeavesOut p limit → ⊥))
      law = whole_where_none_is_left_out p limit width

      none : (o : Bool) → (o ≡ true) ↔ SomeLeavesOut p limit → (SomeLeavesOut p limit → ⊥) → o ≡ false
      none true out nothing = absurd (nothing (out.0 refl))
      none false out nothing = refl
