-- A list in order within another one has no more items.
use Rattle.std.proofs.Common.{◌≡◌, ◌≤◌, ℕ, List, Contains, length, sym, ap, ◌∙◌}
use native.Mathlib.Omega.{arith}
use Rattle.std.proofs.lemmas.Map.Keys.{IsDistinct-from_sorted}
use Rattle.std.proofs.lemmas.Map.Made.{is_member-Decides, length-le_from_is_member}
use Rattle.std.specs.Bool.{Decides}
use Rattle.std.specs.Cmp.{Equal-is, eq_by_cmp_equiv, tied_itself}
use Rattle.std.specs.List.Sorted.{IsStrictlySortedBy}
use Rattle.std.specs.Ordering.{eq_by_cmp}
use Rattle.program.specs.Program.{Prog}
use Rattle.spots.proofs.Same.{one_spot, spot_total}
use Rattle.spots.specs.Order.{spot_cmp}
use Rattle.spots.specs.Spots.{IsReached}
use Rattle.spots.specs.declared.spot.Spot.{Spot}
use Rattle.reached_spots.specs.Exploring.{AreTooMany, code_nodes}

decided : (a b : Spot) → Decides (eq_by_cmp spot_cmp a b) (a ≡ b)
decided a b = (
  (λ e. one_spot a b ((Equal-is (spot_cmp a b)).0 e)),
  (λ e. (Equal-is (spot_cmp a b)).1 (ap (spot_cmp a) (sym e) ∙ tied_itself spot_total a)),
)

no_more : (xs ys : List Spot) → IsStrictlySortedBy spot_cmp xs → ((s : Spot) → Contains xs s → Contains ys s) →
    length xs ≤ length ys
no_more xs ys sorted within =
    length-le_from_is_member (eq_by_cmp_equiv spot_total) xs ys (IsDistinct-from_sorted spot_cmp xs sorted)
    (λ q there. (is_member-Decides decided ys q).1 (within q ((is_member-Decides decided xs q).0 there)))

pub not_too_many : (p : Prog) (limit : ℕ) (spots : List Spot) → length spots ≤ code_nodes →
    ((s : Spot) → IsReached p limit s → Contains spots s) → AreTooMany p limit → ⊥
not_too_many p limit spots few all many =
    let least = no_more many.spots spots many.ordered (λ s there. all s (many.reached s there)) in
    let more = many.many in
    absurd (omega arith)
