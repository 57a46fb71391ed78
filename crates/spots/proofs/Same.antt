-- The order of spots is the one of the type.
use Rattle.std.proofs.Common.{◌≡◌, ℕ, Option, None, Some, Bool, false, true, ap, refl, subst}
use Rattle.std.proofs.lemmas.Map.Lookups.{exact_unsigned}
use Rattle.std.specs.Cmp.{IsTotalOrder, bool_cmp_total, nat_cmp_total, on_total, then_total}
use Rattle.std.specs.Cmp.Lexicographic.{options_total}
use Rattle.std.specs.Option.{option_cmp}
use Rattle.std.specs.FinMap.{slice_cmp-IsAntisymmetric}
use Rattle.std.specs.Ordering.{bool_cmp, nat_cmp, on, ordering_then, then_cmp}
use Rattle.std.specs.declared.cmp.Ordering.{Ordering}
use Rattle.std.specs.declared.cmp.Ordering.TheVariants.{Less, Equal, Greater}
use Rattle.code_paths.specs.Order.{place_cmp}
use Rattle.code_paths.specs.declared.place.CodePlace.{CodePlace}
use Rattle.spots.specs.Chains.{chain_total}
use Rattle.spots.specs.Order.{position_cmp, spot_cmp, standing_cmp}
use Rattle.spots.specs.declared.spot.Position.{Position}
use Rattle.spots.specs.declared.spot.Position.TheVariants.{At, Begin, End}
use Rattle.spots.specs.declared.spot.Spot.{Spot}
use Rattle.spots.specs.declared.spot.Standing.{Standing}
use Rattle.spots.specs.contracts.spot.SpotOrd.TheImpl.{cmp-value}

at_positions : (t u : ℕ) (x y : Position) → cmp-value.it (record { thread = t; position = x }) (record { thread = u; position = y }) ≡ spot_cmp (record { thread = t; position = x }) (record { thread = u; position = y })
at_positions t u Begin Begin = refl
at_positions t u Begin (At s) = refl
at_positions t u Begin End = refl
at_positions t u (At s) Begin = refl
at_positions t u (At s) (At r) = refl
at_positions t u (At s) End = refl
at_positions t u End Begin = refl
at_positions t u End (At s) = refl
at_positions t u End End = refl

pub same_order : (x y : Spot) → cmp-value.it x y ≡ spot_cmp x y
same_order x y = at_positions x.thread y.thread x.position y.position

pub one_order : cmp-value.it ≡ spot_cmp
one_order = λ i x y. same_order x y i

-- ---- It is a total order

abbrev rank : Position → ℕ
rank Begin = 0
rank (At s) = 1
rank End = 2

abbrev stand : Position → Option Standing
stand Begin = None
stand (At s) = Some s
stand End = None

abbrev by_rank : Position → Position → Ordering
by_rank = then_cmp (on rank nat_cmp) (on stand (option_cmp standing_cmp))

ranked : (x y : Position) → by_rank x y ≡ position_cmp x y
ranked Begin Begin = refl
ranked Begin (At s) = refl
ranked Begin End = refl
ranked (At s) Begin = refl
ranked (At s) (At r) = refl
ranked (At s) End = refl
ranked End Begin = refl
ranked End (At s) = refl
ranked End End = refl

standing_total : IsTotalOrder standing_cmp
standing_total = then_total (on_total (λ s. s.jumps) nat_cmp_total) (then_total (on_total (λ s. s.places) chain_total) (on_total (λ s. s.answer) bool_cmp_total))

position_total : IsTotalOrder position_cmp
position_total = subst IsTotalOrder (λ i x y. ranked x y i) (then_total (on_total rank nat_cmp_total) (on_total stand (options_total standing_total)))

pub spot_total : IsTotalOrder spot_cmp
spot_total = then_total (on_total (λ s. s.thread) nat_cmp_total) (on_total (λ s. s.position) position_total)

-- ---- Only equal spots are equal in order

pub then_equal : (r s : Ordering) → ordering_then r s ≡ Equal → (r ≡ Equal) × (s ≡ Equal)
then_equal Less s e = absurd cc
then_equal Equal s e = (refl, e)
then_equal Greater s e = absurd cc

pub one_bool : (x y : Bool) → bool_cmp x y ≡ Equal → x ≡ y
one_bool false false e = refl
one_bool false true e = absurd cc
one_bool true false e = absurd cc
one_bool true true e = refl

one_place : (x y : CodePlace) → place_cmp x y ≡ Equal → x ≡ y
one_place x y e =
    let pc = then_equal _ _ e in
    let class = then_equal _ _ pc.1 in
    let a = exact_unsigned x.pc y.pc pc.0 in
    let b = exact_unsigned x.method.class y.method.class class.0 in
    let d = exact_unsigned x.method.method y.method.method class.1 in
    λ i. record { method = record { class = b i; method = d i }; pc = a i }

one_standing : (x y : Standing) → standing_cmp x y ≡ Equal → x ≡ y
one_standing x y e =
    let jumps = then_equal _ _ e in
    let places = then_equal _ _ jumps.1 in
    let a = exact_unsigned x.jumps y.jumps jumps.0 in
    let b = slice_cmp-IsAntisymmetric one_place x.places y.places places.0 in
    let d = one_bool x.answer y.answer places.1 in
    λ i. record { jumps = a i; places = b i; answer = d i }

one_position : (x y : Position) → position_cmp x y ≡ Equal → x ≡ y
one_position Begin Begin e = refl
one_position Begin (At s) e = absurd cc
one_position Begin End e = absurd cc
one_position (At s) Begin e = absurd cc
one_position (At s) (At r) e = ap At (one_standing s r e)
one_position (At s) End e = absurd cc
one_position End Begin e = absurd cc
one_position End (At s) e = absurd cc
one_position End End e = refl

pub one_spot : (x y : Spot) → spot_cmp x y ≡ Equal → x ≡ y
one_spot x y e =
    let thread = then_equal _ _ e in
    let a = exact_unsigned x.thread y.thread thread.0 in
    let b = one_position x.position y.position thread.1 in
    λ i. record { thread = a i; position = b i }
