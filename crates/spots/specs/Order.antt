-- The order of spots.
use Rattle.std.specs.Ordering.{bool_cmp, nat_cmp, on, then_cmp}
use Rattle.std.specs.declared.cmp.Ordering.{Ordering}
use Rattle.std.specs.declared.cmp.Ordering.TheVariants.{Less, Equal, Greater}
use Rattle.spots.specs.Chains.{chain_cmp}
use Rattle.spots.specs.declared.spot.Position.{Position}
use Rattle.spots.specs.declared.spot.Position.TheVariants.{Begin, At, End}
use Rattle.spots.specs.declared.spot.Spot.{Spot}
use Rattle.spots.specs.declared.spot.Standing.{Standing}

-- by jumps, by places, by answer
abbrev pub standing_cmp : Standing → Standing → Ordering
standing_cmp = then_cmp (on (λ s. s.jumps) nat_cmp) (then_cmp (on (λ s. s.places) chain_cmp) (on (λ s. s.answer) bool_cmp))

-- the beginning first, the end last
abbrev pub position_cmp : Position → Position → Ordering
position_cmp Begin Begin = Equal
position_cmp Begin _ = Less
position_cmp (At s) Begin = Greater
position_cmp (At s) (At t) = standing_cmp s t
position_cmp (At s) End = Less
position_cmp End End = Equal
position_cmp End _ = Greater

-- by thread, by position
abbrev pub spot_cmp : Spot → Spot → Ordering
spot_cmp = then_cmp (on (λ s. s.thread) nat_cmp) (on (λ s. s.position) position_cmp)
