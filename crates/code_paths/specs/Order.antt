-- The order of places in the code.
use Rattle.std.specs.Ordering.{nat_cmp, on, then_cmp}
use Rattle.std.specs.declared.cmp.Ordering.{Ordering}
use Rattle.code_paths.specs.declared.place.CodePlace.{CodePlace}

-- by the place in the code, and then by method
abbrev pub place_cmp : CodePlace → CodePlace → Ordering
place_cmp = then_cmp (on (λ p. p.pc) nat_cmp) (then_cmp (on (λ p. p.method.class) nat_cmp) (on (λ p. p.method.method) nat_cmp))
