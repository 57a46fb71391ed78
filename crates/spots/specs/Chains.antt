-- The order of chains of places.
use Rattle.std.specs.Prelude.{List}
use Rattle.std.specs.Cmp.{IsTotalOrder, on_total, nat_cmp_total, then_total}
use Rattle.std.specs.Cmp.Lexicographic.{lists_total, slice_cmp}
use Rattle.std.specs.declared.cmp.Ordering.{Ordering}
use Rattle.code_paths.specs.Order.{place_cmp}
use Rattle.code_paths.specs.declared.place.CodePlace.{CodePlace}

-- place by place; a chain comes before its extensions
abbrev pub chain_cmp : List CodePlace → List CodePlace → Ordering
chain_cmp = slice_cmp place_cmp

pub place_total : IsTotalOrder place_cmp
place_total = then_total (on_total (λ p. p.pc) nat_cmp_total) (then_total (on_total (λ p. p.method.class) nat_cmp_total) (on_total (λ p. p.method.method) nat_cmp_total))

pub chain_total : IsTotalOrder chain_cmp
chain_total = lists_total place_total
