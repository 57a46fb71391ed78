-- Laws of paths.
use Rattle.relations.specs.Path.{Path, edge, more, Walk, here, on}

-- a path and a path from its end are a path
pub joined : {A : Type 0} (R : A → A → Type 0) (a b c : A) → Path R a b → Path R b c → Path R a c
joined R a b c (edge r) q = more r (q)
joined R a b c (more {b = m} r p) q = more r (joined R m b c p q)

-- a path of one relation is a path of each that holds where it does
pub widened : {A : Type 0} (R S : A → A → Type 0) → ((x y : A) → R x y → S x y) → (a b : A) → Path R a b → Path S a b
widened R S wider a b (edge r) = edge (wider a b r)
widened R S wider a b (more {b = m} r p) = more (wider a m r) (widened R S wider m b p)

-- a transitive relation that holds at each edge holds at the ends of each path
pub within : {A : Type 0} (R S : A → A → Type 0) → ((x y : A) → R x y → S x y) → ((x y z : A) → S x y → S y z → S x z) →
    (a b : A) → Path R a b → S a b
within R S step trans a b (edge r) = step a b r
within R S step trans a b (more {b = m} r p) = trans a m b (step a m r) (within R S step trans m b p)

-- a walk with one more edge at its end
pub walked : {A : Type 0} (R : A → A → Type 0) (a b c : A) → Walk R a b → R b c → Walk R a c
walked R a b c here r = on r here
walked R a b c (on {b = m} s w) r = on s (walked R m b c w r)
