-- The variable is volatile, and the identifier in the order.
use Rattle.std.proofs.Common.{false, IsTrue, refl, sym, subst, arith, Contains, List, ◌≡◌, ℕ}
use Rattle.program.specs.declared.program.Variable.{Variable}
use Rattle.program.proofs.Lists.{place_of}
use Rattle.orders.specs.Volatiles.{IsVolatileFrom, volatile_vars}
use Rattle.orders.proofs.Said.{not_true, var}
use Rattle.orders.proofs.Volatile.{listed_of, listed_from}
use Rattle.orders.proofs.Meeting.{synced_key}
use Rattle.orders.proofs.Ordered.{so_default, default_so}
use Rattle.orders.proofs.answers.Orders.default_synced.Goals as goal

volatile_to : (vs all : List Variable) (class name : List ℕ) → vs ≡ all → IsVolatileFrom vs 0 (var class name) → Contains (volatile_vars all) (var class name)
volatile_to vs all class name same h = subst (λ (xs : List Variable). Contains (volatile_vars xs) (var class name)) same (listed_from vs h.place (var class name) h.at)

volatile_of : (vs all : List Variable) (class name : List ℕ) → vs ≡ all → Contains (volatile_vars all) (var class name) → IsVolatileFrom vs 0 (var class name)
volatile_of vs all class name same h =
    let (i, at) = listed_of vs (var class name) (subst (λ (xs : List Variable). Contains (volatile_vars xs) (var class name)) (sym same) h) in
    record { place = i; at = at; after = omega arith }

pub returns-then-not-is_volatile_from : goal.returns-then-not-is_volatile_from
returns-then-not-is_volatile_from c = (
  λ never. absurd (not_true false refl never),
  λ h. absurd (not_true c.is_volatile_from.result c.if-not-is_volatile_from.true (c.is_volatile_from.ensures.1 (volatile_of c.variables.result.now _ _ _ c.variables.ensures.value (default_so c.args.self.now c.args.class.now c.args.name.now c.args.second h).volatile))),
)

pub returns : goal.returns
returns c = (
  λ yes. (let (r, at) = place_of c.args.self.now.flat.sync.keys c.args.second (c.number_of.ensures.there.0 (subst IsTrue c.is_some.ensures yes)) in
      so_default c.args.self.now c.args.class.now c.args.name.now r c.args.second c.requires (volatile_to c.variables.result.now _ _ _ c.variables.ensures.value (c.is_volatile_from.ensures.0 c.if-not-is_volatile_from.false)) (synced_key c.args.self.now r c.args.second c.requires at)),
  λ h. subst IsTrue (sym c.is_some.ensures) (c.number_of.ensures.there.1 (subst (λ (xs : List ℕ). Contains xs c.args.second) (sym c.requires.tables.ordered) (default_so c.args.self.now c.args.class.now c.args.name.now c.args.second h).listed)),
)
