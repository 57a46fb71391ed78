use Rattle.std.proofs.Common.{◌+◌, ℕ, All, Contains, length, List, Option, sym, subst, ap, ◌∙◌}
use Rattle.typing.specs.Levels.{IsUnlooked, IsLevel, IsAdvancing, IsArrival, HasArrival, StepsTo}
use Rattle.typing.specs.declared.joined.Joined.{Joined}
use Rattle.typing.specs.declared.level.Arrival.{Arrival}
use Rattle.typing.proofs.Steps.{advancing, next_level, all_inside, all_described}
use Rattle.typing.proofs.typing.go_on.Goals as goal

pub arrivals-requires-clause-long : goal.arrivals-requires-clause-long
arrivals-requires-clause-long c = ap length c.deref.ensures.value ∙ c.requires.level.1.level.long

pub arrivals-requires-clause-advancing : goal.arrivals-requires-clause-advancing
arrivals-requires-clause-advancing c = λ p h.
    let P : List (Option Joined) → Type 0 = λ xs. IsAdvancing c.args.method.now xs p in
    subst P (sym c.deref.ensures.value) (advancing c.args.method.now c.requires.level.0 c.args.states.now.items c.args.changed.now c.requires.level.1 p h)

pub absorb_all-requires : goal.absorb_all-requires
absorb_all-requires c =
    let P : List (Option Joined) → Type 0 = λ xs. All (IsArrival c.args.method.now xs) c.in-Ok.arrivals.items in
    let Q : List Arrival → Type 0 = λ xs. All (IsArrival c.args.method.now c.args.states.now.items) xs in
    let sound = subst Q (sym c.deref-2.ensures.value) (subst P c.deref.ensures.value c.in-Ok.ensures.sound) in
    all_inside c.args.method.now c.args.states.now.items c.deref-2.result.now (length c.args.states.now.items) (sym c.requires.level.1.level.long) sound

pub refuse-requires-clause-level : goal.refuse-requires-clause-level
refuse-requires-clause-level c =
    let m = c.args.method.now in
    let most = c.requires.level.0 in
    let states = c.args.states.now.items in
    let arrivals = c.deref-2.result.now in
    let P : List (Option Joined) → Type 0 = λ xs. All (IsArrival m xs) c.in-Ok.arrivals.items in
    let Q : List Arrival → Type 0 = λ xs. All (IsArrival m states) xs in
    let sound : Q arrivals = subst Q (sym c.deref-2.ensures.value) (subst P c.deref.ensures.value c.in-Ok.ensures.sound) in
    let W : List Arrival → Type 0 = λ xs. (p to : ℕ) → Contains c.args.changed.now p → StepsTo m.listing p to → HasArrival xs p to in
    let whole : W arrivals = subst W (sym c.deref-2.ensures.value) c.in-Ok.ensures.whole in
    let new = c.absorb_all.new.states.items in
    let e = c.in-Ok-absorb_all.ensures in
    let u = next_level m most states new c.args.changed.now c.in-Ok-absorb_all.changed.items arrivals c.requires.level.1 whole
    (e.described m most (all_described m most states c.args.changed.now arrivals c.requires.by_pc c.requires.level.1 sound)) e.long e.same e.changed in
    let R : List (Option Joined) → Type 0 = λ xs. IsUnlooked m (most + 1) xs c.in-Ok-absorb_all.changed.items in
    let S : List ℕ → Type 0 = λ xs. IsUnlooked m (most + 1) c.deref-3.result.now xs in
    (most + 1, subst S (sym c.deref-4.ensures.value) (subst R (sym c.deref-3.ensures.value) u))

pub returns-in-Ok-refuse-clause-ok : goal.returns-in-Ok-refuse-clause-ok
returns-in-Ok-refuse-clause-ok c =
    let m = c.args.method.now in
    let most = c.requires.level.0 in
    let states = c.args.states.now.items in
    let arrivals = c.deref-2.result.now in
    let P : List (Option Joined) → Type 0 = λ xs. All (IsArrival m xs) c.in-Ok.arrivals.items in
    let Q : List Arrival → Type 0 = λ xs. All (IsArrival m states) xs in
    let sound : Q arrivals = subst Q (sym c.deref-2.ensures.value) (subst P c.deref.ensures.value c.in-Ok.ensures.sound) in
    let W : List Arrival → Type 0 = λ xs. (p to : ℕ) → Contains c.args.changed.now p → StepsTo m.listing p to → HasArrival xs p to in
    let whole : W arrivals = subst W (sym c.deref-2.ensures.value) c.in-Ok.ensures.whole in
    let new = c.absorb_all.new.states.items in
    let changed = c.in-Ok-absorb_all.changed.items in
    let e = c.in-Ok-absorb_all.ensures in
    let u = next_level m most states new c.args.changed.now changed arrivals c.requires.level.1 whole
    (e.described m most (all_described m most states c.args.changed.now arrivals c.requires.by_pc c.requires.level.1 sound)) e.long e.same e.changed in
    let R : List (Option Joined) → Type 0 = λ xs. (n : ℕ) → IsUnlooked m n xs c.deref-4.result.now → IsLevel m n xs c.deref-4.result.now in
    let S : List ℕ → Type 0 = λ xs. (n : ℕ) → IsUnlooked m n new xs → IsLevel m n new xs in
    (most + 1, subst S c.deref-4.ensures.value (subst R c.deref-3.ensures.value c.in-Ok-refuse.ensures.ok) (most + 1) u)
