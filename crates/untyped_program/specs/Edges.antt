-- Calls between methods by their places, and the greatest sums of slots along chains of calls.
use Rattle.std.specs.Prelude.{◌≡◌, ◌<◌, ◌≤◌, ◌+◌, ◌++◌, ◌&&◌, ◌||◌, ℕ, Bool, true, false, length, nat_eq, List, [], ◌∷◌, All, Contains, Option, None, min, nat_lt, position, slice_index, slice_set, sum_by, if◌then◌else◌}
use Rattle.std.specs.List.{AllWithin, filter_map}
use Rattle.std.specs.Option.{option_map}
use Rattle.program.specs.declared.method.MethodId.{MethodId}
use Rattle.reached_methods.specs.Reached.{is_method}
use Rattle.typing.specs.declared.symbol.Symbol.{Symbol}
use Rattle.typing.specs.declared.symbol.Symbol.TheVariants.{Call}
use Rattle.typing.specs.declared.untyped.UntypedMethod.{UntypedMethod}
use Rattle.untyped_program.specs.declared.edges.Edge.{Edge}

-- ---- Places

-- a stands before b
abbrev pub is_earlier : MethodId → MethodId → Bool
is_earlier a b = nat_lt a.class b.class || nat_eq a.class b.class && nat_lt a.method b.method

-- the methods before this place stand before the one that is looked for, and that there does not
pub record IsPlaceFrom (methods : List UntypedMethod) (id : MethodId) (place : ℕ) : Type 0 where
  pub within : place ≤ length methods
  pub before : AllWithin (λ m. is_earlier m.id id ≡ true) methods 0 place
  pub behind : AllWithin (λ m. is_earlier m.id id ≡ false) methods place (length methods)

-- ---- Edges

-- the call that a symbol makes, where the method called is one of these
abbrev pub edge_of : List UntypedMethod → ℕ → Symbol → Option Edge
edge_of methods caller (Call id parameters result) = option_map (λ called. record { caller = caller; called = called }) (position (λ m. is_method m.id id) methods)
edge_of methods caller s = None

-- the calls of the methods from a place on
abbrev pub edges_from : List UntypedMethod → ℕ → List UntypedMethod → List Edge
edges_from methods place [] = []
edges_from methods place (m ∷ rest) = filter_map (edge_of methods place) m.symbols ++ edges_from methods (place + 1) rest

-- a call between two of so many methods
pub record IsAmong (methods : ℕ) (edge : Edge) : Type 0 where
  pub caller : edge.caller < methods
  pub called : edge.called < methods

-- ---- Sums

-- a number, cut off at the least that passes the limit
abbrev pub cut : ℕ → ℕ
cut n = min 17 n

-- the sum from the caller on, through a call
abbrev pub through : List ℕ → Edge → List ℕ → ℕ
through slots edge sums = cut (slice_index slots edge.caller + slice_index sums edge.called)

abbrev pub is_less : List ℕ → Edge → List ℕ → Bool
is_less slots edge sums = nat_lt (slice_index sums edge.caller) (through slots edge sums)

-- the sums, that of the caller raised where it is less than that through the call
abbrev pub raised : List ℕ → Edge → List ℕ → List ℕ
raised slots edge sums = if is_less slots edge sums then slice_set sums edge.caller (through slots edge sums) else sums

-- sums that are raised by calls from others
pub data AreRaised (slots : List ℕ) (edges : List Edge) (from : List ℕ) : List ℕ → Type 0 where
  same : AreRaised slots edges from from
  more : (edge : Edge) (sums : List ℕ) → Contains edges edge → AreRaised slots edges from sums → AreRaised slots edges from (raised slots edge sums)

abbrev pub total : List ℕ → ℕ
total sums = sum_by (λ n. n) sums

-- no call raises a sum
abbrev pub AreSteady : List ℕ → List Edge → List ℕ → Type 0
AreSteady slots edges sums = All (λ edge. through slots edge sums ≤ slice_index sums edge.caller) edges
