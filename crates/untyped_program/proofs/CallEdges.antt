-- The edges are exactly the calls between the methods.
use Rattle.std.proofs.Common.{◌≡◌, ◌<◌, ◌+◌, ◌⊎◌, ℕ, zero, suc, Bool, List, [], ◌∷◌, Option, Some, None, All, Contains, length, get_or, position, slice_get, refl, sym, ap, ◌∙◌, subst, arith, inl, inr, add-zero}
use Rattle.std.specs.List.{cons_option, filter_map}
use Rattle.std.specs.Option.{option_map}
use Rattle.std.proofs.lemmas.Bool.{cases_eq, cases_lt}
use Rattle.std.proofs.lemmas.List.Elements.{All-nil, All-cons, All-append, All-head, All-tail, All-contains_itself, Contains-append_left, Contains-append_right}
use Rattle.std.proofs.lemmas.List.{get_or_default}
use Rattle.std.proofs.lemmas.List.Folds.{list_any-from_Any}
use Rattle.std.proofs.lemmas.List.Quantifiers.{position-Some}
use Rattle.std.proofs.lemmas.Option.{none-some, same_Some, slice_get_within, get_or_from_slice_get, slice_get_read}
use Rattle.program.specs.declared.method.MethodId.{MethodId}
use Rattle.reached_methods.specs.Reached.{is_method}
use Rattle.typing.specs.declared.symbol.Symbol.{Symbol}
use Rattle.typing.specs.declared.symbol.Symbol.TheVariants as symbol
use Rattle.typing.specs.declared.untyped.UntypedMethod.{UntypedMethod}
use Rattle.untyped_program.specs.Edges.{IsAmong, edge_of, edges_from}
use Rattle.untyped_program.specs.Limits.{CallsMethod, AreByPlace}
use Rattle.untyped_program.specs.declared.edges.Edge.{Edge}
use Rattle.untyped_program.proofs.KnownTargets.{some_position, from_some}
use Rattle.untyped_program.proofs.Places.{is_same, is_method_of, not_itself}

-- the method at the one place calls that at the other
pub record IsEdge (methods : List UntypedMethod) (edge : Edge) : Type 0 where
  pub caller : UntypedMethod
  pub called : UntypedMethod
  pub caller_there : slice_get methods edge.caller ≡ Some caller
  pub called_there : slice_get methods edge.called ≡ Some called
  pub calls : CallsMethod caller called

pub among : (methods : List UntypedMethod) (edge : Edge) → IsEdge methods edge → IsAmong (length methods) edge
among methods edge is = record { caller = slice_get_within methods edge.caller is.caller is.caller_there; called = slice_get_within methods edge.called is.called is.called_there }

contains_first : {X : Type 0} (x : X) (xs : List X) → Contains (x ∷ xs) x
contains_first x xs = (0, omega arith, refl)

contains_rest : {X : Type 0} (x y : X) (xs : List X) → Contains xs y → Contains (x ∷ xs) y
contains_rest x y xs (k, within, is) = (suc k, omega arith, is)

in_options : {Y : Type 0} (o : Option Y) (ys : List Y) (y : Y) → (o ≡ Some y) ⊎ Contains ys y → Contains (cons_option o ys) y
in_options (Some a) ys y (inl same) = subst (λ z. Contains (z ∷ ys) y) (sym (same_Some a y same)) (contains_first y ys)
in_options (Some a) ys y (inr there) = contains_rest a y ys there
in_options None ys y (inl same) = cc
in_options None ys y (inr there) = there

in_map : {X Y : Type 0} (h : X → Option Y) (xs : List X) (x : X) (y : Y) → Contains xs x → h x ≡ Some y → Contains (filter_map h xs) y
in_map h [] x y (k, within, at) is = absurd (omega arith)
in_map h (z ∷ xs) x y (zero, within, at) is = in_options (h z) (filter_map h xs) y (inl (ap h at ∙ is))
in_map h (z ∷ xs) x y (suc k, within, at) is = in_options (h z) (filter_map h xs) y (inr (in_map h xs x y (k, omega arith, at) is))

all_options : {Y : Type 0} (P : Y → Type 0) (o : Option Y) (ys : List Y) → ((y : Y) → o ≡ Some y → P y) → All P ys → All P (cons_option o ys)
all_options P (Some a) ys first rest = All-cons P a ys (first a refl) rest
all_options P None ys first rest = rest

mapped : {X Y : Type 0} (h : X → Y) (o : Option X) (y : Y) → option_map h o ≡ Some y → (x : X) × (o ≡ Some x) × (h x ≡ y)
mapped h (Some x) y is = (x, refl, same_Some (h x) y is)
mapped h None y is = absurd (none-some y is)

module _ (methods : List UntypedMethod) where
  edge_at : ℕ → ℕ → Edge
  edge_at caller called = record { caller = caller; called = called }

  -- ---- Each edge is a call

  call_edge : (place : ℕ) (m : UntypedMethod) → slice_get methods place ≡ Some m → (id : MethodId) (parameters : ℕ) (result : Bool) → Contains m.symbols (symbol.Call id parameters result) →
      (edge : Edge) → edge_of methods place (symbol.Call id parameters result) ≡ Some edge → IsEdge methods edge
  call_edge place m there id parameters result call edge is =
      let found = mapped (λ called. record { caller = place; called = called }) (position (λ x. is_method x.id id) methods) edge is in
      let first = position-Some (λ x. is_method x.id id) methods found.0 m found.1 in
      let called = get_or methods found.0 m in
      let same : called.id ≡ id = is_same called.id id first.1 in
      let called_there : slice_get methods found.0 ≡ Some called = slice_get_read methods (length methods) found.0 called refl first.0 (get_or_default methods found.0 m called first.0) in
      subst (IsEdge methods) found.2 (record {
        caller = m;
        called = called;
        caller_there = there;
        called_there = called_there;
        calls = record { parameters = parameters; result = result; call = subst (λ (x : MethodId). Contains m.symbols (symbol.Call x parameters result)) (sym same) call };
      })

  sound_of : (place : ℕ) (m : UntypedMethod) → slice_get methods place ≡ Some m → (symbols : List Symbol) → All (Contains m.symbols) symbols → All (IsEdge methods) (filter_map (edge_of methods place) symbols)
  sound_of place m there [] all = All-nil (IsEdge methods)
  sound_of place m there (symbol.Call id parameters result ∷ symbols) all =
      all_options (IsEdge methods) (edge_of methods place (symbol.Call id parameters result)) (filter_map (edge_of methods place) symbols)
      (call_edge place m there id parameters result (All-head (Contains m.symbols) (symbol.Call id parameters result) symbols all))
      (sound_of place m there symbols (All-tail (Contains m.symbols) (symbol.Call id parameters result) symbols all))
  sound_of place m there (s ∷ symbols) all = sound_of place m there symbols (All-tail (Contains m.symbols) s symbols all)

  sound_from : (place : ℕ) (rest : List UntypedMethod) → ((k : ℕ) (m : UntypedMethod) → slice_get rest k ≡ Some m → slice_get methods (place + k) ≡ Some m) → All (IsEdge methods) (edges_from methods place rest)
  sound_from place [] at = All-nil (IsEdge methods)
  sound_from place (m ∷ rest) at =
      All-append (IsEdge methods) (filter_map (edge_of methods place) m.symbols) (edges_from methods (place + 1) rest)
      (sound_of place m (ap (slice_get methods) (sym (add-zero place)) ∙ at 0 m refl) m.symbols (All-contains_itself m.symbols))
      (sound_from (place + 1) rest (λ k x there. ap (slice_get methods) (next k) ∙ at (suc k) x there))
    where
      next : (k : ℕ) → place + 1 + k ≡ place + suc k
      next k = omega arith

  pub all_edges : All (IsEdge methods) (edges_from methods 0 methods)
  all_edges = sound_from 0 methods (λ k m there. let e : 0 + k ≡ k = omega arith in ap (slice_get methods) e ∙ there)

  -- ---- Each call is an edge

  whole_from : (place : ℕ) (rest : List UntypedMethod) (k : ℕ) (u : UntypedMethod) (edge : Edge) → slice_get rest k ≡ Some u → Contains (filter_map (edge_of methods (place + k)) u.symbols) edge →
      Contains (edges_from methods place rest) edge
  whole_from place [] k u edge there has = absurd (none-some u there)
  whole_from place (m ∷ rest) zero u edge there has =
      Contains-append_left (filter_map (edge_of methods place) m.symbols) (edges_from methods (place + 1) rest) edge
      (subst (λ (x : UntypedMethod). Contains (filter_map (edge_of methods place) x.symbols) edge) (sym (same_Some m u there))
      (subst (λ (n : ℕ). Contains (filter_map (edge_of methods n) u.symbols) edge) (add-zero place) has))
  whole_from place (m ∷ rest) (suc k) u edge there has =
      Contains-append_right (filter_map (edge_of methods place) m.symbols) (edges_from methods (place + 1) rest) edge
      (whole_from (place + 1) rest k u edge there (subst (λ (n : ℕ). Contains (filter_map (edge_of methods n) u.symbols) edge) next has))
    where
      next : place + suc k ≡ place + 1 + k
      next = omega arith

  only_place : AreByPlace methods → (j : ℕ) (v : UntypedMethod) → slice_get methods j ≡ Some v → position (λ m. is_method m.id v.id) methods ≡ Some j
  only_place by_place j v there =
      let within = slice_get_within methods j v there in
      let at : get_or methods j v ≡ v = get_or_from_slice_get methods j v v there in
      let any = list_any-from_Any (λ m. is_method m.id v.id) methods (j, v, within, at, is_method_of v.id v.id refl) in
      let found = from_some (position (λ m. is_method m.id v.id) methods) (some_position (λ m. is_method m.id v.id) methods any) in
      let first = position-Some (λ m. is_method m.id v.id) methods found.0 v found.1 in
      let same : (get_or methods found.0 v).id ≡ v.id = is_same (get_or methods found.0 v).id v.id first.1 in
      let own : (get_or methods j v).id ≡ v.id = ap (λ (m : UntypedMethod). m.id) at in
      elim (cases_eq found.0 j) [
        | inl e ↦ found.1 ∙ ap (λ (n : ℕ). Some n) e
        | inr apart ↦ elim (cases_lt found.0 j) [
          | inl lt ↦ absurd (not_itself (get_or methods found.0 v).id (get_or methods j v).id (same ∙ sym own) (by_place found.0 j v lt within))
          | inr ge ↦ (let gt : j < found.0 = omega arith in
              absurd (not_itself (get_or methods j v).id (get_or methods found.0 v).id (own ∙ sym same) (by_place j found.0 v gt first.0)))
        ]
      ]

  pub call_is_edge : AreByPlace methods → (i j : ℕ) (u v : UntypedMethod) → slice_get methods i ≡ Some u → slice_get methods j ≡ Some v → CallsMethod u v →
      Contains (edges_from methods 0 methods) (record { caller = i; called = j })
  call_is_edge by_place i j u v u_there v_there calls =
      let e : 0 + i ≡ i = omega arith in
      whole_from 0 methods i u (record { caller = i; called = j }) u_there
      (subst (λ (n : ℕ). Contains (filter_map (edge_of methods n) u.symbols) (record { caller = i; called = j })) (sym e)
      (in_map (edge_of methods i) u.symbols (symbol.Call v.id calls.parameters calls.result) (record { caller = i; called = j }) calls.call
      (ap (option_map (λ called. record { caller = i; called = called })) (only_place by_place j v v_there))))
