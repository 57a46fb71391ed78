-- The greatest sums are those of chains.
use Rattle.std.proofs.Common.{◌≡◌, ◌<◌, ◌≤◌, ◌+◌, ◌↔◌, ℕ, Bool, true, false, List, [], ◌∷◌, Some, All, Any, Contains, IsTrue, length, get_or, map, set, slice_get, sum_by, refl, sym, ap, ◌∙◌, subst, arith, inl, inr}
use Rattle.std.proofs.lemmas.Bool.{cases_eq, ltb-true}
use Rattle.std.proofs.lemmas.List.{get_or-map, get_or-set_same, get_or-set_other, get_or_default, length-map}
use Rattle.std.proofs.lemmas.List.Elements.{All-contains, All-cons, All-head, All-tail, All-map, All-weaker}
use Rattle.std.proofs.lemmas.List.Sums.{sum_by-cons}
use Rattle.std.proofs.lemmas.Option.{slice_get_within, slice_get_read, get_or_from_slice_get, same_Some}
use Rattle.program.proofs.Lists.{there_is}
use Rattle.typing.specs.declared.untyped.UntypedMethod.{UntypedMethod}
use Rattle.untyped_program.specs.Edges.{AreRaised, AreSteady, cut, through, is_less, raised, edges_from, IsAmong}
use Rattle.untyped_program.specs.Edges.AreRaised.{same, more}
use Rattle.untyped_program.specs.Limits.{slots_of, CallsMethod, IsChain, HasDeepChain, AreByPlace}
use Rattle.untyped_program.specs.declared.edges.Edge.{Edge}
use Rattle.untyped_program.proofs.CallEdges.{IsEdge, all_edges, call_is_edge, among}
use Rattle.untyped_program.proofs.Sums.{less_raised, other_raised, length-raised, small_raised}

abbrev get_or_of : List ℕ → ℕ → ℕ
get_or_of xs k = get_or xs k 0

abbrev get_or_at : ℕ → List ℕ → ℕ
get_or_at k xs = get_or xs k 0

small_cut : (n : ℕ) → cut n ≤ 17
small_cut n = omega arith

cut-add : (a b : ℕ) → cut (cut a + cut b) ≡ cut (a + b)
cut-add a b = omega arith

module _ (methods : List UntypedMethod) where
  abbrev slots : List ℕ
  slots = map (λ m. cut (slots_of m)) methods

  abbrev edges : List Edge
  edges = edges_from methods 0 methods

  pub edges_among : All (IsAmong (length methods)) edges
  edges_among = All-weaker (IsEdge methods) (IsAmong (length methods)) (among methods) edges (all_edges methods)

  pub slots_small : All (λ n. n ≤ 17) slots
  slots_small = All-map (λ n. n ≤ 17) (λ m. cut (slots_of m)) methods (λ k d within. small_cut (slots_of (get_or methods k d)))

  slots-at : (i : ℕ) (m : UntypedMethod) → slice_get methods i ≡ Some m → get_or slots i 0 ≡ cut (slots_of m)
  slots-at i m there =
      get_or-map (λ x. cut (slots_of x)) methods i m 0 (slice_get_within methods i m there)
      ∙ ap (λ (x : UntypedMethod). cut (slots_of x)) (get_or_from_slice_get methods i m m there)

  -- ---- Each sum is a chain's

  -- a chain from this method on has this sum, cut off
  pub record Reaches (m : UntypedMethod) (sum : ℕ) : Type 0 where
    pub rest : List UntypedMethod
    pub chain : IsChain methods (m ∷ rest)
    pub sum_is : sum ≡ cut (sum_by slots_of (m ∷ rest))

  in_list : (i : ℕ) (m : UntypedMethod) → slice_get methods i ≡ Some m → Contains methods m
  in_list i m there = (i, slice_get_within methods i m there, get_or_from_slice_get methods i m m there)

  alone : (i : ℕ) (m : UntypedMethod) → slice_get methods i ≡ Some m → Reaches m (get_or slots i 0)
  alone i m there = record {
    rest = [];
    chain = record { among = All-cons (Contains methods) m [] (in_list i m there) (λ k d within. absurd (omega arith)); calls = tt };
    sum_is = let whole = sum_by-cons slots_of m [] in let e : slots_of m ≡ sum_by slots_of (m ∷ []) = omega (arith, whole) in slots-at i m there ∙ ap cut e;
  }

  longer : (u v : UntypedMethod) (i : ℕ) (sum : ℕ) → slice_get methods i ≡ Some u → CallsMethod u v → Reaches v sum → Reaches u (cut (get_or slots i 0 + sum))
  longer u v i sum there calls reach = record {
    rest = v ∷ reach.rest;
    chain = record { among = All-cons (Contains methods) u (v ∷ reach.rest) (in_list i u there) reach.chain.among; calls = (calls, reach.chain.calls) };
    sum_is =
        let own = slots-at i u there in
        let rest = reach.sum_is in
        let whole = sum_by-cons slots_of u (v ∷ reach.rest) in
        ap (λ (n : ℕ). cut (n + sum)) own ∙ ap (λ (n : ℕ). cut (cut (slots_of u) + n)) rest ∙ cut-add (slots_of u) (sum_by slots_of (v ∷ reach.rest)) ∙ ap cut (sym whole);
  }

  same_length : (sums : List ℕ) → AreRaised slots edges slots sums → length sums ≡ length methods
  same_length sums same = length-map methods (λ m. cut (slots_of m))
  same_length sums (more edge before among raises) = length-raised slots edge before ∙ same_length before raises

  raised_reaches : (edge : Edge) (before : List ℕ) (is : IsEdge methods edge) → length before ≡ length methods → Reaches is.called (get_or before edge.called 0) →
      (i : ℕ) (m : UntypedMethod) → slice_get methods i ≡ Some m → Reaches m (get_or before i 0) → (b : Bool) → is_less slots edge before ≡ b → Reaches m (get_or (raised slots edge before) i 0)
  raised_reaches edge before is size next i m there old true less = elim (cases_eq edge.caller i) [
    | inl at ↦ (let within = slice_get_within methods edge.caller is.caller is.caller_there in
        let new : get_or (raised slots edge before) i 0 ≡ through slots edge before =
        ap (λ (sums : List ℕ). get_or sums i 0) (less_raised slots edge before less)
        ∙ ap (get_or_of (set before edge.caller (through slots edge before))) (sym at)
        ∙ get_or-set_same before edge.caller (through slots edge before) 0 (omega (arith, within, size)) in
        let who : is.caller ≡ m = same_Some is.caller m (sym is.caller_there ∙ ap (slice_get methods) at ∙ there) in
        subst (Reaches m) (sym new)
        (subst (λ (x : UntypedMethod). Reaches x (through slots edge before)) who
        (longer is.caller is.called edge.caller (get_or before edge.called 0) is.caller_there is.calls next)))
    | inr apart ↦
        subst (Reaches m) (sym (ap (λ (sums : List ℕ). get_or sums i 0) (less_raised slots edge before less)
        ∙ get_or-set_other before edge.caller i (through slots edge before) 0 (λ e. apart (sym e)))) old
  ]
  raised_reaches edge before is size next i m there old false less = subst (λ (sums : List ℕ). Reaches m (get_or sums i 0)) (sym (other_raised slots edge before less)) old

  reaches : (sums : List ℕ) → AreRaised slots edges slots sums → (i : ℕ) (m : UntypedMethod) → slice_get methods i ≡ Some m → Reaches m (get_or sums i 0)
  reaches sums same i m there = alone i m there
  reaches sums (more edge before among raises) i m there =
      let is : IsEdge methods edge = All-contains (IsEdge methods) edges edge (all_edges methods) among in
      raised_reaches edge before is (same_length before raises) (reaches before raises edge.called is.called is.called_there) i m there (reaches before raises i m there)
      (is_less slots edge before) refl

  -- ---- No chain has more

  raised_least : (edge : Edge) (before : List ℕ) (i : ℕ) → edge.caller < length before → (b : Bool) → is_less slots edge before ≡ b → get_or before i 0 ≤ get_or (raised slots edge before) i 0
  raised_least edge before i within true less = elim (cases_eq edge.caller i) [
    | inl at ↦ (let low = ltb-true (get_or before edge.caller 0) (through slots edge before) less in
        let new : get_or (raised slots edge before) i 0 ≡ through slots edge before =
        ap (λ (sums : List ℕ). get_or sums i 0) (less_raised slots edge before less)
        ∙ ap (get_or_of (set before edge.caller (through slots edge before))) (sym at)
        ∙ get_or-set_same before edge.caller (through slots edge before) 0 within in
        let old : get_or before edge.caller 0 ≡ get_or before i 0 = ap (get_or_of before) at in
        omega (arith, low, new, old))
    | inr apart ↦ (let new = ap (λ (sums : List ℕ). get_or sums i 0) (less_raised slots edge before less)
        ∙ get_or-set_other before edge.caller i (through slots edge before) 0 (λ e. apart (sym e)) in omega (arith, new))
  ]
  raised_least edge before i within false less = let e : get_or (raised slots edge before) i 0 ≡ get_or before i 0 = ap (get_or_at i) (other_raised slots edge before less) in omega (arith, e)

  least : (sums : List ℕ) → AreRaised slots edges slots sums → (i : ℕ) → get_or slots i 0 ≤ get_or sums i 0
  least sums same i = omega arith
  least sums (more edge before among raises) i =
      let is : IsEdge methods edge = All-contains (IsEdge methods) edges edge (all_edges methods) among in
      let inside = slice_get_within methods edge.caller is.caller is.caller_there in
      let size = same_length before raises in
      let first = least before raises i in
      let step = raised_least edge before i (omega (arith, inside, size)) (is_less slots edge before) refl in
      omega (arith, first, step)

  pub small_sums : (sums : List ℕ) → AreRaised slots edges slots sums → All (λ n. n ≤ 17) sums
  small_sums sums same = slots_small
  small_sums sums (more edge before among raises) = small_raised slots edge before (small_sums before raises)

  module _ (by_place : AreByPlace methods) (sums : List ℕ) (raises : AreRaised slots edges slots sums) (steady : AreSteady slots edges sums) where
    bounded : (rest : List UntypedMethod) (u : UntypedMethod) (i : ℕ) → IsChain methods (u ∷ rest) → slice_get methods i ≡ Some u → cut (sum_by slots_of (u ∷ rest)) ≤ get_or sums i 0
    bounded [] u i chain there =
        let own = slots-at i u there in
        let low = least sums raises i in
        let whole = sum_by-cons slots_of u [] in
        omega (arith, own, low, whole)
    bounded (v ∷ rest) u i chain there =
        let others = All-tail (Contains methods) u (v ∷ rest) chain.among in
        let place = All-head (Contains methods) v rest others in
        let j = place.0 in
        let v_there : slice_get methods j ≡ Some v = slice_get_read methods (length methods) j v refl place.1 (sym place.2) in
        let later = bounded rest v j (record { among = others; calls = chain.calls.1 }) v_there in
        let step = All-contains (λ edge. through slots edge sums ≤ get_or sums edge.caller 0) edges (record { caller = i; called = j }) steady
        (call_is_edge methods by_place i j u v there v_there chain.calls.0) in
        let own = slots-at i u there in
        let whole = sum_by-cons slots_of u (v ∷ rest) in
        omega (arith, later, step, own, whole)

    deep_if : Any (λ n. n ≡ 17) sums → HasDeepChain methods
    deep_if (k, n, within, is, cut_off) =
        let size = same_length sums raises in
        let m = there_is methods k (omega (arith, within, size)) in
        let reach = reaches sums raises k m.0 m.1 in
        let sum = reach.sum_is in
        let at : get_or sums k 0 ≡ 17 = get_or_default sums k 0 n within ∙ is ∙ cut_off in
        record { chain = m.0 ∷ reach.rest; is_chain = reach.chain; deep = omega (arith, sum, at) }

    deep_only : (chain : List UntypedMethod) → IsChain methods chain → 16 < sum_by slots_of chain → Any (λ n. n ≡ 17) sums
    deep_only [] chain deep = absurd (omega (arith, deep))
    deep_only (u ∷ rest) chain deep =
        let place = All-head (Contains methods) u rest chain.among in
        let i = place.0 in
        let there : slice_get methods i ≡ Some u = slice_get_read methods (length methods) i u refl place.1 (sym place.2) in
        let size = same_length sums raises in
        let within : i < length sums = omega (arith, place.1, size) in
        let low = bounded rest u i chain there in
        let high = small_sums sums raises i 0 within in
        (i, get_or sums i 0, within, get_or_default sums i (get_or sums i 0) 0 within, omega (arith, low, high, deep))

    pub tells_deep : (b : Bool) → (IsTrue b ↔ Any (λ n. n ≡ 17) sums) → (IsTrue b ↔ HasDeepChain methods)
    tells_deep b tells = (λ is. deep_if (tells.0 is), λ deep. tells.1 (deep_only deep.chain deep.is_chain deep.deep))
