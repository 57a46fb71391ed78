-- The names of variables.
use Rattle.std.proofs.Common.{◌≡◌, ◌<◌, ◌≤◌, ◌+◌, ◌++◌, ◌↔◌, ◌⊎◌, ℕ, List, [], ◌∷◌, Some, slice_get, slice_index_or, length, map, take, Contains, refl, sym, ◌∙◌, ap, subst, inl, inr, arith, zero, suc}
use Rattle.std.proofs.lemmas.List.{take_more}
use Rattle.program.proofs.Lists.{contains_at, place_of, contains_cases, contains_here, contains_later, contains_nil}
use Rattle.program.specs.declared.program.Variable.{Variable}
use Rattle.action_orders.specs.Actions.{Var, var_of}
use Rattle.orders.specs.Symbols.{Symbol, OfVariable, Extends, MatchesOr}

map_pushed : (xs : List Variable) (x : Variable) → map var_of (xs ++ x ∷ []) ≡ map var_of xs ++ var_of x ∷ []
map_pushed [] x = refl
map_pushed (y ∷ xs) x = ap (λ ys. var_of y ∷ ys) (map_pushed xs x)

contains_pushed : (vs : List Var) (v w : Var) → Contains (vs ++ v ∷ []) w → Contains vs w ⊎ (w ≡ v)
contains_pushed [] v w h = elim (contains_cases v w [] h) [ inl e ↦ inr (sym e) | inr never ↦ absurd (contains_nil w never) ]
contains_pushed (x ∷ vs) v w h = elim (contains_cases x w (vs ++ v ∷ []) h) [
  | inl e ↦ inl (subst (Contains (x ∷ vs)) e (contains_here x vs))
  | inr later ↦ elim (contains_pushed vs v w later) [ inl there ↦ inl (contains_later x w vs there) | inr e ↦ inr e ]
]

pushed_old : (vs : List Var) (v w : Var) → Contains vs w → Contains (vs ++ v ∷ []) w
pushed_old [] v w h = absurd (contains_nil w h)
pushed_old (x ∷ vs) v w h = elim (contains_cases x w vs h) [
  | inl e ↦ subst (Contains (x ∷ (vs ++ v ∷ []))) e (contains_here x (vs ++ v ∷ []))
  | inr later ↦ contains_later x w (vs ++ v ∷ []) (pushed_old vs v w later)
]

pushed_new : (vs : List Var) (v : Var) → Contains (vs ++ v ∷ []) v
pushed_new [] v = contains_here v []
pushed_new (x ∷ vs) v = contains_later x v (vs ++ v ∷ []) (pushed_new vs v)

abbrev pub Names : List Symbol → List Var → Type 0
Names symbols vs = (class name : List ℕ) → Contains symbols (OfVariable class name) ↔ Contains vs (record { class = class; name = name })

one_var : (c c' n n' : List ℕ) → c ≡ c' → n ≡ n' → (let v : Var = record { class = c; name = n } in let w : Var = record { class = c'; name = n' } in v ≡ w)
one_var c c' n n' e f = cc

-- one more variable
pub named_more : (items : List Variable) (i n : ℕ) (x : Variable) (old new : List Symbol) → i < length items → x ≡ slice_index_or items i x →
    slice_get new n ≡ Some (OfVariable x.class x.name) → Extends old new → ((s : Symbol) → Contains new s → MatchesOr old (OfVariable x.class x.name) s) →
    Names old (map var_of (take i items)) → Names new (map var_of (take (i + 1) items))
named_more items i n x old new within is added more only before class name =
    let v : Var = record { class = class; name = name } in
    let split : map var_of (take (i + 1) items) ≡ map var_of (take i items) ++ var_of x ∷ [] =
    ap (map var_of) (take_more items i x within ∙ ap (λ (y : Variable). take i items ++ y ∷ []) (sym is)) ∙ map_pushed (take i items) x in (
      λ there. subst (λ (vs : List Var). Contains vs v) (sym split) (elim (only (OfVariable class name) there) [
        | inl early ↦ pushed_old (map var_of (take i items)) (var_of x) v ((before class name).0 early)
        | inr e ↦ (let same_class : class ≡ x.class = cc in let same_name : name ≡ x.name = cc in
            subst (Contains (map var_of (take i items) ++ var_of x ∷ [])) (one_var x.class class x.name name (sym same_class) (sym same_name)) (pushed_new (map var_of (take i items)) (var_of x)))
      ]),
      λ there. elim (contains_pushed (map var_of (take i items)) (var_of x) v (subst (λ (vs : List Var). Contains vs v) split there)) [
        | inl early ↦ (let (k, at) = place_of old (OfVariable class name) ((before class name).1 early) in contains_at new k (OfVariable class name) (more k (OfVariable class name) at))
        | inr e ↦ subst (Contains new) (ap (λ (w : Var). OfVariable w.class w.name) (sym e)) (contains_at new n (OfVariable x.class x.name) added)
      ],
    )

take_past : (xs : List Variable) (i : ℕ) → length xs ≤ i → take i xs ≡ xs
take_past [] zero h = refl
take_past [] (suc i) h = refl
take_past (x ∷ xs) zero h = let never : ⊥ = omega arith in absurd never
take_past (x ∷ xs) (suc i) h = ap (λ ys. x ∷ ys) (take_past xs i (omega arith))

pub all_named : (items all : List Variable) (i : ℕ) (names : List Symbol) → items ≡ all → length items ≤ i → Names names (map var_of (take i items)) → Names names (map var_of all)
all_named items all i names same past named = subst (λ (xs : List Variable). Names names (map var_of xs)) (take_past items i past ∙ same) named
