-- Edges that are added one after the other.
use Rattle.std.proofs.Common.{suc, take, get_or, slice_get, ◌≡◌, ◌↔◌, ◌⊎◌, ◌+◌, ◌<◌, inl, inr, ℕ, Bool, List, [], ◌∷◌, ◌++◌, Contains, Some, length, refl, sym, ap, subst, ◌∙◌}
use native.Mathlib.Omega.{arith}
use Rattle.std.proofs.Math.Nat.{eq-or-lt_of_le}
use Rattle.std.proofs.lemmas.Option.{slice_get_within}
use Rattle.program.proofs.Lists.{contains_at, contains_here, contains_nil, contains_one}
use Rattle.program.specs.Program.{Prog}
use Rattle.spots.proofs.FirstItems.{among_first}
use Rattle.spots.specs.Spots.{Leads}
use Rattle.spots.specs.declared.leads.Lead.{Lead}
use Rattle.spots.specs.declared.spot.Spot.{Spot}
use Rattle.graph_shape.specs.Edges.{IsEdge, IsEdgeAlong, IsEdgeFrom, IsEdgeOf}
use Rattle.graph_shape.specs.declared.edge.Edge.{Edge}

-- what holds of the old ones, and what was added: one change after the other
pub both : {A B C P Q S : Type 0} → B ↔ (A ⊎ P) → C ↔ (B ⊎ Q) → S ↔ (P ⊎ Q) → C ↔ (A ⊎ S)
both {A} {B} {C} {P} {Q} {S} one two is = ((λ c. f (two.0 c)), g)
  where
    f : B ⊎ Q → A ⊎ S
    f (inr q) = inr (is.1 (inr q))
    f (inl b) = h (one.0 b)
      where
        h : A ⊎ P → A ⊎ S
        h (inl a) = inl a
        h (inr p) = inr (is.1 (inl p))

    g : A ⊎ S → C
    g (inl a) = two.1 (inl (one.1 (inl a)))
    g (inr s) = k (is.0 s)
      where
        k : P ⊎ Q → C
        k (inl p) = two.1 (inl (one.1 (inr p)))
        k (inr q) = two.1 (inr q)

pub same : {A B P S : Type 0} → B ↔ (A ⊎ P) → P ↔ S → B ↔ (A ⊎ S)
same {A} {B} {P} {S} one is = ((λ b. f (one.0 b)), g)
  where
    f : A ⊎ P → A ⊎ S
    f (inl a) = inl a
    f (inr p) = inr (is.0 p)

    g : A ⊎ S → B
    g (inl a) = one.1 (inl a)
    g (inr s) = one.1 (inr (is.1 s))

module _ (spots : List Spot) (from : ℕ) where
  -- the one edge along a step
  pub along_one : (step : Lead) (to : ℕ) (once : (n : ℕ) → slice_get spots n ≡ Some step.to → n ≡ to) → slice_get spots to ≡ Some step.to → (e : Edge) →
      (e ≡ record { from = from; taken = step.taken; to = to }) ↔ IsEdgeAlong spots from step e
  along_one step to once is e = (
    (λ same. record { begins = ap (λ (x : Edge). x.from) same; taken = ap (λ (x : Edge). x.taken) same; second = ap (λ (x : Edge). slice_get spots x.to) same ∙ is }),
    (λ along. (let t = once e.to along.second in λ i. record { from = along.begins i; taken = along.taken i; to = t i })),
  )

  module _ (steps : List Lead) where
    pub of_more : (k : ℕ) (step : Lead) → k < length steps → step ≡ get_or steps k step → (e : Edge) →
        IsEdgeOf spots from (take (k + 1) steps) e ↔ (IsEdgeOf spots from (take k steps) e ⊎ IsEdgeAlong spots from step e)
    of_more k step within is e = (by, back)
      where
        first : (l : Lead) → Contains (take (k + 1) steps) l ↔ (Contains (take k steps) l ⊎ (l ≡ step))
        first l = among_first steps k step l within is

        parts : (l : Lead) → IsEdgeAlong spots from l e → Contains (take k steps) l ⊎ (l ≡ step) → IsEdgeOf spots from (take k steps) e ⊎ IsEdgeAlong spots from step e
        parts l along (inl there) = inl (l, there, along)
        parts l along (inr one) = inr (subst (λ (z : Lead). IsEdgeAlong spots from z e) one along)

        by : IsEdgeOf spots from (take (k + 1) steps) e → IsEdgeOf spots from (take k steps) e ⊎ IsEdgeAlong spots from step e
        by of = parts of.0 of.2 ((first of.0).0 of.1)

        back : IsEdgeOf spots from (take k steps) e ⊎ IsEdgeAlong spots from step e → IsEdgeOf spots from (take (k + 1) steps) e
        back (inl of) = (of.0, (first of.0).1 (inl of.1), of.2)
        back (inr along) = (step, (first step).1 (inr refl), along)

    pub of_all : (p : Prog) (limit : ℕ) (spot : Spot) → slice_get spots from ≡ Some spot → ((lead : Lead) → Contains steps lead ↔ Leads p limit spot lead.taken lead.to) → (n : ℕ) → take n steps ≡ steps → (e : Edge) →
        IsEdgeOf spots from (take n steps) e ↔ IsEdgeFrom p limit spots from e
    of_all p limit spot at exact n all e = (
      (λ of. (let along = of.2 in record {
        begins = along.begins;
        is_edge = record {
          first = spot;
          second = of.0.to;
          is_first = ap (slice_get spots) along.begins ∙ at;
          is_second = along.second;
          leads = subst (λ (b : Bool). Leads p limit spot b of.0.to) (sym along.taken) ((exact of.0).0 (subst (λ (xs : List Lead). Contains xs of.0) all of.1));
        };
      })),
      (λ edge. (let is = edge.is_edge in
          let one : Some is.first ≡ Some spot = sym is.is_first ∙ ap (slice_get spots) edge.begins ∙ at in
          let here : is.first ≡ spot = cc in
          let step : Lead = record { taken = e.taken; to = is.second } in (
            step,
            subst (λ (xs : List Lead). Contains xs step) (sym all) ((exact step).1 (subst (λ (s : Spot). Leads p limit s e.taken is.second) here is.leads)),
            record { begins = edge.begins; taken = refl; second = is.is_second },
          ))),
    )

-- ---- From spot to spot

-- the edges from the first spots
abbrev pub FromBelow : Prog → ℕ → List Spot → ℕ → Edge → Type 0
FromBelow p limit spots n edge = (edge.from < n) × IsEdge p limit spots edge

module _ (p : Prog) (limit : ℕ) (spots : List Spot) where
  pub one_below : (n : ℕ) (e : Edge) → FromBelow p limit spots (n + 1) e ↔ (FromBelow p limit spots n e ⊎ IsEdgeFrom p limit spots n e)
  one_below n e = ((λ below. by below.0 below.1 (eq-or-lt_of_le (let less = below.0 in omega arith))), back)
    where
      by : e.from < n + 1 → IsEdge p limit spots e → (e.from ≡ n) ⊎ (e.from < n) → FromBelow p limit spots n e ⊎ IsEdgeFrom p limit spots n e
      by less edge (inl same) = inr (record { begins = same; is_edge = edge })
      by less edge (inr below) = inl (below, edge)

      back : FromBelow p limit spots n e ⊎ IsEdgeFrom p limit spots n e → FromBelow p limit spots (n + 1) e
      back (inl below) = ((let less = below.0 in omega arith), below.1)
      back (inr edge) = ((let begins = edge.begins in omega arith), edge.is_edge)

  pub all_below : (n : ℕ) → n ≡ length spots → (e : Edge) → FromBelow p limit spots n e ↔ IsEdge p limit spots e
  all_below n all e = (
    (λ below. below.1),
    (λ edge. ((let within = slice_get_within spots e.from edge.first edge.is_first in omega arith), edge)),
  )

pub grown : {A B C P : Type 0} → B ↔ (A ⊎ P) → C ↔ (A ⊎ P) → B ↔ C
grown one two = ((λ b. two.1 (one.0 b)), (λ c. one.1 (two.0 c)))

pub replaced : {A B P : Type 0} (old : A ↔ P) → {Q : Type 0} → B ↔ (A ⊎ Q) → B ↔ (P ⊎ Q)
replaced {A} {B} {P} old {Q} one = ((λ b. f (one.0 b)), λ s. one.1 (g s))
  where
    f : A ⊎ Q → P ⊎ Q
    f (inl a) = inl (old.0 a)
    f (inr q) = inr q

    g : P ⊎ Q → A ⊎ Q
    g (inl p) = inl (old.1 p)
    g (inr q) = inr q
