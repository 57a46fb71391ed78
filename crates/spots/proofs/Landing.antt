-- Where steps land.
use Rattle.std.proofs.Common.{◌≡◌, ◌↔◌, ◌⊎◌, inl, inr, Bool, true, false, List, [], ◌∷◌, ◌++◌, Contains, reverse, refl, sym, ap, subst, ◌∙◌, length, true≢false}
use Rattle.std.specs.Bool.{◌==◌}
use Rattle.std.proofs.lemmas.List.{reverse-reverse}
use Rattle.std.proofs.lemmas.List.Elements.{Contains-append_left, Contains-append_right, Contains-append_cases}
use Rattle.program.proofs.Lists.{contains_one, contains_here}
use Rattle.program.specs.Bounds.{Place, StandsAt}
use Rattle.program.specs.Program.{Prog}
use Rattle.thread_meaning.specs.Outcomes.{IsHere, NothingAt}
use Rattle.thread_meaning.specs.declared.code.Here.{Here}
use Rattle.code_paths.proofs.Exact.{alone, nothing, stands as there}
use Rattle.code_paths.specs.Hops.{place_of, places_of}
use Rattle.code_paths.specs.declared.place.CodePlace.{CodePlace}
use Rattle.spots.specs.Leading.{IsLandingOf, end_step, standing_step}
use Rattle.spots.specs.Spots.{AsksAt, IsQuestion, Lands, ends, stands, innermost_first, standing_at}
use Rattle.spots.specs.declared.leads.Landing.{Landing}
use Rattle.spots.specs.declared.leads.Lead.{Lead}

-- ---- Questions

pub none_asked : (p : Prog) (places : List CodePlace) → places ≡ [] → AsksAt p (places_of places) → ⊥
none_asked p places none asks =
    let e : [] ≡ asks.at ∷ asks.callers = sym (ap places_of none) ∙ asks.are in
    cc

pub nothing_asked : (p : Prog) (at : CodePlace) (others places : List CodePlace) → places ≡ at ∷ others → NothingAt p at.method at.pc → AsksAt p (places_of places) → ⊥
nothing_asked p at others places same none asks =
    let e : place_of at ∷ places_of others ≡ asks.at ∷ asks.callers = sym (ap places_of same) ∙ asks.are in
    let head : place_of at ≡ asks.at = cc in
    nothing p at asks.instr asks.names none (subst (λ (y : Place). StandsAt p y asks.instr asks.names) (sym head) asks.stands)

pub asked : (p : Prog) (at : CodePlace) (others places : List CodePlace) (here : Here) → places ≡ at ∷ others → IsHere p at.method at.pc here →
    IsQuestion here.names ↔ AsksAt p (places_of places)
asked p at others places here same is = (
  (λ question. record { at = place_of at; callers = places_of others; are = ap places_of same; instr = here.instr; names = here.names; stands = there p at here is; asks = question }),
  (λ asks. (let e : place_of at ∷ places_of others ≡ asks.at ∷ asks.callers = sym (ap places_of same) ∙ asks.are in
      let head : place_of at ≡ asks.at = cc in
      let one = alone p at here asks.instr asks.names is (subst (λ (y : Place). StandsAt p y asks.instr asks.names) (sym head) asks.stands) in
      subst IsQuestion one.names_is asks.asks)),
)

-- ---- Landing

one_place : (x y : CodePlace) → place_of x ≡ place_of y → x ≡ y
one_place x y e = λ i. record { method = (e i).method; pc = (e i).pc }

pub one_list : (xs ys : List CodePlace) → places_of xs ≡ places_of ys → xs ≡ ys
one_list [] [] e = refl
one_list [] (y ∷ ys) e = absurd cc
one_list (x ∷ xs) [] e = absurd cc
one_list (x ∷ xs) (y ∷ ys) e =
    let head : place_of x ≡ place_of y = cc in
    let tail : places_of xs ≡ places_of ys = cc in
    λ i. one_place x y head i ∷ one_list xs ys tail i

-- a chain whose places are these, the innermost first
pub one_chain : (chain places : List CodePlace) → innermost_first chain ≡ places_of places → chain ≡ reverse places
one_chain chain places e = sym (reverse-reverse chain) ∙ ap reverse (one_list (reverse chain) places e)

module _ (p : Prog) (landing : Landing) (places : List CodePlace) where
  -- behind the outermost return
  pub lands_at_end : places ≡ [] → (lead : Lead) → (lead ≡ end_step landing) ↔ IsLandingOf p landing places lead
  lands_at_end none lead = (
    (λ e. record { taken = ap (λ (l : Lead). l.taken) e; lands = ends (ap places_of none) (ap (λ (l : Lead). l.to) e) }),
    (λ is. go is.taken is.lands),
  )
    where
      go : lead.taken ≡ landing.taken → Lands p landing.thread landing.jumps (places_of places) lead.to → lead ≡ end_step landing
      go t (ends e to) = λ i. record { taken = t i; to = to i }
      go t (stands stand at callers e to jumps chain answer) =
          let f : [] ≡ at ∷ callers = sym (ap places_of none) ∙ e in
          cc

  standing_lands : (at : CodePlace) (others : List CodePlace) (answer : Bool) → places ≡ at ∷ others → (answer ≡ true → AsksAt p (places_of places)) → (lead : Lead) →
      lead ≡ standing_step landing places answer → IsLandingOf p landing places lead
  standing_lands at others answer same asks lead e = record {
    taken = ap (λ (l : Lead). l.taken) e;
    lands = stands (record { jumps = landing.jumps; places = reverse places; answer = answer }) (place_of at) (places_of others) (ap places_of same)
        (ap (λ (l : Lead). l.to) e) refl (ap places_of (reverse-reverse places)) asks;
  }

  lands_standing : (at : CodePlace) (others : List CodePlace) → places ≡ at ∷ others → (lead : Lead) → IsLandingOf p landing places lead →
      (answer : Bool) × (lead ≡ standing_step landing places answer) × (answer ≡ true → AsksAt p (places_of places))
  lands_standing at others same lead is = go is.taken is.lands
    where
      go : lead.taken ≡ landing.taken → Lands p landing.thread landing.jumps (places_of places) lead.to →
          (answer : Bool) × (lead ≡ standing_step landing places answer) × (answer ≡ true → AsksAt p (places_of places))
      go t (ends e to) =
          let f : place_of at ∷ places_of others ≡ [] = sym (ap places_of same) ∙ e in
          absurd cc
      go t (stands stand first callers e to jumps chain asks) =
          let chain_is = one_chain stand.places places chain in
          (stand.answer, (λ i. record { taken = t i; to = (to ∙ ap (standing_at landing.thread) (λ j. record { jumps = jumps j; places = chain_is j; answer = stand.answer })) i }), asks)

  -- before an instruction that asks nothing
  pub lands_once : (at : CodePlace) (others : List CodePlace) → places ≡ at ∷ others → (AsksAt p (places_of places) → ⊥) → (lead : Lead) →
      (lead ≡ standing_step landing places false) ↔ IsLandingOf p landing places lead
  lands_once at others same silent lead = (
    standing_lands at others false same (λ e. absurd cc) lead,
    (λ is. (let one = lands_standing at others same lead is in by one.0 one.1 one.2)),
  )
    where
      by : (answer : Bool) → lead ≡ standing_step landing places answer → (answer ≡ true → AsksAt p (places_of places)) → lead ≡ standing_step landing places false
      by false e asks = e
      by true e asks = absurd (silent (asks refl))

  -- before one that asks
  pub lands_twice : (at : CodePlace) (others : List CodePlace) → places ≡ at ∷ others → AsksAt p (places_of places) → (lead : Lead) →
      ((lead ≡ standing_step landing places false) ⊎ (lead ≡ standing_step landing places true)) ↔ IsLandingOf p landing places lead
  lands_twice at others same asks lead = (
    there_are,
    (λ is. (let one = lands_standing at others same lead is in by one.0 one.1)),
  )
    where
      there_are : (lead ≡ standing_step landing places false) ⊎ (lead ≡ standing_step landing places true) → IsLandingOf p landing places lead
      there_are (inl e) = standing_lands at others false same (λ _. asks) lead e
      there_are (inr e) = standing_lands at others true same (λ _. asks) lead e

      by : (answer : Bool) → lead ≡ standing_step landing places answer → (lead ≡ standing_step landing places false) ⊎ (lead ≡ standing_step landing places true)
      by false e = inl e
      by true e = inr e

-- ---- Pushing

pub pushed_one : {X : Type 0} (xs ys : List X) (x : X) (P : X → Type 0) → ys ≡ xs ++ x ∷ [] → ((y : X) → (y ≡ x) ↔ P y) → (y : X) → Contains ys y ↔ (Contains xs y ⊎ P y)
pushed_one xs ys x P same is y = (
  (λ there. by (Contains-append_cases xs (x ∷ []) y (subst (λ zs. Contains zs y) same there))),
  back,
)
  where
    by : Contains xs y ⊎ Contains (x ∷ []) y → Contains xs y ⊎ P y
    by (inl before) = inl before
    by (inr one) = inr ((is y).0 (sym (contains_one x y one)))

    back : Contains xs y ⊎ P y → Contains ys y
    back (inl before) = subst (λ zs. Contains zs y) (sym same) (Contains-append_left xs (x ∷ []) y before)
    back (inr holds) = subst (λ zs. Contains zs y) (sym same) (Contains-append_right xs (x ∷ []) y (subst (Contains (x ∷ [])) (sym ((is y).1 holds)) (contains_here x [])))

pub pushed_two : {X : Type 0} (xs ys zs : List X) (x z : X) (P : X → Type 0) → ys ≡ xs ++ x ∷ [] → zs ≡ ys ++ z ∷ [] → ((y : X) → ((y ≡ x) ⊎ (y ≡ z)) ↔ P y) →
    (y : X) → Contains zs y ↔ (Contains xs y ⊎ P y)
pushed_two xs ys zs x z P first second is y =
    let one = pushed_one xs ys x (λ w. w ≡ x) first (λ w. (λ e. e, λ e. e)) y in
    let two = pushed_one ys zs z (λ w. w ≡ z) second (λ w. (λ e. e, λ e. e)) y in
    ((λ there. by one.0 (two.0 there)), (λ there. back one.1 two.1 there))
  where
    by : (Contains ys y → Contains xs y ⊎ (y ≡ x)) → Contains ys y ⊎ (y ≡ z) → Contains xs y ⊎ P y
    by split (inr e) = inr ((is y).0 (inr e))
    by split (inl there) = inner (split there)
      where
        inner : Contains xs y ⊎ (y ≡ x) → Contains xs y ⊎ P y
        inner (inl before) = inl before
        inner (inr e) = inr ((is y).0 (inl e))

    back : (Contains xs y ⊎ (y ≡ x) → Contains ys y) → (Contains ys y ⊎ (y ≡ z) → Contains zs y) → Contains xs y ⊎ P y → Contains zs y
    back split wide (inl before) = wide (inl (split (inl before)))
    back split wide (inr holds) = inner ((is y).1 holds)
      where
        inner : (y ≡ x) ⊎ (y ≡ z) → Contains zs y
        inner (inl e) = wide (inl (split (inr e)))
        inner (inr e) = wide (inr e)

pub first_of : {X : Type 0} (xs : List X) → (length xs == 0) ≡ false → (x : X) × (ys : List X) × (xs ≡ x ∷ ys)
first_of [] e = absurd (true≢false e)
first_of (x ∷ xs) e = (x, xs, refl)
