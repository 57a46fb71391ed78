-- One step from where a thread stands.
use Rattle.std.proofs.Common.{◌≡◌, ◌≤◌, ℕ, Bool, true, false, List, [], ◌∷◌, map, refl, sym, ap, subst, ◌∙◌, true≢false}
use Rattle.std.proofs.lemmas.List.{reverse-reverse}
use Rattle.program.specs.Bounds.{Begins, Place, Successor}
use Rattle.program.specs.Program.{Prog}
use Rattle.code_paths.proofs.Exact.{ended}
use Rattle.code_paths.specs.Hops.{places_of}
use Rattle.code_paths.specs.declared.place.CodePlace.{CodePlace}
use Rattle.spots.proofs.Landing.{one_chain}
use Rattle.spots.specs.Spots.{AsksAt, Lands, Leads, begin_of, begins, ends, innermost_first, jumps_after, standing_at, stands, steps}
use Rattle.spots.specs.declared.spot.Spot.{Spot}
use Rattle.spots.specs.declared.spot.Standing.{Standing}
use Rattle.spot_routes.specs.Routes.{AnsweredHop, CanAnswer, chain_of, code_place_of, spot_at}

-- ---- Chains

places_back : (places : List Place) → places_of (map code_place_of places) ≡ places
places_back [] = refl
places_back (x ∷ xs) = ap (λ (ys : List Place). x ∷ ys) (places_back xs)

pub chain_back : (places : List Place) → innermost_first (chain_of places) ≡ places
chain_back places = ap places_of (reverse-reverse (map code_place_of places)) ∙ places_back places

chain_is : (chain : List CodePlace) (places : List Place) → innermost_first chain ≡ places → chain ≡ chain_of places
chain_is chain places e = one_chain chain (map code_place_of places) (e ∙ sym (places_back places))

-- ---- Where steps land

-- the spot is the one at these places, with an answer that can be given there
pub record IsSpotAt (p : Prog) (thread jumps : ℕ) (places : List Place) (to : Spot) : Type 0 where
  pub answer : Bool
  pub is : to ≡ spot_at thread jumps places answer
  pub can : answer ≡ true → AsksAt p places

module _ (p : Prog) (thread : ℕ) where
  landed : (jumps : ℕ) (places : List Place) (to : Spot) → Lands p thread jumps places to →
      IsSpotAt p thread jumps places to
  landed jumps [] to (ends e is) = record { answer = false; is = is; can = λ t. absurd (true≢false (sym t)) }
  landed jumps (x ∷ xs) to (ends e is) = absurd cc
  landed jumps [] to (stands stand at callers e is counted chain can) = absurd cc
  landed jumps (x ∷ xs) to (stands stand at callers e is counted chain can) =
      let whole = chain_is stand.places (x ∷ xs) chain in
      record {
        answer = stand.answer;
        is = is ∙
            ap (standing_at thread) (λ i. record { jumps = counted i; places = whole i; answer = stand.answer });
        can =
            can;
      }

  lands : (jumps : ℕ) (places : List Place) (answer : Bool) → (answer ≡ true → AsksAt p places) →
      Lands p thread jumps places (spot_at thread jumps places answer)
  lands jumps [] answer can = ends refl refl
  lands jumps (x ∷ xs) answer can =
      stands (record { jumps = jumps; places = chain_of (x ∷ xs); answer = answer }) x xs refl refl refl
      (chain_back (x ∷ xs)) can

-- ---- The step to the entry

pub record Enters (p : Prog) (thread : ℕ) (taken : Bool) (to : Spot) : Type 0 where
  pub start : List Place
  pub begins : Begins p thread start
  pub taken_is : taken ≡ false
  pub at : IsSpotAt p thread 0 start to

pub enters : (p : Prog) (limit thread : ℕ) (taken : Bool) (to : Spot) → Leads p limit (begin_of thread) taken to →
    Enters p thread taken to
enters p limit thread taken to (begins start position entry t lands) =
    record { start = start; begins = entry; taken_is = t; at = landed p thread 0 start to lands }
enters p limit thread taken to (steps stand hop position successor t few lands) = absurd cc

pub entering : (p : Prog) (limit thread : ℕ) (start : List Place) (answer : Bool) → Begins p thread start →
    (answer ≡ true → AsksAt p start) →
    Leads p limit (begin_of thread) false (spot_at thread 0 start answer)
entering p limit thread start answer entry can = begins start refl entry refl (lands p thread 0 start answer can)

-- ---- A step along the code

pub record Goes (p : Prog) (limit thread jumps : ℕ) (places : List Place) (taken : Bool) (to : Spot) : Type 0 where
  pub by : AnsweredHop
  pub successor : Successor p places by.hop
  pub taken_is : taken ≡ by.hop.taken
  pub few : jumps_after jumps by.hop ≤ limit
  pub is : to ≡ spot_at thread (jumps_after jumps by.hop) by.hop.to by.answer
  pub can : CanAnswer p by

module _ (p : Prog) (limit thread : ℕ) where
  pub goes : (jumps : ℕ) (places : List Place) (answer taken : Bool) (to : Spot) →
      Leads p limit (spot_at thread jumps places answer) taken to → Goes p limit thread jumps places taken to
  goes jumps [] answer taken to (begins start position entry t lands) = absurd cc
  goes jumps [] answer taken to (steps stand hop position successor t few lands) = absurd cc
  goes jumps (x ∷ xs) answer taken to (begins start position entry t lands) = absurd cc
  goes jumps (x ∷ xs) answer taken to (steps stand hop position successor t few lands) =
      let here : Standing = record { jumps = jumps; places = chain_of (x ∷ xs); answer = answer } in
      let same : here ≡ stand = cc in
      let chain : innermost_first stand.places ≡ x ∷ xs = ap (λ (s : Standing). innermost_first s.places) (sym same) ∙
      chain_back (x ∷ xs) in
      let counted : jumps_after stand.jumps hop ≡ jumps_after jumps hop =
      ap (λ (s : Standing). jumps_after s.jumps hop) (sym same) in
      let there = landed p thread (jumps_after stand.jumps hop) hop.to to lands in
      record {
        by = record { hop = hop; answer = there.answer };
        successor = subst (λ (s : List Place). Successor p s hop) chain successor;
        taken_is = t;
        few = subst (λ (n : ℕ). n ≤ limit) counted few;
        is = there.is ∙ ap (λ (n : ℕ). spot_at thread n hop.to there.answer) counted;
        can = there.can;
      }

  pub going : (jumps : ℕ) (places : List Place) (answer : Bool) (a : AnsweredHop) → Successor p places a.hop →
      jumps_after jumps a.hop ≤ limit → CanAnswer p a →
      Leads p limit (spot_at thread jumps places answer) a.hop.taken
      (spot_at thread (jumps_after jumps a.hop) a.hop.to a.answer)
  going jumps [] answer a successor few can = absurd (ended p [] a.hop refl successor)
  going jumps (x ∷ xs) answer a successor few can =
      steps (record { jumps = jumps; places = chain_of (x ∷ xs); answer = answer }) a.hop refl
      (subst (λ (s : List Place). Successor p s a.hop) (sym (chain_back (x ∷ xs))) successor) refl few
      (lands p thread (jumps_after jumps a.hop) a.hop.to a.answer can)
