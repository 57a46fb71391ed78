-- What the line that takes a clause out leaves.
use Rattle.std.proofs.Common.{◌≡◌, ◌≢◌, ◌-◌, ◌*◌, ◌<◌, ◌⊎◌, ◌∙◌, ℕ, zero, suc, List, [], ◌∷◌, Option, Some, None, inl, inr, refl, sym, subst, ap, arith, map, length, slice_get}
use Rattle.std.specs.Prelude.{slice_set, sum_by}
use Rattle.std.specs.Option.{option_map}
use Rattle.std.proofs.Math.ListN.{length-set}
use Rattle.std.proofs.lemmas.List.{map-set}
use Rattle.std.proofs.lemmas.List.Sums.{sum_by-set}
use Rattle.std.proofs.lemmas.Option.{slice_get-map}
use Rattle.var_names.specs.Formulas.{FormulaValue}
use Rattle.var_names.specs.LiteralNumbers.{lit_of}
use Rattle.refutation_check.specs.LiveClauses.{IsLiveClause}
use Rattle.numbered_hints.specs.ByLiteral.{literals_of}
use Rattle.search_log.specs.declared.name.Name.{Name}
use Rattle.search_log.specs.declared.name.Name.TheVariants.{Unnamed, Ruled, Numbered}
use Rattle.search_log.specs.Names.{LogValue, IsSoundLog, name_at, with_name, number_in, IsNamed, IsNumberedName, one_if_ruled}
use Rattle.search_log.specs.Lines.{IsCurrent, IsLiveNumber, TakesOutName}
use Rattle.search_log.proofs.Naming.{name-other, slot-cases, sound-other, within-of}

get-set : {X : Type 0} (xs : List X) (k j : ℕ) (x : X) → j ≢ k → slice_get (slice_set xs k x) j ≡ slice_get xs j
get-set [] k j x differs = refl
get-set (y ∷ xs) zero zero x differs = absurd (differs refl)
get-set (y ∷ xs) zero (suc j) x differs = refl
get-set (y ∷ xs) (suc k) zero x differs = refl
get-set (y ∷ xs) (suc k) (suc j) x differs = get-set xs k j x (λ same. differs (ap suc same))

get-here : {X : Type 0} (xs : List X) (k : ℕ) (x a : X) → slice_get (slice_set xs k x) k ≡ Some a → x ≡ a
get-here [] k x a at = absurd (cc)
get-here (y ∷ xs) zero x a at = cc
get-here (y ∷ xs) (suc k) x a at = get-here xs k x a at

-- a clause that is live after one was taken out
pub live-after : (clauses : List (Option (List ℕ))) (taken number : ℕ) (written : List ℕ) → 0 < taken → IsLiveClause (slice_set clauses (taken - 1) None) number written
    → IsLiveClause clauses number written × (number ≢ taken)
live-after clauses taken number written some live = by (slot-cases (number - 1) (taken - 1))
  where
    by : (number - 1 ≡ taken - 1) ⊎ (number - 1 ≢ taken - 1) → IsLiveClause clauses number written × (number ≢ taken)
    by (inl same) =
        let here : None ≡ Some written = get-here clauses (taken - 1) None (Some written) (subst (λ k. slice_get (slice_set clauses (taken - 1) None) k ≡ Some (Some written)) same live.stands) in
        absurd (cc)
    by (inr differs) = (
      record { some = live.some; stands = sym (get-set clauses (taken - 1) (number - 1) None differs) ∙ live.stands },
      λ same. differs (ap (λ n. n - 1) same),
    )

pub live-other : (clauses : List (Option (List ℕ))) (taken number : ℕ) (written : List ℕ) → 0 < taken → number ≢ taken → IsLiveClause clauses number written
    → IsLiveClause (slice_set clauses (taken - 1) None) number written
live-other clauses taken number written some differs live = record {
  some = live.some;
  stands = get-set clauses (taken - 1) (number - 1) None (λ same. differs (let s = live.some in omega (arith, same, some, s))) ∙ live.stands;
}

numbered-is : (name : Name) → IsNumberedName name → name ≡ Numbered (number_in name)
numbered-is Unnamed is = absurd is
numbered-is (Ruled place) is = absurd is
numbered-is (Numbered number) is = refl

pub takes-out : (formula : FormulaValue) (log : LogValue) (clauses : List (Option (List ℕ))) (slot : ℕ) → IsSoundLog log → IsNumberedName (name_at log.names slot)
    → IsCurrent formula log clauses → IsLiveNumber clauses (number_in (name_at log.names slot)) → TakesOutName formula log clauses slot
takes-out formula log clauses slot sound numbered current (written, live) = record {
  after = slice_set clauses (taken - 1) None;
  leads = (
    literals_of formula.variables (slice_set clauses (taken - 1) None),
    (
      map (lit_of formula.variables) written,
      record { some = live.some; stands = slice_get-map (option_map (map (lit_of formula.variables))) clauses (taken - 1) ∙ rw live.stands refl },
      map-set (option_map (map (lit_of formula.variables))) clauses (taken - 1) None,
    ),
    refl,
  );
  current = record {
    count = length-set clauses (taken - 1) None ∙ current.count;
    below = λ place clause at. by-place place clause at (slot-cases place (taken - 1));
    apart = current.apart;
  };
  stay = λ other literals differs is.
      subst (λ (n : Name). IsNamed formula (slice_set clauses (taken - 1) None) n literals) (sym (name-other log.names slot other Unnamed differs))
      (kept (name_at log.names other) other literals differs refl is);
  numbered = numbered;
  live = λ number w at. live-after clauses taken number w live.some at;
  rest = λ number w differs at. live-other clauses taken number w live.some differs at;
}
  where
    taken : ℕ
    taken = number_in (name_at log.names slot)

    by-place : (place : ℕ) (clause : List ℕ) → slice_get (slice_set clauses (number_in (name_at log.names slot) - 1) None) place ≡ Some (Some clause)
        → (place ≡ number_in (name_at log.names slot) - 1) ⊎ (place ≢ number_in (name_at log.names slot) - 1) → Rattle.std.specs.Prelude.All (λ n. n < 2 * length formula.variables) clause
    by-place place clause at (inl same) =
        let here : None ≡ Some clause = get-here clauses (number_in (name_at log.names slot) - 1) None (Some clause)
        (subst (λ k. slice_get (slice_set clauses (number_in (name_at log.names slot) - 1) None) k ≡ Some (Some clause)) same at) in
        absurd (cc)
    by-place place clause at (inr differs) = current.below place clause (sym (get-set clauses (number_in (name_at log.names slot) - 1) place None differs) ∙ at)

    kept : (name : Name) (other : ℕ) (literals : List ℕ) → other ≢ slot → name_at log.names other ≡ name → IsNamed formula clauses name literals
        → IsNamed formula (slice_set clauses (number_in (name_at log.names slot) - 1) None) name literals
    kept Unnamed other literals differs at is = is
    kept (Ruled place) other literals differs at is = is
    kept (Numbered number) other literals differs at is = record {
      written = is.written;
      live = live-other clauses (number_in (name_at log.names slot)) number is.written live.some
          (λ same. differs (sound.apart other slot number at (numbered-is (name_at log.names slot) numbered ∙ ap Numbered (sym same)))) is.live;
      same = is.same;
    }

-- a name that is taken away
pub sound-unnamed : (log : LogValue) (slot : ℕ) → IsSoundLog log → IsNumberedName (name_at log.names slot) → IsSoundLog (with_name log slot Unnamed)
sound-unnamed log slot sound numbered =
    let within = within-of log.names slot (Numbered (number_in (name_at log.names slot))) (numbered-is (name_at log.names slot) numbered) (λ never. let e : Numbered (number_in (name_at log.names slot)) ≡ Unnamed = never in cc) in
    sound-other log slot Unnamed sound within (λ h. h)
    (let sums = sum_by-set one_if_ruled log.names slot Unnamed Unnamed within in
    let old : one_if_ruled (name_at log.names slot) ≡ 0 = ap one_if_ruled (numbered-is (name_at log.names slot) numbered) in
    omega (arith, sums, old, sound.once))
