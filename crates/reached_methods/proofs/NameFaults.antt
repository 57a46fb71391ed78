-- The first instruction that is refused for its name, among more and more of a listing.
use Rattle.std.proofs.Common.{◌≡◌, ◌<◌, ◌+◌, ◌++◌, ◌⊎◌, inl, inr, ℕ, Bool, List, [], ◌∷◌, Option, Some, None, Contains, get_or, length, take, map, refl, sym, ap, ap₂, subst, ◌∙◌, arith}
use Rattle.std.proofs.lemmas.List.{get_or_default, take_more, map-append}
use Rattle.opcodes.specs.Listing.{IsByPc}
use Rattle.reached_methods.proofs.Lists.{before_one}
use Rattle.std.specs.Prelude.{All}
use Rattle.std.specs.Option.{option_or}
use Rattle.std.proofs.lemmas.List.Elements.{All-contains, Contains-push, Contains-push_cases, Contains-append_left}
use Rattle.class_format.specs.declared.record.ClassRecord.{ClassRecord}
use Rattle.class_format.specs.declared.record.PoolEntry.{PoolEntry}
use Rattle.opcodes.specs.declared.listed.Listed.{Listed}
use Rattle.resolution.specs.Resolution.{Resolved, Names, Unknown, Forbidden, Final, resolve}
use Rattle.reached_methods.specs.CodeFaults.{rank}
use Rattle.reached_methods.specs.FirstFault.{IsFirstOrNone}
use Rattle.resolution.specs.declared.target.Target.TheVariants as target
use Rattle.reached_methods.specs.Surveys.{HasNameFault, IsNameFault, IsNameFaultAt, IsNamed, target_of}
use Rattle.reached_methods.specs.declared.fault.Fault.{Fault}
use Rattle.reached_methods.specs.declared.refusal.CodeKind.{CodeKind}
use Rattle.reached_methods.specs.declared.refusal.Detail.{Detail}

-- what is refused for its name is so for one kind
one_kind : (r : Resolved) (kind other : CodeKind) (detail other_detail : Detail) → IsNameFault r kind detail → IsNameFault r other other_detail → rank kind ≡ rank other
one_kind (Names t) kind other detail other_detail f g = absurd f
one_kind (Unknown name) kind other detail other_detail f g = ap rank (f.0 ∙ sym g.0)
one_kind (Forbidden name) kind other detail other_detail f g = ap rank (f.0 ∙ sym g.0)
one_kind Final kind other detail other_detail f g = ap rank (f.0 ∙ sym g.0)

-- a fault among one more is an old one, or of the last
split : (classes : List ClassRecord) (main : Bool) (pool : List PoolEntry) (all xs : List Listed) (x : Listed) (pc : ℕ) (kind : CodeKind) (detail : Detail) →
    HasNameFault classes main pool all (xs ++ x ∷ []) pc kind detail →
    HasNameFault classes main pool all xs pc kind detail ⊎ ((pc ≡ x.pc) × IsNameFault (resolve classes main pool all x) kind detail)
split classes main pool all xs x pc kind detail f = elim (Contains-push_cases xs x (record { pc = pc; instr = f.instr }) f.there) [
  | inl old ↦ inl (record { instr = f.instr; there = old; wrong = f.wrong })
  | inr same ↦ (let P : Listed → Type 0 = λ l. IsNameFault (resolve classes main pool all l) kind detail in
      inr (sym (ap (λ (l : Listed). l.pc) same), subst P (sym same) f.wrong))
]

-- the old faults stay
grown : (classes : List ClassRecord) (main : Bool) (pool : List PoolEntry) (all xs : List Listed) (x : Listed) (pc : ℕ) (kind : CodeKind) (detail : Detail) →
    HasNameFault classes main pool all xs pc kind detail → HasNameFault classes main pool all (xs ++ x ∷ []) pc kind detail
grown classes main pool all xs x pc kind detail f = record { instr = f.instr; there = Contains-append_left xs (x ∷ []) (record { pc = pc; instr = f.instr }) f.there; wrong = f.wrong }

-- a place before the last
old_place : (classes : List ClassRecord) (main : Bool) (pool : List PoolEntry) (all xs : List Listed) (x : Listed) (pc : ℕ) (kind : CodeKind) (detail : Detail) →
    All (λ y. y.pc < x.pc) xs → HasNameFault classes main pool all xs pc kind detail → pc < x.pc
old_place classes main pool all xs x pc kind detail below f = All-contains (λ y. y.pc < x.pc) xs (record { pc = pc; instr = f.instr }) below f.there

not_before : (p q k j : ℕ) → p < q → (q < p) ⊎ ((q ≡ p) × (k < j)) → ⊥
not_before p q k j lt (inl h) = omega arith
not_before p q k j lt (inr h) = omega (arith, h.0)

not_earlier : (p q k j : ℕ) → p ≡ q → k ≡ j → (p < q) ⊎ ((p ≡ q) × (k < j)) → ⊥
not_earlier p q k j same like (inl h) = omega arith
not_earlier p q k j same like (inr h) = omega (arith, h.1)

-- the first fault among one more
pub one_more : (classes : List ClassRecord) (main : Bool) (pool : List PoolEntry) (all xs : List Listed) (x : Listed) (found fault : Option Fault) →
    All (λ y. y.pc < x.pc) xs → IsFirstOrNone (HasNameFault classes main pool all xs) found → IsNameFaultAt x.pc (resolve classes main pool all x) fault →
    IsFirstOrNone (HasNameFault classes main pool all (xs ++ x ∷ [])) (option_or found fault)
one_more classes main pool all xs x (Some f) fault below first at = record {
  holds = grown classes main pool all xs x f.pc f.kind f.detail first.holds;
  first = λ pc kind detail h earlier. elim (split classes main pool all xs x pc kind detail h) [
    | inl old ↦ first.first pc kind detail old earlier
    | inr new ↦ (let P : ℕ → Type 0 = λ n. (n < f.pc) ⊎ ((n ≡ f.pc) × (rank kind < rank f.kind)) in
        not_before f.pc x.pc (rank kind) (rank f.kind) (old_place classes main pool all xs x f.pc f.kind f.detail below first.holds) (subst P new.0 earlier))
  ];
}
one_more classes main pool all xs x None (Some f) below first at = record {
  holds = record {
    instr = x.instr;
    there = (let P : ℕ → Type 0 = λ n. Contains (xs ++ x ∷ []) (record { pc = n; instr = x.instr }) in subst P (sym at.0) (Contains-push xs x));
    wrong = (let P : ℕ → Type 0 = λ n. IsNameFault (resolve classes main pool all (record { pc = n; instr = x.instr })) f.kind f.detail in subst P (sym at.0) at.1);
  };
  first = λ pc kind detail h earlier. elim (split classes main pool all xs x pc kind detail h) [
    | inl old ↦ first.none pc kind detail old
    | inr new ↦ not_earlier pc f.pc (rank kind) (rank f.kind) (new.0 ∙ sym at.0) (one_kind (resolve classes main pool all x) kind f.kind detail f.detail new.1 at.1) earlier
  ];
}
one_more classes main pool all xs x None None below first at = record {
  none = λ pc kind detail h. elim (split classes main pool all xs x pc kind detail h) [
    | inl old ↦ first.none pc kind detail old
    | inr new ↦ (let P : Resolved → Type 0 = λ r. IsNameFault r kind detail in subst P at.1 new.1)
  ];
}

pub none_yet : (classes : List ClassRecord) (main : Bool) (pool : List PoolEntry) (all : List Listed) → IsFirstOrNone (HasNameFault classes main pool all []) None
none_yet classes main pool all = record { none = λ pc kind detail h. omega (arith, h.there.1) }

refused_target : (r : Resolved) (kind : CodeKind) (detail : Detail) → IsNameFault r kind detail → target.Nothing ≡ target_of r
refused_target (Names t) kind detail f = absurd f
refused_target (Unknown name) kind detail f = refl
refused_target (Forbidden name) kind detail f = refl
refused_target Final kind detail f = refl

-- an instruction that is refused for its name
pub named_wrongly : (pc : ℕ) (r : Resolved) (fault : Fault) → fault.pc ≡ pc → IsNameFault r fault.kind fault.detail → IsNamed pc r target.Nothing (Some fault)
named_wrongly pc r fault place wrong = record { target_is = refused_target r fault.kind fault.detail wrong; fault_is = (place, wrong) }

pub more_targets : {A B : Type 0} (f : A → B) (xs : List A) (i : ℕ) (d : A) (old new : List B) (t : B) → i < length xs → old ≡ map f (take i xs) →
    t ≡ f (get_or xs i d) → new ≡ old ++ t ∷ [] → new ≡ map f (take (i + 1) xs)
more_targets f xs i d old new t lt e g h =
    h ∙ ap₂ (λ o u. o ++ u ∷ []) e g ∙ sym (map-append f (take i xs) (get_or xs i d ∷ [])) ∙ ap (map f) (sym (take_more xs i d lt))

pub more_faults : (classes : List ClassRecord) (main : Bool) (pool : List PoolEntry) (all xs : List Listed) (i : ℕ) (d : Listed) (found fault new : Option Fault) →
    IsByPc xs → i < length xs → IsFirstOrNone (HasNameFault classes main pool all (take i xs)) found →
    IsNameFaultAt (get_or xs i d).pc (resolve classes main pool all (get_or xs i d)) fault → new ≡ option_or found fault →
    IsFirstOrNone (HasNameFault classes main pool all (take (i + 1) xs)) new
more_faults classes main pool all xs i d found fault new by_pc lt first at e =
    let x = get_or xs i d in
    let below = before_one (λ (a b : Listed). a.pc < b.pc) xs i x by_pc lt (λ o. get_or_default xs i o d lt) in
    let P : List Listed → Type 0 = λ ys. IsFirstOrNone (HasNameFault classes main pool all ys) new in
    let Q : Option Fault → Type 0 = λ f. IsFirstOrNone (HasNameFault classes main pool all (take i xs ++ x ∷ [])) f in
    subst P (sym (take_more xs i d lt)) (subst Q (sym e) (one_more classes main pool all (take i xs) x found fault below first at))
