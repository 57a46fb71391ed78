-- The level of no step.
use Rattle.std.proofs.Common.{◌≡◌, ◌≢◌, ◌<◌, ◌≤◌, ℕ, zero, suc, pos, List, Bool, true, false, Option, Some, None, Contains, length, get_or, ◌⊎◌, inl, inr, refl, sym, ap, subst, ◌∙◌, arith, [], ◌∷◌, nat_eq, ◌||◌}
use Rattle.std.specs.List.{list_any, slice_get}
use Rattle.std.specs.Option.{option_map}
use Rattle.std.proofs.lemmas.Bool.{cases_eq, eq-eqb}
use Rattle.std.proofs.lemmas.Option.{same_Some, none-some, slice_get_within, slice_get_read}
use Rattle.opcodes.specs.Listing.{IsByPc}
use Rattle.opcodes.specs.declared.listed.Listed.{Listed}
use Rattle.program.specs.declared.value_type.ValueType.{ValueType}
use Rattle.typing.specs.Describing.{Describes, DescribesAt, IsBelow, FaultIn, FitsLocal, FitsStage, AttainsLocal, AttainsStage, first}
use Rattle.typing.specs.Faults.{rank_of}
use Rattle.typing.specs.Levels.{kept_at, EndsAt, EndsBefore, DoesAt, IsFirstAt, IsUnlooked, IsBegun, IsEntryKind, misfit, depth}
use Rattle.typing.specs.Paths.{Path, PastEntry, EntryFails, HasFault, enters, IsRefusal}
use Rattle.typing.specs.States as state
use Rattle.typing.specs.States.{FrameState, entry_state}
use Rattle.typing.specs.Summaries.{Summary, summary_of, SummarizesEntry}
use Rattle.typing.specs.Typing.{IsListed}
use Rattle.typing.specs.declared.deed.Deed.{Deed}
use Rattle.typing.specs.declared.joined.Joined.{Joined}
use Rattle.typing.specs.declared.joined_type.JoinedType.{JoinedType}
use Rattle.typing.specs.declared.joined_type.JoinedType.TheVariants.{Known}
use Rattle.typing.specs.declared.stage.Stage.{Stage}
use Rattle.typing.specs.declared.refusal.TypeKind.{TypeKind}
use Rattle.typing.specs.declared.refusal.TypeKind.TheVariants as kind
use Rattle.typing.specs.declared.untyped.UntypedMethod.{UntypedMethod}
use Rattle.typing.proofs.Image.{stage_fits, one_attained}
use Rattle.typing.proofs.Faulty.{IsFirstFault, first_is, least_kind}
use Rattle.typing.proofs.Steps.{place_once, fault_cases, fault_out, does_in, quiet_place, one_deed, same_pos}

-- the first instruction stands at place 0 of the code
pub starts_at : (xs : List Listed) → IsByPc xs → IsListed xs (pos 0) → (at : Listed) × (slice_get xs 0 ≡ Some at) × (at.pc ≡ 0)
starts_at xs by_pc closed =
    let start = closed in
    let item : Listed = record { pc = start.pc; instr = start.instr } in
    let is_zero : start.pc ≡ 0 = sym (same_pos _ _ start.is_place) in
    let there = start.stands in
    let is : slice_get xs there.0 ≡ Some item = slice_get_read xs (length xs) there.0 item refl there.1 (sym there.2) in
    let at_first : there.0 ≡ 0 = elim (cases_eq there.0 0) [
      | inl same ↦ same
      | inr other ↦ absurd (let rises : (get_or xs 0 item).pc < (get_or xs there.0 item).pc = by_pc 0 there.0 item (omega arith) there.1 in
          let e : (get_or xs there.0 item).pc ≡ start.pc = ap (λ (l : Listed). l.pc) there.2 in omega arith)
    ] in
    let P : ℕ → Type 0 = λ n. slice_get xs n ≡ Some item in
    (item, subst P at_first is, is_zero)

or_first : (a b : Bool) → (a || b) ≡ false → a ≡ false
or_first true b e = cc
or_first false b e = refl

only_first : (q : ℕ) → Contains (0 ∷ []) q → q ≡ 0
only_first q (zero, lt, e) = sym e
only_first q (suc n, lt, e) = absurd (omega arith)

no_step : (m : UntypedMethod) (steps pc : ℕ) (s : FrameState) → steps ≤ 0 → Path m steps pc s → (pc ≡ 0) × (s ≡ entry_state m)
no_step m zero pc s le path = path
no_step m (suc k) pc s le path = absurd (omega arith)

known_fits : (o : Option ValueType) → FitsLocal (option_map Known o) o
known_fits None = tt
known_fits (Some t) = refl

known_attained : (V : FrameState → Type 0) (slot : ℕ) (s : FrameState) → V s → (o : Option ValueType) → s.local slot ≡ o → AttainsLocal V slot (option_map Known o)
known_attained V slot s among None is = record { s = s; t = s; s_among = among; t_among = among; clash = first is }
known_attained V slot s among (Some t) is = tt

pub entry_described : (m : UntypedMethod) (V : FrameState → Type 0) (a : Summary) → V (entry_state m) → ((s : FrameState) → V s → s ≡ entry_state m) → SummarizesEntry m a → Describes V a
entry_described m V a among only e =
    let below : IsBelow a (entry_state m) = record {
      stack = λ _. sym e.stack;
      held = λ _ q. sym (e.held q);
      local = λ q. let P : Option JoinedType → Type 0 = λ o. FitsLocal o ((entry_state m).local q) in subst P (sym (e.local q)) (known_fits ((entry_state m).local q));
      stage = λ k. let P : Stage → Type 0 = λ o. FitsStage o ((entry_state m).thread k) in subst P (sym (e.stage k)) (stage_fits state.Unmade);
    } in
    record {
      state = entry_state m;
      among = among;
      below = λ s h. subst (IsBelow a) (sym (only s h)) below;
      stack = λ t. absurd (let wrong : ⊥ = cc (t, e.stacks_agree) in wrong);
      held = λ t. absurd (let wrong : ⊥ = cc (t, e.held_agrees) in wrong);
      local = λ q. subst (AttainsLocal V q) (sym (e.local q)) (known_attained V q (entry_state m) among ((entry_state m).local q) refl);
      stage = λ k. subst (AttainsStage V k) (sym (e.stage k)) (one_attained V k (entry_state m) among);
    }

module _ (m : UntypedMethod) (states : List (Option Joined)) (by_pc : IsByPc m.listing) (closed : IsListed m.listing (pos 0)) (begun : IsBegun m states) where
  ends_first : (q : ℕ) (s : FrameState) → EndsAt m 0 q s → (q ≡ 0) × (s ≡ entry_state m)
  ends_first q s h =
      let is = no_step m h.within.steps h.at.pc s h.within.few h.within.path in
      let start = starts_at m.listing by_pc closed in
      (place_once m.listing q 0 h.at start.0 by_pc h.listed start.1 (is.0 ∙ sym start.2), is.1)

  entry_ends : EndsAt m 0 0 (entry_state m)
  entry_ends = let start = starts_at m.listing by_pc closed in
      record { at = start.0; listed = start.1; within = record { steps = 0; few = omega arith; path = (start.2, refl) } }

  first_described : Describes (EndsAt m 0 0) (summary_of begun.first.0)
  first_described = entry_described m (EndsAt m 0 0) (summary_of begun.first.0) entry_ends (λ s h. (ends_first 0 s h).1) begun.first.2

  pub begun_described : (q : ℕ) → DescribesAt (EndsAt m 0 q) (kept_at states q)
  begun_described q = elim (cases_eq q 0) [
    | inl same ↦ (let P : ℕ → Type 0 = λ n. DescribesAt (EndsAt m 0 n) (kept_at states n) in
        subst P (sym same) (subst (DescribesAt (EndsAt m 0 0)) (sym begun.first.1) first_described))
    | inr other ↦ subst (DescribesAt (EndsAt m 0 q)) (sym (begun.others q other)) (λ s h. other (ends_first q s h).0)
  ]

  not_first : (q : ℕ) → list_any (nat_eq q) (0 ∷ []) ≡ false → q ≢ 0
  not_first q e same = let t : nat_eq q 0 ≡ true = eq-eqb q 0 same in let f : nat_eq q 0 ≡ false = or_first (nat_eq q 0) (list_any (nat_eq q) []) e in let wrong : ⊥ = cc in wrong

  pub begun_level : (PastEntry m → ⊥) → IsUnlooked m 0 states (0 ∷ [])
  begun_level fine = record {
    long = begun.long;
    described = begun_described;
    old = λ q out. subst (DescribesAt (EndsBefore m 0 q)) (sym (begun.others q (not_first q out))) (λ s h. let lt = h.fewer in absurd (omega arith));
    quiet = λ q k out shows. none-some shows.state (sym (begun.others q (not_first q out)) ∙ shows.kept);
    entry = fine;
    earlier = λ shorter lt faulty. omega arith;
    inside = λ q h. let is : q ≡ 0 = only_first q h in
        let start = starts_at m.listing by_pc closed in
        let some : 0 < length m.listing = slice_get_within m.listing 0 start.0 start.1 in
        let P : ℕ → Type 0 = λ n. (x : Joined) × (kept_at states n ≡ Some x) in
        (omega (arith, begun.long), subst P (sym is) (begun.first.0, begun.first.1));
  }

-- a fault of the path of no step
entry_faults : (m : UntypedMethod) (pc : ℕ) (k : TypeKind) → EntryFails m pc k → (pc ≡ 0) × PastEntry m × (k ≡ kind.StackDepth)
entry_faults m pc kind.TypeMisfit e = absurd e
entry_faults m pc kind.StackDepth e = (e.0, e.1, refl)
entry_faults m pc kind.LockOperand e = absurd e
entry_faults m pc kind.Unstructured e = absurd e
entry_faults m pc kind.ThreadState e = absurd e

pub misfit_or_later : (k : TypeKind) → (k ≡ kind.TypeMisfit) ⊎ (1 ≤ rank_of k)
misfit_or_later kind.TypeMisfit = inl refl
misfit_or_later kind.StackDepth = inr (omega arith)
misfit_or_later kind.LockOperand = inr (omega arith)
misfit_or_later kind.Unstructured = inr (omega arith)
misfit_or_later kind.ThreadState = inr (omega arith)

-- a refusal by what is wrong at the entry: the first kind of fault on the path of no step
at_entry : (m : UntypedMethod) (k : TypeKind) → HasFault m 0 0 k → ((other : TypeKind) → HasFault m 0 0 other → rank_of k ≤ rank_of other) → IsRefusal m k 0
at_entry m k fault least = record {
  most = 0;
  shortest = record { holds = record { pc = 0; k = k; fault = fault }; least = λ n faulty. omega arith };
  least = record { holds = record { k = k; fault = fault }; least = λ pc faulty. omega arith };
  fault = fault;
  first = least;
}

module _ (m : UntypedMethod) (states : List (Option Joined)) (by_pc : IsByPc m.listing) (closed : IsListed m.listing (pos 0)) (begun : IsBegun m states) (past : PastEntry m) where
  entry_fault : HasFault m 0 0 kind.StackDepth
  entry_fault = enters (refl, past)

  pub misfit_refused : IsFirstAt m states 0 (Some kind.TypeMisfit) → IsRefusal m kind.TypeMisfit 0
  misfit_refused h =
      let does = h.3 in
      let start = starts_at m.listing by_pc closed in
      let v : Describes (EndsAt m 0 0) (summary_of h.0) = subst (DescribesAt (EndsAt m 0 0)) h.2 (begun_described m states by_pc closed begun 0) in
      let f : IsFirstFault (EndsAt m 0 0) m.frame h.1 kind.TypeMisfit = first_is (EndsAt m 0 0) m.frame h.1 (summary_of h.0) kind.TypeMisfit v h.4 in
      let pc_is : does.pc ≡ 0 = ap (λ (l : Listed). l.pc) (same_Some _ _ (sym does.stands.listed ∙ start.1)) ∙ start.2 in
      let P : ℕ → Type 0 = λ n. HasFault m 0 n kind.TypeMisfit in
      at_entry m kind.TypeMisfit (subst P pc_is (fault_out m 0 0 kind.TypeMisfit h.1 does f.fault)) (λ other fault. omega arith)

  pub depth_refused : (HasFault m 0 0 kind.TypeMisfit → ⊥) → IsRefusal m kind.StackDepth 0
  depth_refused none = at_entry m kind.StackDepth entry_fault
      (λ other fault. elim (misfit_or_later other) [
        | inl same ↦ (let P : TypeKind → Type 0 = HasFault m 0 0 in absurd (none (subst P same fault)))
        | inr later ↦ later
      ])

  -- where something else is the first that is shown, nothing misfits
  pub no_misfit : (r : Option TypeKind) → r ≢ Some kind.TypeMisfit → IsFirstAt m states 0 r → HasFault m 0 0 kind.TypeMisfit → ⊥
  no_misfit r ne h fault = elim (fault_cases m 0 0 kind.TypeMisfit fault) [
    | inl e ↦ (let k = (entry_faults m 0 kind.TypeMisfit e).2 in let wrong : ⊥ = cc in wrong)
    | inr g ↦ (let start = starts_at m.listing by_pc closed in
        let same_place : g.1.place ≡ 0 = (ends_first m states by_pc closed begun g.1.place g.2 g.3).0 in
        let P : ℕ → Type 0 = λ n. DoesAt m n g.0 in
        let Q : ℕ → Type 0 = λ n. FaultIn (EndsAt m 0 n) m.frame g.0 kind.TypeMisfit in
        not_first_kind r ne h g.0 (subst P same_place (does_in m 0 g.0 g.1)) (subst Q same_place g.4))
  ]
    where
      v : DescribesAt (EndsAt m 0 0) (kept_at states 0)
      v = begun_described m states by_pc closed begun 0

      not_first_kind : (r : Option TypeKind) → r ≢ Some kind.TypeMisfit → IsFirstAt m states 0 r → (d : Deed) → DoesAt m 0 d → FaultIn (EndsAt m 0 0) m.frame d kind.TypeMisfit → ⊥
      not_first_kind None ne h d does fault = quiet_place m (EndsAt m 0 0) states 0 d does (kept_at states 0) refl v h (entry_state m) (entry_ends m states by_pc closed begun) kind.TypeMisfit fault
      not_first_kind (Some k) ne h d does fault =
          let same_deed : d ≡ h.1 = one_deed m 0 d h.1 does h.3 in
          let w : Describes (EndsAt m 0 0) (summary_of h.0) = subst (DescribesAt (EndsAt m 0 0)) h.2 v in
          let f : IsFirstFault (EndsAt m 0 0) m.frame h.1 k = first_is (EndsAt m 0 0) m.frame h.1 (summary_of h.0) k w h.4 in
          let R : Deed → Type 0 = λ x. FaultIn (EndsAt m 0 0) m.frame x kind.TypeMisfit in
          ne (ap Some (least_kind k (f.first kind.TypeMisfit (subst R same_deed fault))))

pub entry_refused : (m : UntypedMethod) (states : List (Option Joined)) → IsByPc m.listing → IsListed m.listing (pos 0) → IsBegun m states → PastEntry m → (fault : Option TypeKind) (k : TypeKind) →
    IsFirstAt m states 0 fault → IsEntryKind fault k → IsRefusal m k 0
entry_refused m states by_pc closed begun past fault k h (misfit is is_k) =
    let P : TypeKind → Type 0 = λ l. IsRefusal m l 0 in
    subst P (sym is_k) (misfit_refused m states by_pc closed begun past (subst (IsFirstAt m states 0) is h))
entry_refused m states by_pc closed begun past fault k h (depth ne is_k) =
    let P : TypeKind → Type 0 = λ l. IsRefusal m l 0 in
    subst P (sym is_k) (depth_refused m states by_pc closed begun past (no_misfit m states by_pc closed begun past fault ne h))
