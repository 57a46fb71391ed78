-- What is kept in the end describes all paths.
use Rattle.std.proofs.Common.{◌≡◌, ◌<◌, ◌+◌, ℕ, zero, suc, pos, List, false, Option, Some, None, Contains, length, get_or, inl, inr, refl, sym, ap, subst, ◌∙◌, arith, [], ◌∷◌, ◌++◌, length-append}
use Rattle.std.proofs.lemmas.List.{get_or_append_left, get_or_push}
use Rattle.typing.proofs.Objects.{fresh_not_made}
use Rattle.typing.proofs.Arrivals.{at_or_before}
use Rattle.std.specs.List.{slice_get}
use Rattle.std.proofs.lemmas.Option.{same_Some, slice_get_within, get_or_from_slice_get, slice_get_read}
use Rattle.relations.specs.Path.{Walk, here, on}
use Rattle.opcodes.specs.Instructions.{Successor}
use Rattle.opcodes.specs.Listing.{IsByPc, StandsAt}
use Rattle.opcodes.specs.declared.listed.Listed.{Listed}
use Rattle.program.specs.declared.value_type.TypedState.{TypedState}
use Rattle.program.specs.declared.value_type.ValueType.{ValueType}
use Rattle.typing.specs.Changes.{behind}
use Rattle.typing.specs.Deeds.{deed_of}
use Rattle.typing.specs.Describing.{Describes, DescribesAt, FitsLocal, AttainsLocal}
use Rattle.typing.specs.Levels.{kept_at, EndsAt, DoesAt, IsLevel}
use Rattle.typing.specs.Listings.{IsTold, IsToldOf}
use Rattle.typing.specs.Paths.{Path, IsFaulty}
use Rattle.typing.specs.States.{FrameState, entry_state}
use Rattle.typing.specs.Summaries.{Summary, summary_of}
use Rattle.typing.specs.Typing.{Leads, AllReached, Arrives, IsTypedState, IsTyping}
use Rattle.typing.specs.declared.deed.Deed.{Deed}
use Rattle.typing.specs.declared.joined.Joined.{Joined}
use Rattle.typing.specs.declared.joined_type.JoinedType.{JoinedType}
use Rattle.typing.specs.declared.joined_type.JoinedType.TheVariants.{Known, Made}
use Rattle.typing.specs.declared.symbol.Symbol.{Symbol}
use Rattle.typing.specs.declared.untyped.UntypedMethod.{UntypedMethod}
use Rattle.typing.proofs.Covered.{no_clash}
use Rattle.typing.proofs.Landing.{first_landed}
use Rattle.typing.proofs.Steps.{described_fits, grown, calm, calm_meets, IsCalm, next_level, looked, level_sound, more_faulty}

kept_some : (V : FrameState → Type 0) (o : Option Joined) → DescribesAt V o → (s : FrameState) → V s → (x : Joined) × (o ≡ Some x)
kept_some V None d s h = absurd (d s h)
kept_some V (Some x) d s h = (x, refl)

some_there : (xs : List Symbol) (p : ℕ) → p < length xs → (x : Symbol) × (slice_get xs p ≡ Some x)
some_there [] p lt = absurd (omega arith)
some_there (x ∷ xs) zero lt = (x, refl)
some_there (x ∷ xs) (suc p) lt = some_there xs p (omega arith)

in_none : (q : ℕ) → Contains [] q → ⊥
in_none q h = omega (arith, h.1)

-- where nothing changes any more, all further levels are the same
pub further : (m : UntypedMethod) (most : ℕ) (states : List (Option Joined)) → IsLevel m most states [] → (k : ℕ) → IsLevel m (most + k) states []
further m most states l zero = let P : ℕ → Type 0 = λ n. IsLevel m n states [] in let e : most ≡ most + 0 = omega arith in subst P e l
further m most states l (suc k) =
    let n = most + k in
    let before = further m most states l k in
    let u = next_level m n states states [] [] [] before (λ p to h steps. absurd (in_none p h)) (λ q. first_landed m n [] q (kept_at states q) (before.level.described q)) refl (λ q out. refl)
    (λ q h. absurd (in_none q h)) in
    let P : ℕ → Type 0 = λ x. IsLevel m x states [] in
    let e : n + 1 ≡ most + suc k = omega arith in
    subst P e (looked m (n + 1) states [] u (λ q h t shows. in_none q h))

module _ (m : UntypedMethod) (most : ℕ) (states : List (Option Joined)) (l : IsLevel m most states []) where
  pub all_described : (q : ℕ) (at : Listed) → slice_get m.listing q ≡ Some at → DescribesAt (Arrives m at.pc) (kept_at states q)
  all_described q at is = grown (EndsAt m most q) (Arrives m at.pc) (kept_at states q)
      (λ s h. let P : Listed → Type 0 = λ x. Path m h.within.steps x.pc s in record { steps = h.within.steps; path = subst P (same_Some _ _ (sym h.listed ∙ is)) h.within.path })
      (λ s h. described_fits (EndsAt m (most + h.steps) q) (kept_at states q) ((further m most states l h.steps).level.described q) s
      (record { at = at; listed = is; within = record { steps = h.steps; few = omega arith; path = h.path } }))
      (l.level.described q)

  pub never_faulty : (n : ℕ) → IsFaulty m n → ⊥
  never_faulty n faulty = level_sound m (most + n) states [] (further m most states l n) (more_faulty m n (most + n) (omega arith) faulty)

  calm_at : (p : ℕ) (d : Deed) (j : Joined) → DoesAt m p d → kept_at states p ≡ Some j → IsCalm m d (summary_of j)
  calm_at p d j does kept = calm m d (summary_of j) (λ t shows. l.sound p t (record { state = j; kept = kept; deed = d; does = does; shows = shows }))

  does_there : (p : ℕ) (at : Listed) → length m.symbols ≡ length m.listing → slice_get m.listing p ≡ Some at → (symbol : Symbol) × (slice_get m.symbols p ≡ Some symbol)
  does_there p at same is = some_there m.symbols p (let lt = slice_get_within m.listing p at is in omega arith)

  on_from : (p : ℕ) (at : Listed) → slice_get m.listing p ≡ Some at → (symbol : Symbol) → slice_get m.symbols p ≡ Some symbol → (to : ℕ) → Successor at.pc at.instr (pos to) →
      (s : FrameState) → Arrives m at.pc s → (o : Option Joined) → kept_at states p ≡ o → DescribesAt (Arrives m at.pc) o → (t : FrameState) × Arrives m to t
  on_from p at is symbol names to successor s h None kept d = absurd (d s h)
  on_from p at is symbol names to successor s h (Some j) kept d =
      let k = calm_at p (deed_of at.instr symbol) j (record { pc = at.pc; instr = at.instr; symbol = symbol; stands = record { listed = is; names = names }; is_deed = refl }) kept in (
        behind k.change s,
        record {
          steps = suc h.steps;
          path = (
            at.pc,
            s,
            h.path,
            record {
              place = p;
              instr = at.instr;
              symbol = symbol;
              stands = record { listed = is; names = names };
              change = k.change;
              changes = calm_meets m (deed_of at.instr symbol) (summary_of j) s k (d.below s h);
              result = refl;
              successor = successor;
            },
          );
        },
      )

  -- some path goes on along each successor
  goes_on : length m.symbols ≡ length m.listing → (from to : ℕ) → Leads m.listing from to → (s : FrameState) → Arrives m from s → (t : FrameState) × Arrives m to t
  goes_on same from to leads s h =
      let at : Listed = record { pc = from; instr = leads.instr } in
      let p = leads.stands.0 in
      let is : slice_get m.listing p ≡ Some at = slice_get_read m.listing (length m.listing) p at refl leads.stands.1 (sym leads.stands.2) in
      let symbol = does_there p at same is in
      on_from p at is symbol.0 symbol.1 to leads.successor s h (kept_at states p) refl (all_described p at is)

  walked : length m.symbols ≡ length m.listing → (from to : ℕ) → Walk (Leads m.listing) from to → (s : FrameState) → Arrives m from s → (t : FrameState) × Arrives m to t
  walked same from to here s h = (s, h)
  walked same from to (on {b = mid} leads w) s h = let next = goes_on same from mid leads s h in walked same mid to w next.0 next.1

  -- something is kept at each place
  pub all_kept : length m.symbols ≡ length m.listing → AllReached m.listing → (q : ℕ) (at : Listed) → slice_get m.listing q ≡ Some at → (x : Joined) × (kept_at states q ≡ Some x)
  all_kept same reached q at is =
      let lt : q < length m.listing = slice_get_within m.listing q at is in
      let stands : StandsAt m.listing at.pc at.instr = (q, lt, get_or_from_slice_get m.listing q at at is) in
      let comes = walked same 0 at.pc (reached at.pc at.instr stands) (entry_state m) (record { steps = 0; path = (refl, refl) }) in
      kept_some (Arrives m at.pc) (kept_at states q) (all_described q at is) comes.0 comes.1

-- a type that all states have is known
known_type : (V : FrameState → Type 0) (slot : ℕ) (t : ValueType) (s : FrameState) → V s → (o : Option JoinedType) → AttainsLocal V slot o → FitsLocal o (s.local slot) →
    ((u : FrameState) → V u → u.local slot ≡ Some t) → o ≡ Some (Known t)
known_type V slot t s among None h f all = absurd (no_clash (Known t) _ _ (all h.s h.s_among) (all h.t h.t_among) h.clash)
known_type V slot t s among (Some (Known u)) h f all = ap (λ x. Some (Known x)) (same_Some u t (sym f ∙ all s among))
known_type V slot t s among (Some (Made k)) h f all =
    absurd (fresh_not_made k k (same_Some _ _ (sym h.0.has ∙ all h.0.s h.0.among ∙ sym (all h.1.s h.1.among) ∙ h.1.has)))

pub told_typed : (m : UntypedMethod) (pc : ℕ) (a : Summary) (state : TypedState) → Describes (Arrives m pc) a → a.stacks_differ ≡ false → a.held_differs ≡ false → IsTold a state → IsTypedState m pc state
told_typed m pc a state d stacks held told = record {
  is_reached = (d.state, d.among);
  by_slot = told.locals.by_number;
  locals = λ slot t. (
    (λ has s h. let P : Option JoinedType → Type 0 = λ o. FitsLocal o (s.local slot) in subst P (told.locals.sound (record { slot = slot; holds = t }) has) ((d.below s h).local slot)),
    (λ all. told.locals.whole (record { slot = slot; holds = t }) (known_type (Arrives m pc) slot t d.state d.among (a.local slot) (d.local slot) ((d.below d.state d.among).local slot) all)),
  );
  stack = λ s h. (d.below s h).stack stacks ∙ told.stack;
  by_monitor = told.held.by_number;
  held = λ monitor count. (
    (λ has. let is = told.held.sound (record { monitor = monitor; count = count }) has in (is.0, λ s h. (d.below s h).held held monitor ∙ is.1)),
    (λ all. told.held.whole (record { monitor = monitor; count = count }) (all.0, sym ((d.below d.state d.among).held held monitor) ∙ all.1 d.state d.among)),
  );
}

-- one typed state more
pub told_more : (states : List (Option Joined)) (i : ℕ) (told : List TypedState) (s : TypedState) (o : Option Joined) → kept_at states i ≡ o → IsToldOf states i told →
    ((x : Joined) → o ≡ Some x → IsTold (summary_of x) s) → IsToldOf states (i + 1) (told ++ s ∷ [])
told_more states i told s o is t says = record {
  long = omega (arith, length-append told (s ∷ []), t.long);
  each = λ q x r kept has.
      let size : length (told ++ s ∷ []) ≡ length told + 1 = omega (arith, length-append told (s ∷ [])) in
      let lt : q < length (told ++ s ∷ []) = slice_get_within (told ++ s ∷ []) q r has in
      let there : get_or (told ++ s ∷ []) q r ≡ r = get_or_from_slice_get (told ++ s ∷ []) q r r has in
      elim (at_or_before q i (omega (arith, t.long))) [
        | inl same ↦ (let P : ℕ → Type 0 = λ n. kept_at states n ≡ Some x in
            let last : r ≡ s = sym there ∙ get_or_push told s r q (t.long ∙ sym same) in
            subst (IsTold (summary_of x)) (sym last) (says x (sym is ∙ subst P same kept)))
        | inr before ↦ (let in_told : q < length told = omega (arith, t.long) in
            t.each q x r kept (slice_get_read told (length told) q r refl in_told (sym (sym (get_or_append_left told (s ∷ []) r q in_told) ∙ there))))
      ];
}

pub all_typed : (m : UntypedMethod) (most : ℕ) (states : List (Option Joined)) (told : List TypedState) → IsByPc m.listing → IsLevel m most states [] → length m.symbols ≡ length m.listing → AllReached m.listing →
    IsToldOf states (length states) told → IsTyping m told
all_typed m most states told by_pc l same reached t = record {
  sound = never_faulty m most states l;
  whole = t.long ∙ l.level.long;
  typed = λ place at state is has.
      let x = all_kept m most states l same reached place at is in
      let symbol = does_there m most states l place at same is in
      let does : DoesAt m place (deed_of at.instr symbol.0) = record { pc = at.pc; instr = at.instr; symbol = symbol.0; stands = record { listed = is; names = symbol.1 }; is_deed = refl } in
      let k = calm_at m most states l place (deed_of at.instr symbol.0) x.0 does x.1 in
      told_typed m at.pc (summary_of x.0) state (subst (DescribesAt (Arrives m at.pc)) x.1 (all_described m most states l place at is)) k.stacks k.held (t.each place x.0 state x.1 has);
}
