-- Listings of surveys.
use Rattle.std.proofs.Common.{◌≡◌, ◌<◌, ◌+◌, ℕ, List, [], ◌∷◌, ◌++◌, Contains, length, inl, inr, ap, subst, arith}
use Rattle.std.proofs.lemmas.Bool.{cases_lt}
use Rattle.std.proofs.lemmas.List.Elements.{All-contains, Contains-push, Contains-push_cases, Contains-append_left, All-push, All-weaker}
use Rattle.std.proofs.lemmas.List.Quantifiers.{all_pairs_push}
use Rattle.opcodes.specs.declared.instruction.Instr.{Instr}
use Rattle.opcodes.specs.declared.listed.Listed.{Listed}
use Rattle.opcodes.specs.declared.survey.Place.{Place}
use Rattle.opcodes.specs.declared.survey.Place.TheVariants.{Unreached, Holds, Unreadable}
use Rattle.opcodes.specs.Instructions.{Decodes}
use Rattle.opcodes.specs.Reached.{Reached, IsListingOf}
use Rattle.opcodes.specs.Listing.{StandsAt}
use Rattle.opcodes.proofs.Unique.{decodes_once}
use Rattle.opcodes.proofs.Surveys.{misread_holds}
use Rattle.opcodes.proofs.Scans.{reached_inside}
use Rattle.opcodes.specs.Survey.{ListsBefore, place_at, IsSurveyOf, Tells}

abbrev entry : ℕ → Instr → Listed
entry pc instr = record { pc = pc; instr = instr }

-- one more place with an instruction
pub listed_more : (places : List Place) (pc : ℕ) (listing : List Listed) (instr : Instr) → place_at places pc ≡ Holds instr →
    ListsBefore places pc listing → ListsBefore places (pc + 1) (listing ++ record { pc = pc; instr = instr } ∷ [])
listed_more places pc listing instr holds l = record {
  by_pc = all_pairs_push (λ a b. a.pc < b.pc) listing (entry pc instr) l.by_pc (λ k d lt. l.below k d lt);
  below = All-push (λ x. x.pc < pc + 1) listing (entry pc instr) (All-weaker (λ x. x.pc < pc) (λ x. x.pc < pc + 1) (λ x h. omega arith) listing l.below) (omega arith);
  from_places = λ at i s. elim (Contains-push_cases listing (entry pc instr) (entry at i) s) [
    | inl old ↦ l.from_places at i old
    | inr same ↦ (let P : Listed → Type 0 = λ x. place_at places x.pc ≡ Holds x.instr in subst P same holds)
  ];
  all_before = λ at i lt h. elim (cases_lt at pc) [
    | inl old ↦ Contains-append_left listing (entry pc instr ∷ []) (entry at i) (l.all_before at i old h)
    | inr past ↦ (let same : at ≡ pc = omega arith in
        let P : ℕ → Type 0 = λ n. place_at places n ≡ Holds i in
        let e : instr ≡ i = cc in
        let Q : Listed → Type 0 = Contains (listing ++ entry pc instr ∷ []) in
        let f : entry pc instr ≡ entry at i = cc in
        subst Q f (Contains-push listing (entry pc instr)))
  ];
}

-- one more place without an instruction
pub listed_none : (places : List Place) (pc : ℕ) (listing : List Listed) → ((instr : Instr) → place_at places pc ≡ Holds instr → ⊥) →
    ListsBefore places pc listing → ListsBefore places (pc + 1) listing
listed_none places pc listing none l = record {
  by_pc = l.by_pc;
  below = All-weaker (λ x. x.pc < pc) (λ x. x.pc < pc + 1) (λ x h. omega arith) listing l.below;
  from_places = l.from_places;
  all_before = λ at i lt h. elim (cases_lt at pc) [
    | inl old ↦ l.all_before at i old h
    | inr past ↦ (let same : at ≡ pc = omega arith in
        let P : ℕ → Type 0 = λ n. place_at places n ≡ Holds i in absurd (none i (subst P same h)))
  ];
}

holds_there : (code : List ℕ) (pc : ℕ) (instr : Instr) (place : Place) → Tells code pc place → Reached code pc → Decodes code pc instr → place ≡ Holds instr
holds_there code pc instr Unreached t r d = absurd (t r)
holds_there code pc instr (Holds other) t r d = ap Holds (decodes_once code pc other instr t.1 d)
holds_there code pc instr (Unreadable why) t r d = absurd (misread_holds code pc why instr t.1 d)

-- what a listing of all places has, and what a survey tells, is the listing of the code
pub listing_is : (code : List ℕ) (places : List Place) (listing : List Listed) → 0 < length code → IsSurveyOf code places →
    ListsBefore places (length places) listing → IsListingOf code listing
listing_is code places listing some s l =
    let known : (pc : ℕ) (instr : Instr) → StandsAt listing pc instr → Tells code pc (Holds instr) = λ pc instr st.
    let lt : pc < length code = omega (arith, All-contains (λ x. x.pc < length places) listing (entry pc instr) l.below st, s.same_length) in
    subst (Tells code pc) (l.from_places pc instr st) (s.tells pc lt) in
    record {
      by_pc = l.by_pc;
      reached = λ pc instr st. (known pc instr st).0;
      decodes = λ pc instr st. (known pc instr st).1;
      whole = λ pc instr r d.
          let lt = reached_inside code pc some r in
          l.all_before pc instr (omega (arith, lt, s.same_length)) (holds_there code pc instr (place_at places pc) (s.tells pc lt) r d);
    }
