-- Steps of the search for the reached places.
use Rattle.std.proofs.Common.{◌≡◌, ◌<◌, ◌+◌, ℕ, ℤ, pos, List, [], ◌∷◌, ◌++◌, Option, Some, None, Contains, length, slice_index_or, slice_set, ◌⊎◌, inl, inr, refl, sym, ap, subst, ◌∙◌, arith, get_or-set_same, get_or-set_other, length-set, replicate}
use Rattle.std.proofs.lemmas.Bool.{cases_eq, cases_lt}
use Rattle.std.proofs.lemmas.List.{get_or_past, get_or-replicate, length-replicate}
use Rattle.std.proofs.lemmas.List.Elements.{Contains-push, Contains-push_cases, Contains-append_left}
use Rattle.std.proofs.lemmas.Option.{none-some, same_Some, get_or_from_slice_get, slice_get_read}
use Rattle.relations.specs.Path.{Walk, here, on}
use Rattle.relations.proofs.Paths.{walked}
use Rattle.opcodes.specs.declared.instruction.Instr.{Instr}
use Rattle.opcodes.specs.declared.survey.Place.{Place}
use Rattle.opcodes.specs.declared.survey.Place.TheVariants.{Unreached, Holds, Unreadable}
use Rattle.opcodes.specs.declared.reading.Misread.{Misread}
use Rattle.opcodes.specs.declared.reading.Misread.TheVariants.{Opcode, Cut}
use Rattle.opcodes.specs.Instructions.{Decodes, Follows, FallsThrough, Successor, falls, jumps, jump_of, length_of}
use Rattle.opcodes.proofs.Unique.{decodes_once, same_length, same_number}
use Rattle.std.specs.Prelude.{◌+ℤ◌, IfSome, IfNone}
use Rattle.std.specs.Option.{option_map}
use Rattle.opcodes.specs.Reached.{Reached}
use Rattle.opcodes.specs.Survey.{IsRead, IsTouched, place_at, IsSurvey, IsSurveyOf, Reaches, before, now, Tells, IsMisread}

-- what was read is reached
IsRead-touched : (code : List ℕ) (pc : ℕ) (place : Place) → IsRead code pc place → IsTouched place
IsRead-touched code pc Unreached r = r
IsRead-touched code pc (Holds instr) r = tt
IsRead-touched code pc (Unreadable why) r = tt

set_touched : (places : List Place) (to : ℕ) (place : Place) → to < length places → IsTouched place → IsTouched (place_at (slice_set places to place) to)
set_touched places to place lt t = subst IsTouched (sym (get_or-set_same places to place Unreached lt)) t

-- after a write what held of each place holds, if it holds of the new one
set_keeps : (places : List Place) (to : ℕ) (place : Place) (P : ℕ → Place → Type 0) → to < length places →
    P to place → (q : ℕ) → P q (place_at places q) → P q (place_at (slice_set places to place) q)
set_keeps places to place P lt new q old =
    elim (cases_eq q to) [
      | inl same ↦ (let Q : ℕ → Type 0 = λ n. P n (place_at (slice_set places to place) n) in
          subst Q (sym same) (subst (P to) (sym (get_or-set_same places to place Unreached lt)) new))
      | inr other ↦ subst (P q) (sym (get_or-set_other places to q place Unreached other)) old
    ]

-- a place that is reached after a write was reached before, or was written
set_split : (places : List Place) (to : ℕ) (place : Place) (q : ℕ) → IsTouched (place_at (slice_set places to place) q) →
    (q ≡ to) ⊎ IsTouched (place_at places q)
set_split places to place q t =
    elim (cases_eq q to) [
      | inl same ↦ inl same
      | inr other ↦ inr (subst IsTouched (get_or-set_other places to q place Unreached other) t)
    ]

-- a reached place that is read now waits besides those that waited
read_now : (code : List ℕ) (places : List Place) (left left' : List ℕ) (to : ℕ) (place : Place) → to < length places → Reached code to → IsRead code to place →
    ((q : ℕ) → Contains left q → Contains left' q) → ((q : ℕ) → Contains left' q → (q ≡ to) ⊎ Contains left q) → Contains left' to →
    IsSurvey code places left → IsSurvey code (slice_set places to place) left'
read_now code places left left' to place lt reached read grown known has s =
    let touched = IsRead-touched code to place read in
    let kept : (q : ℕ) → IsTouched (place_at places q) → IsTouched (place_at (slice_set places to place) q) =
    set_keeps places to place (λ _ p. IsTouched p) lt touched in
    record {
      same_length = length-set places to place ∙ s.same_length;
      start = kept 0 s.start;
      reached = λ q t. elim (set_split places to place q t) [ inl same ↦ subst (Reached code) (sym same) reached | inr old ↦ s.reached q old ];
      read = λ q t. set_keeps places to place (λ n p. IsTouched p → IsRead code n p) lt (λ _. read) q (s.read q) t;
      waiting = λ q c. elim (known q c) [
        | inl same ↦ (let P : ℕ → Type 0 = λ n. IsTouched (place_at (slice_set places to place) n) in subst P (sym same) (set_touched places to place lt touched))
        | inr old ↦ kept q (s.waiting q old)
      ];
      closed = λ from next t f. elim (set_split places to place from t) [
        | inl same ↦ inr (subst (Contains left') (sym same) has)
        | inr old ↦ elim (s.closed from next old f) [ inl t' ↦ inl (kept next t') | inr c ↦ inr (grown from c) ]
      ];
    }

-- the survey stays one where a place is reached
pub reached_survey : (code : List ℕ) (places : List Place) (waiting : List ℕ) (to : ℕ) (places' : List Place) (waiting' : List ℕ) (from : ℕ) →
    to < length code → Reached code to → Reaches code places waiting to places' waiting' →
    IsSurvey code places (waiting ++ from ∷ []) → IsSurvey code places' (waiting' ++ from ∷ [])
reached_survey code places waiting to places' waiting' from lt reached (before t same_places same_waiting) s =
    let P : List Place → Type 0 = λ ps. IsSurvey code ps (waiting' ++ from ∷ []) in
    let Q : List ℕ → Type 0 = λ ws. IsSurvey code places (ws ++ from ∷ []) in
    subst P (sym same_places) (subst Q (sym same_waiting) s)
reached_survey code places waiting to places' waiting' from lt reached (now place unreached read new_places new_waiting) s =
    let P : List Place → Type 0 = λ ps. IsSurvey code ps (waiting' ++ from ∷ []) in
    let Q : List ℕ → Type 0 = λ ws. IsSurvey code (slice_set places to place) (ws ++ from ∷ []) in
    let inside : to < length places = omega (arith, s.same_length) in
    let more = waiting ++ to ∷ [] in
    subst P (sym new_places) (subst Q (sym new_waiting)
    (read_now code places (waiting ++ from ∷ []) (more ++ from ∷ []) to place inside reached read
    (λ q c. elim (Contains-push_cases waiting from q c) [
      | inl old ↦ Contains-append_left more (from ∷ []) q (Contains-append_left waiting (to ∷ []) q old)
      | inr same ↦ subst (Contains (more ++ from ∷ [])) same (Contains-push more from)
    ])
    (λ q c. elim (Contains-push_cases more from q c) [
      | inl old ↦ elim (Contains-push_cases waiting to q old) [ inl older ↦ inr (Contains-append_left waiting (from ∷ []) q older) | inr same ↦ inl (sym same) ]
      | inr same ↦ inr (subst (Contains (waiting ++ from ∷ [])) same (Contains-push waiting from))
    ])
    (Contains-append_left more (from ∷ []) to (Contains-push waiting to))
    s))

-- a place whose successors are all reached waits no more
pub survey_done : (code : List ℕ) (places : List Place) (waiting : List ℕ) (from : ℕ) →
    ((to : ℕ) → Follows code from to → IsTouched (place_at places to)) →
    IsSurvey code places (waiting ++ from ∷ []) → IsSurvey code places waiting
survey_done code places waiting from all s = record {
  same_length = s.same_length;
  start = s.start;
  reached = s.reached;
  read = s.read;
  waiting = λ q c. s.waiting q (Contains-append_left waiting (from ∷ []) q c);
  closed = λ a b t f. elim (s.closed a b t f) [
    | inl t' ↦ inl t'
    | inr c ↦ elim (Contains-push_cases waiting from a c) [
      | inl old ↦ inr old
      | inr same ↦ (let P : ℕ → Type 0 = λ n. Follows code n b in inl (all b (subst P (sym same) f)))
    ]
  ];
}

-- where nothing waits, a walk from a reached place stays on reached places
walk_touched : (code : List ℕ) (places : List Place) → IsSurvey code places [] → (a b : ℕ) → IsTouched (place_at places a) → Walk (Follows code) a b → IsTouched (place_at places b)
walk_touched code places s a b t here = t
walk_touched code places s a b t (on {b = m} f w) =
    elim (s.closed a m t f) [ inl t' ↦ walk_touched code places s m b t' w | inr c ↦ absurd (omega (arith, c.1)) ]

tells_at : (code : List ℕ) (places : List Place) → IsSurvey code places [] → (pc : ℕ) (place : Place) → place_at places pc ≡ place → Tells code pc place
tells_at code places s pc Unreached same = λ w. subst IsTouched same (walk_touched code places s 0 pc s.start w)
tells_at code places s pc (Holds instr) same =
    let t = subst IsTouched (sym same) tt in (s.reached pc t, subst (IsRead code pc) same (s.read pc t))
tells_at code places s pc (Unreadable why) same =
    let t = subst IsTouched (sym same) tt in (s.reached pc t, subst (IsRead code pc) same (s.read pc t))

unreached_at : (count pc : ℕ) → place_at (replicate count Unreached) pc ≡ Unreached
unreached_at count pc =
    elim (cases_lt pc count) [
      | inl within ↦ get_or-replicate count pc Unreached Unreached within
      | inr past ↦ get_or_past (replicate count Unreached) pc Unreached (omega (arith, length-replicate count Unreached))
    ]

begun : (code : List ℕ) (count : ℕ) (place : Place) → count ≡ length code → 0 < length code → IsRead code 0 place →
    IsSurvey code (slice_set (replicate count Unreached) 0 place) (0 ∷ [])
begun code count place same lt read =
    let places = replicate count Unreached in
    let inside : 0 < length places = omega (arith, length-replicate count Unreached) in
    let touched = IsRead-touched code 0 place read in
    let first : (q : ℕ) → IsTouched (place_at (slice_set places 0 place) q) → q ≡ 0 = λ q t. elim (set_split places 0 place q t) [
      | inl same_place ↦ same_place
      | inr old ↦ absurd (subst IsTouched (unreached_at count q) old)
    ] in
    record {
      same_length = length-set places 0 place ∙ length-replicate count Unreached ∙ same;
      start = set_touched places 0 place inside touched;
      reached = λ q t. subst (Reached code) (sym (first q t)) here;
      read = λ q t. let P : ℕ → Type 0 = λ n. IsRead code n (place_at (slice_set places 0 place) n) in
          subst P (sym (first q t)) (subst (IsRead code 0) (sym (get_or-set_same places 0 place Unreached inside)) read);
      waiting = λ q c. elim (Contains-push_cases [] 0 q c) [
        | inl none ↦ absurd (omega (arith, none.1))
        | inr same_place ↦ (let P : ℕ → Type 0 = λ n. IsTouched (place_at (slice_set places 0 place) n) in subst P same_place (set_touched places 0 place inside touched))
      ];
      closed = λ from to t f. inr (subst (Contains (0 ∷ [])) (sym (first from t)) (Contains-push [] 0));
    }

-- where nothing waits, the survey is whole
pub survey_whole : (code : List ℕ) (places : List Place) → IsSurvey code places [] → IsSurveyOf code places
survey_whole code places s = record { same_length = s.same_length; tells = λ pc _. tells_at code places s pc (place_at places pc) refl }

-- the instruction at a reached place: its successors in the code are reached
pub falls_reached : (code : List ℕ) (places : List Place) (left : List ℕ) (from to : ℕ) (instr : Instr) → IsSurvey code places left →
    place_at places from ≡ Holds instr → FallsThrough instr → to < length code → to ≡ from + length_of instr → Reached code to
falls_reached code places left from to instr s holds through lt e =
    let t = subst IsTouched (sym holds) tt in
    walked (Follows code) 0 from to (s.reached from t)
    (record { instr = instr; decodes = subst (IsRead code from) holds (s.read from t); successor = falls through (ap pos e); inside = lt })

-- what a mapped option has comes from what the option has
pub mapped_some : (o : Option ℤ) (f : ℤ → ℤ) (y : ℤ) → option_map f o ≡ Some y → (d : ℤ) × (o ≡ Some d) × (y ≡ f d)
mapped_some None f y e = absurd (none-some y e)
mapped_some (Some d) f y e = (d, refl, sym (same_Some _ _ e))

pub jumps_reached : (code : List ℕ) (places : List Place) (left : List ℕ) (from to : ℕ) (instr : Instr) → IsSurvey code places left →
    place_at places from ≡ Holds instr → to < length code → option_map (λ distance. pos from +ℤ distance) (jump_of instr) ≡ Some (pos to) → Reached code to
jumps_reached code places left from to instr s holds lt e =
    let t = subst IsTouched (sym holds) tt in
    let jump = mapped_some (jump_of instr) (λ distance. pos from +ℤ distance) (pos to) e in
    walked (Follows code) 0 from to (s.reached from t)
    (record { instr = instr; decodes = subst (IsRead code from) holds (s.read from t); successor = jumps jump.0 jump.1 jump.2; inside = lt })

pub decodes_there : (code : List ℕ) (places : List Place) (left : List ℕ) (from : ℕ) (instr : Instr) → IsSurvey code places left →
    place_at places from ≡ Holds instr → Decodes code from instr
decodes_there code places left from instr s holds = subst (IsRead code from) holds (s.read from (subst IsTouched (sym holds) tt))

pos_same : (m n : ℕ) → pos m ≡ pos n → m ≡ n
pos_same m n e = cc

-- the successor in the code of the instruction at a place is behind it or its jump's target
successor_cases : (from to : ℕ) (instr : Instr) (P : Type 0) → Successor from instr (pos to) → (FallsThrough instr → to ≡ from + length_of instr → P) →
    (option_map (λ distance. pos from +ℤ distance) (jump_of instr) ≡ Some (pos to) → P) → P
successor_cases from to instr P (falls through e) fall jump = fall through (pos_same _ _ e)
successor_cases from to instr P (jumps d is e) fall jump = jump (ap (option_map (λ distance. pos from +ℤ distance)) is ∙ ap Some (sym e))

-- a place with an instruction waits no more, where its successors in the code are reached
pub visited : (code : List ℕ) (places : List Place) (waiting : List ℕ) (from : ℕ) (instr : Instr) → Decodes code from instr →
    ((to : ℕ) → FallsThrough instr → to < length code → to ≡ from + length_of instr → IsTouched (place_at places to)) →
    ((to : ℕ) → to < length code → option_map (λ distance. pos from +ℤ distance) (jump_of instr) ≡ Some (pos to) → IsTouched (place_at places to)) →
    IsSurvey code places (waiting ++ from ∷ []) → IsSurvey code places waiting
visited code places waiting from instr decodes fall jump s =
    survey_done code places waiting from
    (λ to f. let P : Instr → Type 0 = λ i. Successor from i (pos to) in
    successor_cases from to instr (IsTouched (place_at places to)) (subst P (decodes_once code from f.instr instr f.decodes decodes) f.successor)
    (λ through e. fall to through f.inside e) (λ e. jump to f.inside e))
    s

pub misread_holds : (code : List ℕ) (pc : ℕ) (why : Misread) (instr : Instr) → IsMisread code pc why → Decodes code pc instr → ⊥
misread_holds code pc (Opcode n) instr m d = m.unknown instr (same_number code pc _ _ d.number m.there)
misread_holds code pc Cut instr m d =
    omega (arith, same_length m.instr instr (same_number code pc _ _ m.there d.number), m.beyond, d.whole)

-- a place without an instruction waits no more
pub passed : (code : List ℕ) (places : List Place) (waiting : List ℕ) (from : ℕ) (place : Place) → place_at places from ≡ place →
    ((instr : Instr) → place ≡ Holds instr → ⊥) → IsSurvey code places (waiting ++ from ∷ []) → IsSurvey code places waiting
passed code places waiting from Unreached same other s = absurd (subst IsTouched same (s.waiting from (Contains-push waiting from)))
passed code places waiting from (Holds instr) same other s = absurd (other instr refl)
passed code places waiting from (Unreadable why) same other s =
    let t = subst IsTouched (sym same) tt in
    survey_done code places waiting from
    (λ to f. absurd (misread_holds code from why f.instr (subst (IsRead code from) same (s.read from t)) f.decodes)) s

-- the place that the code reads
pub place_read : (places : List Place) (pc : ℕ) (place : Place) → pc < length places → place ≡ slice_index_or places pc place → place_at places pc ≡ place
place_read places pc place within e =
    get_or_from_slice_get places pc place Unreached (slice_get_read places (length places) pc place refl within e)

-- the place behind an instruction, as the code's answer gives it
pub fall_from : (r : Option ℤ) (F : Type 0) (place to : ℕ) → IfSome r (λ z. F × (z ≡ pos place)) → r ≡ Some (pos to) → F × (to ≡ place)
fall_from r F place to some e =
    let P : Option ℤ → Type 0 = λ o. IfSome o (λ z. F × (z ≡ pos place)) in
    let h = subst P e some in (h.0, pos_same _ _ h.1)

pub fall_is : (r : Option ℤ) (F : Type 0) (place to : ℕ) → IfSome r (λ z. F × (z ≡ pos place)) → IfNone r (F → ⊥) → F → to ≡ place → r ≡ Some (pos to)
fall_is None F place to some none f e = absurd (none f)
fall_is (Some z) F place to some none f e = ap Some (some.1 ∙ ap pos (sym e))

-- a place that waits lies in the code
pub waiting_inside : (code : List ℕ) (places : List Place) (waiting : List ℕ) (from : ℕ) → IsSurvey code places (waiting ++ from ∷ []) → from < length code
waiting_inside code places waiting from s =
    let t = s.waiting from (Contains-push waiting from) in
    elim (cases_lt from (length places)) [
      | inl within ↦ omega (arith, s.same_length)
      | inr past ↦ absurd (subst IsTouched (get_or_past places from Unreached past) t)
    ]

-- where no place was reached, reaching the first one begins the survey
pub first_survey : (code : List ℕ) (count : ℕ) (places' : List Place) (waiting' : List ℕ) → count ≡ length code → 0 < length code →
    Reaches code (replicate count Unreached) [] 0 places' waiting' → IsSurvey code places' waiting'
first_survey code count places' waiting' same lt (before t e f) = absurd (subst IsTouched (unreached_at count 0) t)
first_survey code count places' waiting' same lt (now place u read e f) =
    let P : List Place → Type 0 = λ ps. IsSurvey code ps waiting' in
    let Q : List ℕ → Type 0 = λ ws. IsSurvey code (slice_set (replicate count Unreached) 0 place) ws in
    subst P (sym e) (subst Q (sym f) (begun code count place same lt read))
