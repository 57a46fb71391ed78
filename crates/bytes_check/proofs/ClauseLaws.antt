-- The item of a clause.
use Rattle.std.proofs.Common.{zero, suc, ◌≡◌, ◌≢◌, ◌++◌, ◌+◌, ◌-◌, ◌<◌, ◌∙◌, inl, inr, ℕ, Bool, true, false, ap, sym, subst, arith, refl, length, map, List, [], ◌∷◌, Option, Some, append_assoc, nat_eq, eq-eqb}
use Rattle.std.specs.Prelude.{◌==◌, ◌↔◌, All, Any, IsTrue}
use Rattle.std.specs.List.{flat_map}
use Rattle.std.specs.Option.{IfSome}
use Rattle.std.proofs.lemmas.Bool.{eqb-true}
use Rattle.std.proofs.lemmas.List.{length-append, map-append}
use Rattle.std.proofs.lemmas.List.Elements.{All-push}
use Rattle.sources.specs.Leaving.{Takes}
use Rattle.texts.specs.SevenBits.{seven_bits}
use Rattle.token_reader.specs.declared.bytes.ReadRefusal.{ReadRefusal}
use Rattle.token_reader.specs.declared.bytes.ReadRefusal.TheVariants.{Memory as NoRoom}
use Rattle.var_names.specs.declared.var.Lit.{Lit}
use Rattle.var_names.specs.LiteralText.{literal_bytes}
use Rattle.var_names.specs.Readable.{IsLiteral}
use Rattle.var_names.proofs.ByteLaws.{bytes-one}
use Rattle.refutation_lines.specs.LineText.{counted}
use Rattle.refutation_lines.specs.Propagation.{Clauses, FollowsFrom, negation}
use Rattle.refutation_lines.specs.Refutations.{IsClause}
use Rattle.refutation_items.specs.declared.refusal.LineRefusal.{LineRefusal}
use Rattle.refutation_items.specs.declared.refusal.Reason.{Reason}
use Rattle.refutation_items.specs.declared.refusal.Reason.TheVariants.{Form, BadRule, HintNotUnit, HintUnknown, NoEmptyClause}
use Rattle.refutation_items.specs.Parts.{LacksLiteral, LacksNumber}
use Rattle.refutation_items.specs.Refusals.{IsRefusedFor}
use Rattle.refutation_items.proofs.Refusing.{takes-as, takes-then, told-taken}
use Rattle.refutation_check.specs.declared.hints.HintRefusal.{HintRefusal}
use Rattle.refutation_check.specs.declared.hints.HintRefusal.TheVariants.{NotUnit, Unknown, Memory}
use Rattle.refutation_steps.specs.HintSteps.{Follows, FollowsAll, IsFalsified, IsWrongHint}
use Rattle.refutation_steps.proofs.HintLaws.{follows-from, follows-more}
use Rattle.refutation_steps.proofs.Lists.{pairs-head, pairs-push, pairs-tail}
use Rattle.bytes_check.specs.Items.{BeginsClause, BeginsWrongHint, IsShort, IsWrongClause}
use Rattle.bytes_check.specs.Refused.{IsHintRefusal}
use Rattle.bytes_check.specs.Taken.{AreWrongHints, HasWrongHint, LacksLiterals, TakesClause, TakesHints, TakesLiterals}
use Rattle.bytes_check.proofs.Announced.{flat_map-push, next-item, number-then}
use Rattle.bytes_check.proofs.RuleLaws.{for-form}

-- the literals that were taken, of so many
pub record LiteralsSoFar (old now : Option (List ℕ)) (count left : ℕ) (literals : List Lit) : Type 0 where
  pub count_of : length literals + left ≡ count
  pub fit : All IsLiteral literals
  pub is_clause : IsClause literals
  pub taken : Takes old now (flat_map literal_bytes literals)

pub no-literals : (old : Option (List ℕ)) (count : ℕ) (literals : List Lit) → literals ≡ [] → Takes old old [] → LiteralsSoFar old old count count literals
no-literals old count literals none nothing = subst (LiteralsSoFar old old count count) (sym none) (record {
  count_of = omega arith;
  fit = λ k d within. absurd (omega arith);
  is_clause = λ i j d before within. absurd (omega arith);
  taken = nothing;
})

pub one-literal : (old now next : Option (List ℕ)) (count left : ℕ) (literals all : List Lit) (literal : Lit) → LiteralsSoFar old now count left literals → 0 < left
    → IsLiteral literal → All (λ (earlier : Lit). earlier.var ≢ literal.var) literals → Takes now next (literal_bytes literal)
    → all ≡ literals ++ literal ∷ [] → LiteralsSoFar old next count (left - 1) all
one-literal old now next count left literals all literal before some fits fresh takes is =
    subst (LiteralsSoFar old next count (left - 1)) (sym is) (record {
      count_of = let long = length-append literals (literal ∷ []) in omega (arith, before.count_of, long);
      fit = All-push IsLiteral literals literal before.fit fits;
      is_clause = pairs-push (λ (earlier later : Lit). earlier.var ≢ later.var) literals literal before.is_clause fresh;
      taken = takes-as old next (flat_map literal_bytes literals ++ literal_bytes literal) (flat_map literal_bytes (literals ++ literal ∷ []))
          (sym (flat_map-push literal_bytes literals literal)) (takes-then old now next (flat_map literal_bytes literals) (literal_bytes literal) before.taken takes);
    })

pub all-literals : (old now : Option (List ℕ)) (count left : ℕ) (literals : List Lit) → LiteralsSoFar old now count left literals → left ≡ 0 → TakesLiterals old now count literals
all-literals old now count left literals before none =
    record { count_of = omega (arith, before.count_of, none); fit = before.fit; is_clause = before.is_clause; taken = before.taken }

-- a literal is missing
pub literal-missing : (count : ℕ) (before : List Lit) (bytes : List ℕ) (reason : Reason) → All IsLiteral before → length before < count
    → LacksLiteral bytes reason → LacksLiterals count (flat_map literal_bytes before ++ bytes) reason
literal-missing count before bytes reason fit fewer lacks = (
  lacks.1,
  λ literals rest many fit_all clause same.
      let next = next-item literal_bytes IsLiteral bytes-one literals before bytes rest fit fit_all (omega (arith, fewer, many)) same in
      lacks.0 next.item (flat_map literal_bytes next.more ++ rest) next.fits next.rest_of,
)

all-there : (P : Lit → Type 0) (before more : List Lit) (x : Lit) → All P (before ++ x ∷ more) → P x
all-there P [] more x all = all 0 x (omega arith)
all-there P (b ∷ before) more x all = all-there P before more x (λ k d within. all (suc k) d (omega (arith, within)))

clash : (before more : List Lit) (x : Lit) → IsClause (before ++ x ∷ more) → ¬ (Any (λ (e : Lit). e.var ≡ x.var) before)
clash [] more x clause any = omega (arith, any.2)
clash (b ∷ before) more x clause (zero, e, within, is, same) =
    all-there (λ (later : Lit). b.var ≢ later.var) before more x (pairs-head (λ (earlier later : Lit). earlier.var ≢ later.var) b (before ++ x ∷ more) clause)
    (ap (λ (l : Lit). l.var) is ∙ same)
clash (b ∷ before) more x clause (suc k, e, within, is, same) =
    clash before more x (pairs-tail (λ (earlier later : Lit). earlier.var ≢ later.var) b (before ++ x ∷ more) clause) (k, e, omega (arith, within), is, same)

-- a literal of a variable that was read before
pub literal-repeated : (count : ℕ) (before : List Lit) (literal : Lit) (bytes : List ℕ) → All IsLiteral before → IsLiteral literal → length before < count
    → Any (λ (e : Lit). e.var ≡ literal.var) before → LacksLiterals count (flat_map literal_bytes before ++ literal_bytes literal ++ bytes) Form
literal-repeated count before literal bytes fit fits fewer any = (
  refl,
  λ literals rest many fit_all clause same.
      let next = next-item literal_bytes IsLiteral bytes-one literals before (literal_bytes literal ++ bytes) rest fit fit_all (omega (arith, fewer, many))
      (sym (append_assoc (flat_map literal_bytes before) (literal_bytes literal) bytes) ∙ same) in
      let is : literal ≡ next.item = bytes-one literal next.item bytes (flat_map literal_bytes next.more ++ rest) fits next.fits next.rest_of in
      clash before next.more next.item (subst IsClause next.all_of clause) (subst (λ (l : Lit). Any (λ (e : Lit). e.var ≡ l.var) before) is any),
)

-- the hints that were followed, of so many
pub record HintsSoFar (old now : Option (List ℕ)) (count left : ℕ) (clauses : Clauses) (trues made : List Lit) : Type 0 where
  pub hints : List ℕ
  pub count_of : length hints + left ≡ count
  pub followed : FollowsAll clauses trues hints made
  pub taken : Takes old now (flat_map seven_bits hints)

pub no-hints : (old : Option (List ℕ)) (count : ℕ) (clauses : Clauses) (trues : List Lit) → Takes old old [] → HintsSoFar old old count count clauses trues trues
no-hints old count clauses trues nothing = record { hints = []; count_of = omega arith; followed = refl; taken = nothing }

pub one-hint : (old now next : Option (List ℕ)) (count left : ℕ) (clauses : Clauses) (trues made more : List Lit) (hint : ℕ)
    → HintsSoFar old now count left clauses trues made → 0 < left → Takes now next (seven_bits hint) → Follows clauses made hint more
    → HintsSoFar old next count (left - 1) clauses trues more
one-hint old now next count left clauses trues made more hint before some takes follows = record {
  hints = before.hints ++ hint ∷ [];
  count_of = let long = length-append before.hints (hint ∷ []) in omega (arith, before.count_of, long);
  followed = follows-more clauses trues before.hints made hint more before.followed follows;
  taken = takes-as old next (flat_map seven_bits before.hints ++ seven_bits hint) (flat_map seven_bits (before.hints ++ hint ∷ []))
      (sym (flat_map-push seven_bits before.hints hint)) (takes-then old now next (flat_map seven_bits before.hints) (seven_bits hint) before.taken takes);
}

pub all-hints : (old now next : Option (List ℕ)) (count left : ℕ) (clauses : Clauses) (trues made : List Lit) (hint : ℕ)
    → HintsSoFar old now count left clauses trues made → left ≡ 1 → Takes now next (seven_bits hint) → IsFalsified clauses made hint
    → TakesHints old next count clauses trues
all-hints old now next count left clauses trues made hint before one takes falsified = record {
  hints = before.hints;
  last = hint;
  now = made;
  count_of = omega (arith, before.count_of, one);
  followed = before.followed;
  falsified = falsified;
  taken = takes-then old now next (flat_map seven_bits before.hints) (seven_bits hint) before.taken takes;
}

pub hint-missing : (count left : ℕ) (old now : Option (List ℕ)) (clauses : Clauses) (trues made : List Lit) (bytes : List ℕ) (reason : Reason)
    (before : HintsSoFar old now count left clauses trues made) → 0 < left → LacksNumber bytes reason
    → AreWrongHints count clauses trues (flat_map seven_bits before.hints ++ bytes) reason
hint-missing count left old now clauses trues made bytes reason before some lacks =
    for-form (AreWrongHints count clauses trues (flat_map seven_bits before.hints ++ bytes)) reason lacks.1 (record {
      hints = before.hints;
      now = made;
      rest = bytes;
      begins = refl;
      missing = omega (arith, before.count_of, some);
      followed = before.followed;
      none = lacks.0;
    })

not-equal : (m n : ℕ) → (m ≡ n → ⊥) → nat_eq m n ≡ false
not-equal m n differ = by (nat_eq m n) refl
  where
    by : (b : Bool) → nat_eq m n ≡ b → b ≡ false
    by true is = absurd (differ (eqb-true m n is))
    by false is = refl

-- whether the hint that comes is the last
pub is-last : (count left : ℕ) (hints : List ℕ) → length hints + left ≡ count → left ≡ 1 → (length hints + 1 == count) ≡ true
is-last count left hints many one = eq-eqb (length hints + 1) count (omega (arith, many, one))

pub not-last : (count left : ℕ) (hints : List ℕ) → length hints + left ≡ count → 1 < left → (length hints + 1 == count) ≡ false
not-last count left hints many more = not-equal (length hints + 1) count (λ same. omega (arith, many, more, same))

-- a hint is wrong
module _ (count left : ℕ) (old now next : Option (List ℕ)) (clauses : Clauses) (trues made : List Lit) (hint : ℕ) (last : Bool)
    (before : HintsSoFar old now count left clauses trues made) (some : 0 < left) (short : IsShort hint) (takes : Takes now next (seven_bits hint))
    (is : (length before.hints + 1 == count) ≡ last) where
  wrong : (bytes : List ℕ) (refusal : HintRefusal) → IsWrongHint clauses made last hint refusal
      → HasWrongHint count clauses trues (flat_map seven_bits before.hints ++ seven_bits hint ++ bytes) refusal
  wrong bytes refusal fault = record {
    hints = before.hints;
    now = made;
    hint = hint;
    rest = bytes;
    begins = append_assoc (flat_map seven_bits before.hints) (seven_bits hint) bytes;
    within = omega (arith, before.count_of, some);
    short = short;
    followed = before.followed;
    wrong = subst (λ (b : Bool). IsWrongHint clauses made b hint refusal) (sym is) fault;
  }

  told : (reason : Reason) (refusal : HintRefusal) → ((bytes : List ℕ) → HasWrongHint count clauses trues bytes refusal → AreWrongHints count clauses trues bytes reason)
      → IsWrongHint clauses made last hint refusal → IfSome old (λ bytes. AreWrongHints count clauses trues bytes reason)
  told reason refusal means fault =
      told-taken old next (flat_map seven_bits before.hints ++ seven_bits hint) (λ bytes. AreWrongHints count clauses trues bytes reason)
      (takes-then old now next (flat_map seven_bits before.hints) (seven_bits hint) before.taken takes)
      (λ bytes. means (flat_map seven_bits before.hints ++ seven_bits hint ++ bytes) (wrong bytes refusal fault))

  pub hint-refused : (causes : ReadRefusal → Type 0) (refusal : HintRefusal) (line : LineRefusal) → causes NoRoom → IsHintRefusal refusal line
      → IsWrongHint clauses made last hint refusal → IsRefusedFor causes old (AreWrongHints count clauses trues) line
  hint-refused causes NotUnit line free same fault =
      subst (IsRefusedFor causes old (AreWrongHints count clauses trues)) (sym same) (told HintNotUnit NotUnit (λ bytes has. inr has) fault)
  hint-refused causes Unknown line free same fault =
      subst (IsRefusedFor causes old (AreWrongHints count clauses trues)) (sym same) (told HintUnknown Unknown (λ bytes has. has) fault)
  hint-refused causes Memory line free same fault = subst (IsRefusedFor causes old (AreWrongHints count clauses trues)) (sym same) free

-- the parts of a clause's item that are missing
clause-parts : (literals : List Lit) (rest : List ℕ) → counted literal_bytes literals ++ rest ≡ seven_bits (length literals) ++ (flat_map literal_bytes literals ++ rest)
clause-parts literals rest = append_assoc (seven_bits (length literals)) (flat_map literal_bytes literals) rest

pub literal-count-missing : (clauses : Clauses) (bytes : List ℕ) (reason : Reason) → LacksNumber bytes reason → IsWrongClause clauses bytes reason
literal-count-missing clauses bytes reason lacks =
    for-form (IsWrongClause clauses bytes) reason lacks.1
    (inl (λ literals rest readable clause same. lacks.0 (length literals) (flat_map literal_bytes literals ++ rest) readable.0 (same ∙ clause-parts literals rest)))

pub literals-missing : (clauses : Clauses) (count : ℕ) (bytes : List ℕ) (reason : Reason) → IsShort count → LacksLiterals count bytes reason
    → IsWrongClause clauses (seven_bits count ++ bytes) reason
literals-missing clauses count bytes reason few lacks =
    for-form (IsWrongClause clauses (seven_bits count ++ bytes)) reason lacks.0
    (inl (λ literals rest readable clause same.
    let parts = number-then count (length literals) bytes (flat_map literal_bytes literals ++ rest) few readable.0 (same ∙ clause-parts literals rest) in
    lacks.1 literals rest (sym parts.0) readable.1 clause parts.1))

pub hint-count-missing : (clauses : Clauses) (literals : List Lit) (count : ℕ) (bytes : List ℕ) (reason : Reason) → IsShort count → length literals ≡ count
    → All IsLiteral literals → IsClause literals → LacksNumber bytes reason → IsWrongClause clauses (counted literal_bytes literals ++ bytes) reason
hint-count-missing clauses literals count bytes reason few many fit clause lacks =
    for-form (IsWrongClause clauses (counted literal_bytes literals ++ bytes)) reason lacks.1
    (inr (inl (record {
      literals = literals;
      readable = (subst IsShort (sym many) few, fit);
      is_clause = clause;
      rest = bytes;
      begins = refl;
      none = lacks.0;
    })))

-- the hints of a clause are wrong
module _ (clauses : Clauses) (literals : List Lit) (count announced : ℕ) (few : IsShort count) (short : IsShort announced) (many : length literals ≡ count)
    (fit : All IsLiteral literals) (clause : IsClause literals) (bytes : List ℕ) where
  begins-clause : (hints : List ℕ) (now : List Lit) (rest : List ℕ) → FollowsAll clauses (map negation literals) hints now
      → bytes ≡ flat_map seven_bits hints ++ rest → BeginsClause clauses (counted literal_bytes literals ++ seven_bits announced ++ bytes) announced hints now rest
  begins-clause hints now rest followed is = record {
    literals = literals;
    readable = (subst IsShort (sym many) few, fit);
    is_clause = clause;
    few = short;
    followed = followed;
    begins = ap (λ (back : List ℕ). counted literal_bytes literals ++ seven_bits announced ++ back) is
        ∙ sym (append_assoc (counted literal_bytes literals ++ seven_bits announced) (flat_map seven_bits hints) rest);
  }

  begins-wrong : (refusal : HintRefusal) → HasWrongHint announced clauses (map negation literals) bytes refusal
      → BeginsWrongHint clauses (counted literal_bytes literals ++ seven_bits announced ++ bytes) refusal
  begins-wrong refusal has = record {
    announced = announced;
    hints = has.hints;
    now = has.now;
    hint = has.hint;
    rest = has.rest;
    clause = begins-clause has.hints has.now (seven_bits has.hint ++ has.rest) has.followed has.begins;
    within = has.within;
    short = has.short;
    wrong = has.wrong;
  }

  pub hints-wrong : (reason : Reason) → AreWrongHints announced clauses (map negation literals) bytes reason
      → IsWrongClause clauses (counted literal_bytes literals ++ seven_bits announced ++ bytes) reason
  hints-wrong Form lacks = inr (inr (record {
    announced = announced;
    hints = lacks.hints;
    now = lacks.now;
    rest = lacks.rest;
    clause = begins-clause lacks.hints lacks.now lacks.rest lacks.followed lacks.begins;
    missing = lacks.missing;
    none = lacks.none;
  }))
  hints-wrong BadRule lacks = absurd lacks
  hints-wrong HintNotUnit (inl none) = inl (record {
    now = map negation literals;
    rest = bytes;
    clause = subst (λ (n : ℕ). BeginsClause clauses (counted literal_bytes literals ++ seven_bits announced ++ bytes) n [] (map negation literals) bytes) none
        (begins-clause [] (map negation literals) bytes refl refl);
  })
  hints-wrong HintNotUnit (inr has) = inr (begins-wrong NotUnit has)
  hints-wrong HintUnknown has = begins-wrong Unknown has
  hints-wrong NoEmptyClause lacks = absurd lacks

-- a whole clause
pub follows-all : (clauses : Clauses) (literals : List Lit) (trues : List Lit) (hints : List ℕ) (now : List Lit) (last : ℕ) → trues ≡ map negation literals
    → FollowsAll clauses trues hints now → IsFalsified clauses now last → FollowsFrom clauses literals (hints ++ last ∷ [])
follows-all clauses literals trues hints now last is followed falsified =
    follows-from clauses (map negation literals) (map negation literals) hints now last (λ l. ((λ at. at), (λ at. at)))
    (subst (λ (ts : List Lit). FollowsAll clauses ts hints now) is followed) falsified

pub hints-bytes : (hints : List ℕ) (last count : ℕ) → length hints + 1 ≡ count → seven_bits count ++ (flat_map seven_bits hints ++ seven_bits last) ≡ counted seven_bits (hints ++ last ∷ [])
hints-bytes hints last count many =
    let long : count ≡ length (hints ++ last ∷ []) = sym many ∙ sym (length-append hints (last ∷ [])) in
    let back = sym (flat_map-push seven_bits hints last) in
    λ i. seven_bits (long i) ++ back i

-- the parts that were taken, together
pub literals-taken : (old mid next : Option (List ℕ)) (count : ℕ) (literals : List Lit) → Takes old mid (seven_bits count) → TakesLiterals mid next count literals
    → Takes old next (counted literal_bytes literals)
literals-taken old mid next count literals head takes =
    takes-as old next (seven_bits count ++ flat_map literal_bytes literals) (counted literal_bytes literals)
    (ap (λ (n : ℕ). seven_bits n ++ flat_map literal_bytes literals) (sym takes.count_of))
    (takes-then old mid next (seven_bits count) (flat_map literal_bytes literals) head takes.taken)

module _ (old a b c d : Option (List ℕ)) (count announced : ℕ) (clauses clauses1 clauses2 next : Clauses) (literals literals2 trues : List Lit) (empty : Bool)
    (head : Takes old a (seven_bits count)) (takes : TakesLiterals a b count literals) (kept1 : clauses1 ≡ clauses) (negated : trues ≡ map negation literals)
    (middle : Takes b c (seven_bits announced)) (hints : TakesHints c d announced clauses1 trues) (kept2 : clauses2 ≡ clauses1) (same : literals2 ≡ literals)
    (added : next ≡ clauses2 ++ Some literals2 ∷ []) (emptiness : IsTrue empty ↔ (literals2 ≡ [])) where
  front : Takes old c (counted literal_bytes literals ++ seven_bits announced)
  front = takes-then old b c (counted literal_bytes literals) (seven_bits announced) (literals-taken old a b count literals head takes) middle

  bytes : counted literal_bytes literals ++ seven_bits announced ++ (flat_map seven_bits hints.hints ++ seven_bits hints.last)
      ≡ counted literal_bytes literals ++ counted seven_bits (hints.hints ++ hints.last ∷ [])
  bytes =
      append_assoc (counted literal_bytes literals) (seven_bits announced) (flat_map seven_bits hints.hints ++ seven_bits hints.last)
      ∙ ap (λ (back : List ℕ). counted literal_bytes literals ++ back) (hints-bytes hints.hints hints.last announced hints.count_of)

  pub whole-clause : TakesClause old d clauses next empty
  whole-clause = record {
    literals = literals;
    hints = hints.hints ++ hints.last ∷ [];
    is_clause = takes.is_clause;
    follows = subst (λ (cs : Clauses). FollowsFrom cs literals (hints.hints ++ hints.last ∷ [])) kept1
        (follows-all clauses1 literals trues hints.hints hints.now hints.last negated hints.followed hints.falsified);
    added = added ∙ ap (λ (cs : Clauses). cs ++ Some literals2 ∷ []) (kept2 ∙ kept1) ∙ ap (λ (ls : List Lit). clauses ++ Some ls ∷ []) same;
    taken = takes-as old d (counted literal_bytes literals ++ seven_bits announced ++ (flat_map seven_bits hints.hints ++ seven_bits hints.last))
        (counted literal_bytes literals ++ counted seven_bits (hints.hints ++ hints.last ∷ [])) bytes
        (takes-then old c d (counted literal_bytes literals ++ seven_bits announced) (flat_map seven_bits hints.hints ++ seven_bits hints.last) front hints.taken);
    emptiness = ((λ yes. sym same ∙ emptiness.0 yes), (λ none. emptiness.1 (same ∙ none)));
  }

-- hints that are wrong after literals that were read
pub hints-wrong-behind : (clauses clauses1 : Clauses) (literals trues : List Lit) (count announced : ℕ) → IsShort count → IsShort announced → clauses1 ≡ clauses
    → trues ≡ map negation literals → length literals ≡ count → All IsLiteral literals → IsClause literals → (bytes : List ℕ) (reason : Reason)
    → AreWrongHints announced clauses1 trues bytes reason → IsWrongClause clauses (counted literal_bytes literals ++ seven_bits announced ++ bytes) reason
hints-wrong-behind clauses clauses1 literals trues count announced few short kept negated many fit clause bytes reason wrong =
    hints-wrong clauses literals count announced few short many fit clause bytes reason
    (subst (λ (ts : List Lit). AreWrongHints announced clauses ts bytes reason) negated
    (subst (λ (cs : Clauses). AreWrongHints announced cs trues bytes reason) kept wrong))

-- one more literal and its negation
pub negated-more : (literals trues all made : List Lit) (literal : Lit) → trues ≡ map negation literals → all ≡ literals ++ literal ∷ []
    → made ≡ trues ++ negation literal ∷ [] → made ≡ map negation all
negated-more literals trues all made literal negated more made_of =
    made_of ∙ ap (λ (front : List Lit). front ++ negation literal ∷ []) negated ∙ sym (map-append negation literals (literal ∷ [])) ∙ ap (map negation) (sym more)
