-- Words that are taken, and words that are not there.
use Rattle.std.proofs.Common.{◌≡◌, ◌≢◌, ◌++◌, ◌+◌, ◌<◌, ◌^◌, ◌∙◌, ℕ, Bool, false, ap, sym, subst, arith, refl, length, nat_eq, take, drop, List, [], ◌∷◌, Option, Some, None}
use Rattle.std.specs.Prelude.{MatchOption}
use Rattle.std.specs.List.{starts_with}
use Rattle.std.proofs.lemmas.Bool.Decides.{Decides-eqb}
use Rattle.std.proofs.lemmas.Slice.Eq.{starts_is}
use Rattle.std.specs.Fmt.{decimal}
use Rattle.std.specs.Option.{IfSome}
use Rattle.std.proofs.lemmas.Fmt.{decimal_injective}
use Rattle.sources.specs.Leaving.{Takes}
use Rattle.line_text.proofs.DigitLaws.{decimal-digits, Digits}
use Rattle.token_reader.specs.declared.bytes.ReadRefusal.{ReadRefusal}
use Rattle.token_reader.specs.AtHand.{HasFront}
use Rattle.var_names.specs.declared.args.Arg.{Arg}
use Rattle.var_names.specs.declared.args.Arg.TheVariants.{Number, D}
use Rattle.var_names.specs.LiteralText.{argument_text}
use Rattle.var_names.specs.Readable.{IsArgument}
use Rattle.refutation_items.specs.declared.refusal.LineRefusal.{LineRefusal}
use Rattle.refutation_items.specs.declared.refusal.Reason.TheVariants.{Form}
use Rattle.refutation_items.specs.Refusals.{IsRefusedFor}
use Rattle.refutation_items.proofs.Refusing.{refused-first}
use Rattle.refutation_words.specs.Fronts.{BeginsLineEnd, IsAtHand, Stands}
use Rattle.refutation_words.specs.Parts.{BeginsWord, HasNoGap, IsFurther, Lacks, LacksText, SpellsNumber, TakesWord}
use Rattle.refutation_words.specs.Words.{IsEnded, IsWord}
use Rattle.refutation_words.proofs.WordLaws.{cut, word-once}
use Rattle.refutation_words.proofs.FrontLaws.{at-hand, line-end-left, no-word-next-left, word-next-left}

some-one : {A : Type 0} (x y : A) → Some x ≡ Some y → x ≡ y
some-one x y same = cc (same)

-- behind a word that stands there what is left is ended
ended-behind : (old new : Option (List ℕ)) (word : List ℕ) → Takes old new (32 ∷ word) → IfSome old (Stands word) → IfSome new IsEnded
ended-behind None None word takes stands = tt
ended-behind None (Some rest) word takes stands = absurd (cc (takes))
ended-behind (Some bytes) None word takes stands = tt
ended-behind (Some bytes) (Some rest) word takes stands =
    let same : 32 ∷ (word ++ stands.rest) ≡ 32 ∷ (word ++ rest) = sym stands.begins ∙ some-one bytes (32 ∷ (word ++ rest)) takes in
    subst IsEnded (cut (32 ∷ word) stands.rest rest same) stands.ended

-- the word at hand is taken
pub takes-word : (IsKind : List ℕ → Type 0) (front : List ℕ) (old mid new : Option (List ℕ)) (len : ℕ) → IsAtHand front mid len → mid ≡ old
    → IsKind (take len (drop 1 front)) → Takes mid new (take (len + 1) front) → TakesWord IsKind old new (take len (drop 1 front))
takes-word IsKind front old mid new len at_hand same is takes = record {
  is = is;
  taken = subst (λ (left : Option (List ℕ)). Takes left new (32 ∷ take len (drop 1 front))) same takes_word;
  ended = ended-behind mid new (take len (drop 1 front)) takes_word at_hand.stands;
}
  where
    takes_word : Takes mid new (32 ∷ take len (drop 1 front))
    takes_word = subst (λ (text : List ℕ). Takes mid new text) at_hand.front_of takes

-- there is a word, and it is of another kind
pub other-word : (IsKind : List ℕ → Type 0) → ((word : List ℕ) → IsKind word → IsWord word) → (front : List ℕ) (old mid : Option (List ℕ)) (len : ℕ)
    → IsAtHand front mid len → mid ≡ old → ¬ (IsKind (take len (drop 1 front))) → IfSome old (λ bytes. Lacks IsKind bytes Form)
other-word IsKind kind front old mid len at_hand same not_kind = subst (λ (left : Option (List ℕ)). IfSome left (λ bytes. Lacks IsKind bytes Form)) same (by mid at_hand.stands)
  where
    by : (left : Option (List ℕ)) → IfSome left (Stands (take len (drop 1 front))) → IfSome left (λ bytes. Lacks IsKind bytes Form)
    by None stands = tt
    by (Some bytes) stands = (
      λ word rest is ended begins.
          let both = word-once (take len (drop 1 front)) word stands.rest rest at_hand.word (kind word is) stands.ended ended (sym stands.begins ∙ begins) in
          not_kind (subst IsKind (sym both.0) is),
      refl,
    )

-- there is no word, and so none of a kind
pub no-word : (IsKind : List ℕ → Type 0) → ((word : List ℕ) → IsKind word → IsWord word) → (causes : ReadRefusal → Type 0) (left : Option (List ℕ)) (refusal : LineRefusal)
    → IsRefusedFor causes left (Lacks IsWord) refusal → IsRefusedFor causes left (Lacks IsKind) refusal
no-word IsKind kind causes left refusal refused =
    refused-first causes causes left (Lacks IsWord) (Lacks IsKind) refusal (λ read cause. cause)
    (λ bytes reason lacks. ((λ word rest is ended begins. lacks.0 word rest (kind word is) ended begins), lacks.1)) refused

-- a number of 2 ^ 32 or more is no argument
pub large-argument : (text : List ℕ) (n : ℕ) → n < 2 ^ 64 → text ≡ decimal n → (n < 2 ^ 32 → ⊥)
    → (argument : Arg) → IsArgument argument → text ≢ argument_text argument
large-argument text n few is large (Number m) fits same =
    large (omega (arith, fits, decimal_injective m n (omega (arith, fits)) few (sym same ∙ is)))
large-argument text n few is large D fits same =
    let digits : Digits (100 ∷ []) = subst Digits (sym is ∙ same) (decimal-digits n few) in
    omega (arith, digits.0.1)

-- what follows a word
pub gap-word : (front : List ℕ) (left : Option (List ℕ)) → HasFront 2 front left → BeginsWord front → IfSome left BeginsWord
gap-word front None has next = tt
gap-word front (Some bytes) has next = word-next-left front bytes has next

pub no-gap : (front : List ℕ) (left : Option (List ℕ)) → HasFront 2 front left → ¬ (BeginsLineEnd front) → ¬ (BeginsWord front) → IfSome left HasNoGap
no-gap front None has no_end no_next = tt
no-gap front (Some bytes) has no_end no_next = record {
  no_line_end = line-end-left front bytes has no_end;
  no_word = no-word-next-left front bytes has no_next;
}

pub with-further : (old left : Option (List ℕ)) (further : Bool) → left ≡ old → IfSome left HasNoGap → IfSome left (IsFurther further)
    → IfSome old (λ bytes. HasNoGap bytes × IsFurther further bytes)
with-further old left further same none is = subst (λ (told : Option (List ℕ)). IfSome told (λ bytes. HasNoGap bytes × IsFurther further bytes)) same (by left none is)
  where
    by : (told : Option (List ℕ)) → IfSome told HasNoGap → IfSome told (IsFurther further) → IfSome told (λ bytes. HasNoGap bytes × IsFurther further bytes)
    by None none is = tt
    by (Some bytes) none is = (none, is)

-- a text that is not at hand
pub not-text : (front text : List ℕ) (found : Bool) → found ≡ starts_with nat_eq front text → found ≡ false → (rest : List ℕ) → front ≢ text ++ rest
not-text front text found is none rest begins = cc (none, (starts_is Decides-eqb front text found is).1 rest begins)

pub text-missing : (text front : List ℕ) (old mid : Option (List ℕ)) → mid ≡ old → HasFront (length text) front mid → ((rest : List ℕ) → front ≢ text ++ rest)
    → IfSome old (λ bytes. LacksText text bytes Form)
text-missing text front old mid same has none = subst (λ (left : Option (List ℕ)). IfSome left (λ bytes. LacksText text bytes Form)) same (by mid has)
  where
    by : (left : Option (List ℕ)) → HasFront (length text) front left → IfSome left (λ bytes. LacksText text bytes Form)
    by None is = tt
    by (Some bytes) is = (
      λ rest begins.
          let found = at-hand (length text) front bytes text rest is (omega arith) begins in
          none found.0 found.1.0,
      refl,
    )

-- what holds of the word that was looked at holds of the word at hand
pub of-word : (P : List ℕ → Type 0) (word peeked front : List ℕ) (len : ℕ) → word ≡ take len (drop 1 peeked) → peeked ≡ front → P word → P (take len (drop 1 front))
of-word P word peeked front len is same holds = subst P (is ∙ ap (λ (text : List ℕ). take len (drop 1 text)) same) holds

pub spells-number : (word : List ℕ) (number : Option ℕ)
    → MatchOption number ((n : ℕ) → n < 2 ^ 64 → word ≢ decimal n) (λ n. (n < 2 ^ 64) × (word ≡ decimal n)) → SpellsNumber word number
spells-number word None none = none
spells-number word (Some number) is = is
