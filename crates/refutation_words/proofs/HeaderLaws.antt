-- The first line.
use Rattle.std.proofs.Common.{◌≡◌, ◌≢◌, ◌++◌, ◌<◌, ◌^◌, ◌∙◌, inr, ℕ, ap, sym, subst, arith, refl, List, [], ◌∷◌, Option, Some, None, Result, Ok, Err, append_assoc}
use Rattle.std.specs.Prelude.{codes, IfErr}
use Rattle.std.specs.Fmt.{decimal}
use Rattle.std.specs.Option.{IfSome}
use Rattle.std.proofs.lemmas.Fmt.{decimal_injective}
use Rattle.sources.specs.Leaving.{Takes}
use Rattle.refutation_lines.specs.LineText.{header_text}
use Rattle.refutation_items.specs.declared.refusal.Reason.{Reason}
use Rattle.refutation_items.specs.declared.refusal.Reason.TheVariants.{Form}
use Rattle.refutation_items.proofs.Refusing.{takes-as, takes-then}
use Rattle.refutation_words.specs.Parts.{Lacks, LacksHeader, LacksText, SpellsNumber}
use Rattle.refutation_words.specs.Words.{IsEnded, IsNumeral}
use Rattle.refutation_words.proofs.WordLaws.{cut, decimal-numeral, numeral-word, word-once}

abbrev pub beginning : List ℕ
beginning = codes "jmm-refutation 1"

parts : (steps : ℕ) (rest : List ℕ) → header_text steps ++ rest ≡ beginning ++ (32 ∷ (decimal steps ++ (10 ∷ rest)))
parts steps rest = ap (λ (back : List ℕ). beginning ++ (32 ∷ back)) (append_assoc (decimal steps) (10 ∷ []) rest)

pub no-beginning : (steps : ℕ) (bytes : List ℕ) (reason : Reason) → LacksText beginning bytes reason → LacksHeader steps bytes reason
no-beginning steps bytes reason lacks = ((λ rest same. lacks.0 (32 ∷ (decimal steps ++ (10 ∷ rest))) (same ∙ parts steps rest)), lacks.1)

pub no-steps : (steps : ℕ) → steps < 2 ^ 32 → (bytes : List ℕ) (reason : Reason) → Lacks IsNumeral bytes reason → LacksHeader steps (beginning ++ bytes) reason
no-steps steps few bytes reason lacks = (
  λ rest same.
      lacks.0 (decimal steps) (10 ∷ rest) (decimal-numeral steps (omega (arith, few))) (inr refl)
      (cut beginning bytes (32 ∷ (decimal steps ++ (10 ∷ rest))) (same ∙ parts steps rest)),
  lacks.1,
)

module _ (steps : ℕ) (few : steps < 2 ^ 32) (word : List ℕ) (numeral : IsNumeral word) where
  behind : (bytes rest : List ℕ) → IsEnded bytes → beginning ++ (32 ∷ (word ++ bytes)) ≡ header_text steps ++ rest → (word ≡ decimal steps) × (bytes ≡ 10 ∷ rest)
  behind bytes rest ended same =
      word-once word (decimal steps) bytes (10 ∷ rest) (numeral-word word numeral) (numeral-word (decimal steps) (decimal-numeral steps (omega (arith, few)))) ended (inr refl)
      (cut beginning (32 ∷ (word ++ bytes)) (32 ∷ (decimal steps ++ (10 ∷ rest))) (same ∙ parts steps rest))

  -- another number of steps
  pub other-number : (a b c : Option (List ℕ)) → Takes a b beginning → Takes b c (32 ∷ word) → IfSome c IsEnded → (word ≡ decimal steps → ⊥)
      → IfSome a (λ bytes. LacksHeader steps bytes Form)
  other-number a b c first second ended differs =
      by c (takes-then a b c beginning (32 ∷ word) first second) ended
    where
      by : (left : Option (List ℕ)) → Takes a left (beginning ++ (32 ∷ word)) → IfSome left IsEnded → IfSome a (λ bytes. LacksHeader steps bytes Form)
      by None takes ends = subst (λ (o : Option (List ℕ)). IfSome o (λ bytes. LacksHeader steps bytes Form)) (sym takes) tt
      by (Some bytes) takes ends =
          subst (λ (o : Option (List ℕ)). IfSome o (λ whole. LacksHeader steps whole Form)) (sym takes)
          ((λ rest same. differs (behind bytes rest ends same).0), refl)

  -- no line feed behind the number
  pub no-feed : (bytes : List ℕ) (reason : Reason) → word ≡ decimal steps → LacksText (10 ∷ []) bytes reason → LacksHeader steps (beginning ++ (32 ∷ word) ++ bytes) reason
  no-feed bytes reason is lacks = (
    λ rest same.
        let back : bytes ≡ 10 ∷ rest = cut (32 ∷ decimal steps) bytes (10 ∷ rest) (cut beginning (32 ∷ (decimal steps ++ bytes)) (32 ∷ (decimal steps ++ (10 ∷ rest)))
        (ap (λ (w : List ℕ). beginning ++ (32 ∷ (w ++ bytes))) (sym is) ∙ same ∙ parts steps rest)) in
        lacks.0 rest back,
    lacks.1,
  )

-- the whole line was taken
pub whole-header : (a b c d : Option (List ℕ)) (steps : ℕ) (word : List ℕ) → Takes a b beginning → Takes b c (32 ∷ word) → Takes c d (10 ∷ []) → word ≡ decimal steps
    → Takes a d (header_text steps)
whole-header a b c d steps word first second third is =
    takes-as a d (beginning ++ (32 ∷ word) ++ (10 ∷ [])) (header_text steps) (ap (λ (w : List ℕ). beginning ++ (32 ∷ w) ++ (10 ∷ [])) is)
    (takes-then a c d (beginning ++ (32 ∷ word)) (10 ∷ []) (takes-then a b c beginning (32 ∷ word) first second) third)

-- a word that spells another number, or none
pub not-steps : (word : List ℕ) (number : Option ℕ) (steps : ℕ) → steps < 2 ^ 32 → SpellsNumber word number → ¬ (number ≡ Some steps) → word ≢ decimal steps
not-steps word None steps few spelled differs same = spelled steps (omega (arith, few)) same
not-steps word (Some number) steps few spelled differs same =
    differs (ap Some (decimal_injective number steps spelled.0 (omega (arith, few)) (sym spelled.1 ∙ same)))

pub is-steps : (word : List ℕ) (number : Option ℕ) (steps : ℕ) → SpellsNumber word number → number ≡ Some steps → word ≡ decimal steps
is-steps word number steps spelled is = (subst (SpellsNumber word) is spelled).1

pub map-err : {T E : Type 0} (P Q : E → Type 0) (result : Result T E) → ((e : E) → P e → Q e) → IfErr result P → IfErr result Q
map-err P Q (Ok x) means is = tt
map-err P Q (Err e) means is = means e is
