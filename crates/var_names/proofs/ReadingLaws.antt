-- Words between points, and the texts of arguments.
use Rattle.std.proofs.Common.{if◌then◌else◌, eq-eqb, Bool, true, false, nat_eq, ◌≡◌, ◌≢◌, ◌++◌, ◌<◌, ◌^◌, ◌∙◌, ℕ, ap, sym, subst, arith, refl, length, List, [], ◌∷◌, Option, Some, None, append_assoc}
use Rattle.std.specs.Prelude.{MatchOption}
use Rattle.std.specs.Fmt.{decimal}
use Rattle.std.specs.List.{flat_map}
use Rattle.std.proofs.lemmas.List.{length-append}
use Rattle.std.proofs.lemmas.Fmt.{decimal_injective}
use Rattle.line_text.proofs.DigitLaws.{decimal-digits, Digits}
use Rattle.var_names.specs.declared.args.Arg.{Arg}
use Rattle.var_names.specs.declared.args.Arg.TheVariants.{Number, D}
use Rattle.var_names.specs.LiteralText.{argument_text, dotted}
use Rattle.var_names.specs.Readable.{AreArguments, HasNoArgument, HasNoArguments, IsArgument, IsDotFree, IsDotted, ReadsArgument, ReadsArguments}

-- one more byte of a word
pub dot_free-more : (word : List ℕ) (byte : ℕ) → IsDotFree word → byte ≢ 46 → IsDotFree (word ++ byte ∷ [])
dot_free-more [] byte free other = (other, tt)
dot_free-more (first ∷ word) byte free other = (free.0, dot_free-more word byte free.1 other)

-- a word ends at one place only
pub same-word : (x y x' y' : List ℕ) → IsDotFree x → IsDotFree x' → IsDotted y → IsDotted y' → x ++ y ≡ x' ++ y' → (x ≡ x') × (y ≡ y')
same-word [] y [] y' free free' ends ends' same = (refl, same)
same-word [] [] (b ∷ x') y' free free' ends ends' same = absurd (cc)
same-word [] (a ∷ y) (b ∷ x') y' free free' ends ends' same = let is : a ≡ b = cc in absurd (free'.0 (sym is ∙ ends))
same-word (a ∷ x) y [] [] free free' ends ends' same = absurd (cc)
same-word (a ∷ x) y [] (b ∷ y') free free' ends ends' same = let is : a ≡ b = cc in absurd (free.0 (is ∙ ends'))
same-word (a ∷ x) y (b ∷ x') y' free free' ends ends' same =
    let head : a ≡ b = cc in
    let rest : x ++ y ≡ x' ++ y' = cc in
    let found = same-word x y x' y' free.1 free'.1 ends ends' rest in
    ((λ i. head i ∷ found.0 i), found.1)

digits-free : (ds : List ℕ) → Digits ds → IsDotFree ds
digits-free [] digits = tt
digits-free (d ∷ ds) digits = ((λ is. omega (arith, digits.0.0, is)), digits-free ds digits.1)

pub argument-free : (argument : Arg) → IsArgument argument → IsDotFree (argument_text argument)
argument-free (Number n) few = digits-free (decimal n) (decimal-digits n (omega (arith, few)))
argument-free D few = ((λ is. omega (arith, is)), tt)

pub arguments-dotted : (arguments : List Arg) → IsDotted (flat_map dotted arguments)
arguments-dotted [] = tt
arguments-dotted (argument ∷ arguments) = refl

-- a word that is no argument's
pub no-argument : (rest word after : List ℕ) → IsDotFree word → IsDotted after → rest ≡ word ++ after
    → ((argument : Arg) → IsArgument argument → word ≢ argument_text argument) → HasNoArgument (46 ∷ rest)
no-argument rest word after free ends is none = λ argument others fits dotted_others same.
    let behind : rest ≡ argument_text argument ++ others = cc in
    none argument fits
    (same-word word after (argument_text argument) others free (argument-free argument fits) ends dotted_others (sym is ∙ behind)).0

-- no argument, and so no arguments
pub no-arguments : (text : List ℕ) (before : List Arg) → 0 < length text → HasNoArgument text → HasNoArguments text before
no-arguments text before some none [] fit few same = omega (arith, some, ap length same)
no-arguments text before some none (argument ∷ more) fit few same =
    none argument (flat_map dotted more) fit.0 (arguments-dotted more) same

-- one argument, and then the others
pub arguments-then : (text rest : List ℕ) (before : List Arg) (argument : Arg) (result : Option (List Arg))
    → 0 < length text → ReadsArgument text argument rest
    → MatchOption result (HasNoArguments rest (before ++ argument ∷ [])) (ReadsArguments rest (before ++ argument ∷ []))
    → MatchOption result (HasNoArguments text before) (ReadsArguments text before)
arguments-then text rest before argument (Some all) some read found = record {
  more = argument ∷ found.more;
  all_of = found.all_of ∙ append_assoc before (argument ∷ []) found.more;
  text_of = read.text_of ∙ ap (λ (back : List ℕ). dotted argument ++ back) found.text_of;
  fit = (read.fits, found.fit);
}
arguments-then text rest before argument None some read found = none
  where
    none : HasNoArguments text before
    none [] fit few same = omega (arith, some, ap length same)
    none (first ∷ more) fit few same =
        let both : argument_text argument ++ rest ≡ argument_text first ++ flat_map dotted more = cc (read.text_of) in
        let words = same-word (argument_text argument) rest (argument_text first) (flat_map dotted more)
        (argument-free argument read.fits) (argument-free first fit.0) read.ends (arguments-dotted more) both in
        found more fit.1 (omega (arith, few, length-append before (argument ∷ []))) words.1

-- a text that is not empty has a byte
pub filled : (text : List ℕ) (empty : Bool) → empty ≡ nat_eq (length text) 0 → empty ≡ false → 0 < length text
filled [] empty is not_empty = absurd (cc)
filled (byte ∷ text) empty is not_empty = omega arith

-- a number of 2 ^ 32 or more is no argument
pub large-argument : (text : List ℕ) (n : ℕ) → n < 2 ^ 64 → text ≡ decimal n → (n < 2 ^ 32 → ⊥)
    → (argument : Arg) → IsArgument argument → text ≢ argument_text argument
large-argument text n few is large (Number m) fits same =
    large (omega (arith, fits, decimal_injective m n (omega (arith, fits)) few (sym same ∙ is)))
large-argument text n few is large D fits same =
    let digits : Digits (100 ∷ []) = subst Digits (sym is ∙ same) (decimal-digits n few) in
    omega (arith, digits.0.1)

-- whether a word has no point, as it computes
abbrev pub free_test : List ℕ → Bool
free_test [] = true
free_test (byte ∷ word) = if nat_eq byte 46 then false else free_test word

pub dot_free-test : (word : List ℕ) → free_test word ≡ true → IsDotFree word
dot_free-test [] test = tt
dot_free-test (byte ∷ word) test = by (nat_eq byte 46) refl test (dot_free-test word)
  where
    by : (b : Bool) → nat_eq byte 46 ≡ b → (if b then false else free_test word) ≡ true → (free_test word ≡ true → IsDotFree word) → IsDotFree (byte ∷ word)
    by true is passed again = absurd (cc)
    by false is passed again = ((λ same. cc (is, eq-eqb byte 46 same)), again passed)

-- no number is spelled d
letter : (n : ℕ) → n < 2 ^ 32 → decimal n ≡ 100 ∷ [] → ⊥
letter n few same =
    let digits : Digits (100 ∷ []) = subst Digits same (decimal-digits n (omega (arith, few))) in
    omega (arith, digits.0.1)

-- a text is that of one argument only, and of one list of arguments
argument-one : (a b : Arg) → IsArgument a → IsArgument b → argument_text a ≡ argument_text b → a ≡ b
argument-one (Number m) (Number n) few_m few_n same = ap Number (decimal_injective m n (omega (arith, few_m)) (omega (arith, few_n)) same)
argument-one (Number m) D few_m few_n same = absurd (letter m few_m same)
argument-one D (Number n) few_m few_n same = absurd (letter n few_n (sym same))
argument-one D D few_m few_n same = refl

pub arguments-one : (xs ys : List Arg) → AreArguments xs → AreArguments ys → flat_map dotted xs ≡ flat_map dotted ys → xs ≡ ys
arguments-one [] [] fit_x fit_y same = refl
arguments-one [] (y ∷ ys) fit_x fit_y same = absurd (cc)
arguments-one (x ∷ xs) [] fit_x fit_y same = absurd (cc)
arguments-one (x ∷ xs) (y ∷ ys) fit_x fit_y same =
    let both : argument_text x ++ flat_map dotted xs ≡ argument_text y ++ flat_map dotted ys = cc in
    let words = same-word (argument_text x) (flat_map dotted xs) (argument_text y) (flat_map dotted ys)
    (argument-free x fit_x.0) (argument-free y fit_y.0) (arguments-dotted xs) (arguments-dotted ys) both in
    let head = argument-one x y fit_x.0 fit_y.0 words.0 in
    let rest = arguments-one xs ys fit_x.1 fit_y.1 words.1 in
    λ i. head i ∷ rest i
