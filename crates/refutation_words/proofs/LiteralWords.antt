-- Literals are words.
use Rattle.std.proofs.Common.{◌≡◌, ◌++◌, ◌*◌, ◌≤◌, ℕ, Bool, true, false, sym, subst, arith, refl, length, length-append, nat_eq, eq-eqb, if◌then◌else◌, List, [], ◌∷◌}
use Rattle.std.specs.Prelude.{All, codes}
use Rattle.std.specs.Fmt.{decimal}
use Rattle.std.specs.List.{flat_map}
use Rattle.std.proofs.lemmas.Fmt.{length-decimal-le}
use Rattle.std.proofs.lemmas.List.Elements.{All-append}
use Rattle.var_names.specs.declared.args.Arg.{Arg}
use Rattle.var_names.specs.declared.args.Arg.TheVariants.{Number, D}
use Rattle.var_names.specs.declared.family.Family.{Family}
use Rattle.var_names.specs.declared.family.Family.TheVariants.{On, Go, Sl, Re, Ca, Pr, Se, So, Hb, Vi, Id, Co, Hx, Ph, Sx, Ps, Wx, Pw, Pb, No, Pa, Cn, Ss, Bt, Ne, Ox, Ob}
use Rattle.var_names.specs.declared.var.Lit.{Lit}
use Rattle.var_names.specs.LiteralText.{argument_text, dotted, family_name, literal_text, sign_text}
use Rattle.var_names.specs.Readable.{AreArguments, IsArgument, IsLiteral}
use Rattle.var_names.proofs.LiteralLaws.{few}
use Rattle.refutation_words.specs.declared.parts.ClauseWord.{ClauseWord}
use Rattle.refutation_words.specs.declared.parts.ClauseWord.TheVariants.{Literal, Colon}
use Rattle.refutation_words.specs.Parts.{clause_word_text, FitsClause, IsClauseWord}
use Rattle.refutation_words.specs.Words.{IsWord, IsWordByte}
use Rattle.refutation_words.proofs.WordLaws.{all-cons, all-tail, decimal-numeral, numeral-word}

abbrev pub free_test : List ℕ → Bool
free_test [] = true
free_test (byte ∷ word) = if nat_eq byte 32 then false else (if nat_eq byte 10 then false else free_test word)

free : (word : List ℕ) → free_test word ≡ true → All IsWordByte word
free [] test = λ k d within. absurd (omega (arith, within))
free (byte ∷ word) test = by (nat_eq byte 32) (nat_eq byte 10) refl refl test (free word)
  where
    by : (a b : Bool) → nat_eq byte 32 ≡ a → nat_eq byte 10 ≡ b → (if a then false else (if b then false else free_test word)) ≡ true
        → (free_test word ≡ true → All IsWordByte word) → All IsWordByte (byte ∷ word)
    by true b is_a is_b passed again = absurd (cc)
    by false true is_a is_b passed again = absurd (cc)
    by false false is_a is_b passed again =
        all-cons IsWordByte byte word ((λ same. cc (is_a, eq-eqb byte 32 same)), (λ same. cc (is_b, eq-eqb byte 10 same))) (again passed)

name-word : (family : Family) → (free_test (family_name family) ≡ true) × (length (family_name family) ≡ 2)
name-word On = (refl, refl)
name-word Go = (refl, refl)
name-word Sl = (refl, refl)
name-word Re = (refl, refl)
name-word Ca = (refl, refl)
name-word Pr = (refl, refl)
name-word Se = (refl, refl)
name-word So = (refl, refl)
name-word Hb = (refl, refl)
name-word Vi = (refl, refl)
name-word Id = (refl, refl)
name-word Co = (refl, refl)
name-word Hx = (refl, refl)
name-word Ph = (refl, refl)
name-word Sx = (refl, refl)
name-word Ps = (refl, refl)
name-word Wx = (refl, refl)
name-word Pw = (refl, refl)
name-word Pb = (refl, refl)
name-word No = (refl, refl)
name-word Pa = (refl, refl)
name-word Cn = (refl, refl)
name-word Ss = (refl, refl)
name-word Bt = (refl, refl)
name-word Ne = (refl, refl)
name-word Ox = (refl, refl)
name-word Ob = (refl, refl)

argument-free : (argument : Arg) → IsArgument argument → All IsWordByte (argument_text argument)
argument-free (Number n) fits = (numeral-word (decimal n) (decimal-numeral n (omega (arith, fits)))).bytes
argument-free D fits = free (codes "d") refl

argument-short : (argument : Arg) → IsArgument argument → length (argument_text argument) ≤ 10
argument-short (Number n) fits = length-decimal-le 10 n (omega arith) (omega (arith, fits)) (omega (arith, fits))
argument-short D fits = omega arith

arguments-free : (arguments : List Arg) → AreArguments arguments → All IsWordByte (flat_map dotted arguments)
arguments-free [] fit = λ k d within. absurd (omega (arith, within))
arguments-free (argument ∷ arguments) fit =
    All-append IsWordByte (dotted argument) (flat_map dotted arguments)
    (all-cons IsWordByte 46 (argument_text argument) ((λ same. omega (arith, same)), (λ same. omega (arith, same))) (argument-free argument fit.0))
    (arguments-free arguments fit.1)

arguments-short : (arguments : List Arg) → AreArguments arguments → length (flat_map dotted arguments) ≤ 11 * length arguments
arguments-short [] fit = omega arith
arguments-short (argument ∷ arguments) fit =
    let first = argument-short argument fit.0 in
    let others = arguments-short arguments fit.1 in
    let long = length-append (dotted argument) (flat_map dotted arguments) in
    omega (arith, first, others, long)

sign-free : (positive : Bool) → IsWordByte (sign_text positive)
sign-free true = ((λ same. omega (arith, same)), (λ same. omega (arith, same)))
sign-free false = ((λ same. omega (arith, same)), (λ same. omega (arith, same)))

literal-word : (literal : Lit) → IsLiteral literal → IsWord (literal_text literal)
literal-word literal fits =
    let name = name-word literal.var.family in
    let arguments = arguments-short literal.var.args fits.arguments in
    let long = length-append (family_name literal.var.family) (flat_map dotted literal.var.args) in
    record {
      some = omega arith;
      few = omega (arith, name.1, arguments, long, few literal fits);
      bytes = all-cons IsWordByte (sign_text literal.positive) (family_name literal.var.family ++ flat_map dotted literal.var.args) (sign-free literal.positive)
          (All-append IsWordByte (family_name literal.var.family) (flat_map dotted literal.var.args) (free (family_name literal.var.family) name.0)
          (arguments-free literal.var.args fits.arguments));
    }

-- words of clauses are words
pub kind-word : (kind : ClauseWord) → FitsClause kind → IsWord (clause_word_text kind)
kind-word (Literal literal) fits = literal-word literal fits
kind-word Colon fits = record { some = omega arith; few = omega arith; bytes = free (codes ":") refl }

pub clause-word : (word : List ℕ) → IsClauseWord word → IsWord word
clause-word word is = subst IsWord (sym is.1.text) (kind-word is.0 is.1.fits)

pub are-arguments : (arguments : List Arg) → All IsArgument arguments → AreArguments arguments
are-arguments [] all = tt
are-arguments (argument ∷ arguments) all = (all 0 argument (omega arith), are-arguments arguments (all-tail IsArgument argument arguments all))
