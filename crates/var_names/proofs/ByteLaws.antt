-- Arguments and literals in bytes.
use Rattle.std.proofs.Common.{zero, suc, ◌≡◌, ◌≢◌, ◌++◌, ◌+◌, ◌-◌, ◌*◌, ◌/◌, ◌%◌, ◌^◌, ◌<◌, ◌≤◌, ◌∙◌, ℕ, Bool, true, false, ap, sym, subst, arith, refl, length, get_or, nat_eq, eq-eqb, map, take, drop, List, [], ◌∷◌, append_assoc, add-one}
use Rattle.std.specs.Prelude.{IsTrue}
use Rattle.std.specs.List.{flat_map, range_with_len}
use Rattle.std.proofs.lemmas.Bool.{eqb-true}
use Rattle.std.proofs.lemmas.List.{take-append-drop, length-drop}
use Rattle.std.proofs.lemmas.List.FromFn.{get_or-range_with_len}
use Rattle.std.proofs.Math.Seq.{take-add}
use Rattle.texts.specs.SevenBits.{HasNoNumber, ReadsNumber, seven_bits}
use Rattle.texts.proofs.NumberLaws.{behind-number}
use Rattle.var_names.specs.declared.args.Arg.{Arg}
use Rattle.var_names.specs.declared.args.Arg.TheVariants.{Number, D}
use Rattle.var_names.specs.declared.family.Family.{Family}
use Rattle.var_names.specs.declared.family.TheConstants.{FAMILIES}
use Rattle.var_names.specs.declared.var.Lit.{Lit}
use Rattle.var_names.specs.Families.{arity}
use Rattle.var_names.specs.LiteralText.{argument_bytes, argument_number, family_number, literal_bytes, sign_number}
use Rattle.var_names.specs.Readable.{AreArguments, HasNoLiteral, HasNotSoMany, IsArgument, IsLiteral, ReadsLiteral, ReadsMore}
use Rattle.var_names.specs.Variables.{is_variable}
use Rattle.var_names.proofs.FamilyLaws.{same-number}
use Rattle.var_names.proofs.LiteralLaws.{many}

positive : (k : ℕ) → (k ≡ 0 → ⊥) → 0 < k
positive k some = omega arith

number-few : (argument : Arg) → IsArgument argument → argument_number argument < 128 ^ 10
number-few (Number n) fits = omega (arith, fits)
number-few D fits = omega arith

number-short : (argument : Arg) → IsArgument argument → argument_number argument < 2 ^ 65
number-short (Number n) fits = omega (arith, fits)
number-short D fits = omega arith

same-argument : (a b : Arg) → argument_number a ≡ argument_number b → a ≡ b
same-argument (Number m) (Number n) same = ap Number (omega (arith, same))
same-argument (Number m) D same = absurd (omega (arith, same))
same-argument D (Number n) same = absurd (omega (arith, same))
same-argument D D same = refl

pub no-number : (bytes : List ℕ) (count : ℕ) → (count ≡ 0 → ⊥) → HasNoNumber (2 ^ 65) bytes → HasNotSoMany bytes count
no-number bytes count some none [] rest long fit same = some (sym long)
no-number bytes count some none (argument ∷ more) rest long fit same =
    none (argument_number argument) (flat_map argument_bytes more ++ rest) (number-short argument fit.0)
    (same ∙ append_assoc (argument_bytes argument) (flat_map argument_bytes more) rest)

module _ (bytes : List ℕ) (number len : ℕ) (read : ReadsNumber (2 ^ 65) bytes number len) where
  whole : bytes ≡ seven_bits number ++ drop len bytes
  whole = sym (take-append-drop len bytes) ∙ ap (λ (front : List ℕ). front ++ drop len bytes) read.bytes_of

  few : number < 128 ^ 10
  few = omega (arith, read.few)

  parts : (argument : Arg) (more : List Arg) (rest : List ℕ) → IsArgument argument → bytes ≡ flat_map argument_bytes (argument ∷ more) ++ rest
      → (number ≡ argument_number argument) × (drop len bytes ≡ flat_map argument_bytes more ++ rest)
  parts argument more rest fits same =
      behind-number 9 number (argument_number argument) (drop len bytes) (flat_map argument_bytes more ++ rest) few (number-few argument fits)
      (sym whole ∙ same ∙ append_assoc (argument_bytes argument) (flat_map argument_bytes more) rest)

  pub no-argument : (count : ℕ) → (count ≡ 0 → ⊥) → ((argument : Arg) → IsArgument argument → number ≢ argument_number argument) → HasNotSoMany bytes count
  no-argument count some none [] rest long fit same = some (sym long)
  no-argument count some none (argument ∷ more) rest long fit same = none argument fit.0 (parts argument more rest fit.0 same).0

  pub no-more : (count : ℕ) → (count ≡ 0 → ⊥) → HasNotSoMany (drop len bytes) (count - 1) → HasNotSoMany bytes count
  no-more count some none [] rest long fit same = some (sym long)
  no-more count some none (argument ∷ more) rest long fit same =
      none more rest (omega (arith, long)) fit.1 (parts argument more rest fit.0 same).1

  pub read-more : (count : ℕ) (before all : List Arg) (argument : Arg) (more_len : ℕ) → (count ≡ 0 → ⊥) → IsArgument argument → number ≡ argument_number argument
      → ReadsMore (drop len bytes) (count - 1) (before ++ argument ∷ []) all more_len → ReadsMore bytes count before all (len + more_len)
  read-more count before all argument more_len some fits is found = record {
    more = argument ∷ found.more;
    count_of = counts;
    all_of = found.all_of ∙ append_assoc before (argument ∷ []) found.more;
    read = record {
      within = omega (arith, read.within, found.read.within, length-drop len bytes);
      bytes_of = take-add len more_len bytes
          ∙ ap (λ (front : List ℕ). front ++ take more_len (drop len bytes)) (read.bytes_of ∙ ap seven_bits is)
          ∙ ap (λ (back : List ℕ). argument_bytes argument ++ back) found.read.bytes_of;
      fit = (fits, found.read.fit);
    };
  }
    where
      counts : suc (length found.more) ≡ count
      counts = let c = found.count_of in omega (arith, c, positive count some)

-- the families by number
get-map : (f : Family → ℕ) (xs : List Family) (k : ℕ) (d : Family) → get_or (map f xs) k (f d) ≡ f (get_or xs k d)
get-map f [] k d = refl
get-map f (x ∷ xs) zero d = refl
get-map f (x ∷ xs) (suc k) d = get-map f xs k d

in-order : map family_number FAMILIES ≡ range_with_len 1 27
in-order = refl

number-at : (k : ℕ) (d : Family) → k < 27 → family_number (get_or FAMILIES k d) ≡ 1 + k
number-at k d within =
    sym (get-map family_number FAMILIES k d)
    ∙ ap (λ (ns : List ℕ). get_or ns k (family_number d)) in-order
    ∙ get_or-range_with_len 1 27 k (family_number d) within

pub first-byte : (byte place : ℕ) (family : Family) → place < 27 → family ≡ get_or FAMILIES place family → place + 1 ≡ byte / 2
    → byte ≡ 2 * family_number family + sign_number (nat_eq (byte % 2) 1)
first-byte byte place family within is half = by (nat_eq (byte % 2) 1) refl
  where
    number : family_number family ≡ 1 + place
    number = ap family_number is ∙ number-at place family within

    by : (b : Bool) → nat_eq (byte % 2) 1 ≡ b → byte ≡ 2 * family_number family + sign_number b
    by true odd = let rest = eqb-true (byte % 2) 1 odd in omega (arith, half, rest, number)
    by false even =
        let rest : byte % 2 ≢ 1 = λ same. cc (even, eq-eqb (byte % 2) 1 same) in
        omega (arith, half, rest, number)

-- the bytes of so many arguments are those of one list only
same-arguments : (xs ys : List Arg) (x y : List ℕ) → length xs ≡ length ys → AreArguments xs → AreArguments ys
    → flat_map argument_bytes xs ++ x ≡ flat_map argument_bytes ys ++ y → xs ≡ ys
same-arguments [] [] x y long fit_x fit_y same = refl
same-arguments [] (b ∷ ys) x y long fit_x fit_y same = absurd (omega (arith, long))
same-arguments (a ∷ xs) [] x y long fit_x fit_y same = absurd (omega (arith, long))
same-arguments (a ∷ xs) (b ∷ ys) x y long fit_x fit_y same =
    let both : seven_bits (argument_number a) ++ (flat_map argument_bytes xs ++ x) ≡ seven_bits (argument_number b) ++ (flat_map argument_bytes ys ++ y) =
    sym (append_assoc (argument_bytes a) (flat_map argument_bytes xs) x) ∙ same ∙ append_assoc (argument_bytes b) (flat_map argument_bytes ys) y in
    let found = behind-number 9 (argument_number a) (argument_number b) (flat_map argument_bytes xs ++ x) (flat_map argument_bytes ys ++ y)
    (number-few a fit_x.0) (number-few b fit_y.0) both in
    let head = same-argument a b found.0 in
    let rest = same-arguments xs ys x y (omega (arith, long)) fit_x.1 fit_y.1 found.1 in
    λ i. head i ∷ rest i

sign-small : (b : Bool) → sign_number b ≤ 1
sign-small true = omega arith
sign-small false = omega arith

pub no-bytes : (bytes : List ℕ) → length bytes ≡ 0 → HasNoLiteral bytes
no-bytes [] none lit rest literal same = cc
no-bytes (byte ∷ bytes) none lit rest literal same = omega (arith, none)

pub no-family : (bytes rest : List ℕ) (first : ℕ) → bytes ≡ first ∷ rest
    → ((family : Family) (positive : Bool) → first ≢ 2 * family_number family + sign_number positive) → HasNoLiteral bytes
no-family bytes rest first is none lit more literal same =
    none lit.var.family lit.positive (cc)

module _ (bytes rest : List ℕ) (first : ℕ) (family : Family) (positive : Bool) (is : bytes ≡ first ∷ rest)
    (first_is : first ≡ 2 * family_number family + sign_number positive) where
  literal-parts : (lit : Lit) (more : List ℕ) → bytes ≡ literal_bytes lit ++ more
      → (lit.var.family ≡ family) × (rest ≡ flat_map argument_bytes lit.var.args ++ more)
  literal-parts lit more same =
      let head : first ≡ 2 * family_number lit.var.family + sign_number lit.positive = cc in
      let number : family_number lit.var.family ≡ family_number family =
      omega (arith, head, first_is, sign-small positive, sign-small lit.positive) in
      (same-number lit.var.family family number, cc)

  pub no-literal-arguments : HasNotSoMany rest (arity family) → HasNoLiteral bytes
  no-literal-arguments none lit more literal same =
      let found = literal-parts lit more same in
      none lit.var.args more (many lit literal ∙ ap arity found.0) literal.arguments found.1

  pub no-literal-variable : (args : List Arg) (len : ℕ) → ReadsMore rest (arity family) [] args len → ¬ (IsTrue (is_variable family args)) → HasNoLiteral bytes
  no-literal-variable args len read none lit more literal same =
      let found = literal-parts lit more same in
      let whole : flat_map argument_bytes read.more ++ drop len rest ≡ flat_map argument_bytes lit.var.args ++ more =
      ap (λ (front : List ℕ). front ++ drop len rest) (sym read.read.bytes_of) ∙ take-append-drop len rest ∙ found.1 in
      let args_are : args ≡ lit.var.args = read.all_of ∙ same-arguments read.more lit.var.args (drop len rest) more
      (read.count_of ∙ ap arity (sym found.0) ∙ sym (many lit literal)) read.read.fit literal.arguments whole in
      none (subst (λ (xs : List Arg). IsTrue (is_variable family xs)) (sym args_are)
      (subst (λ (f : Family). IsTrue (is_variable f lit.var.args)) found.0 literal.variable))

  pub read-literal-bytes : (args : List Arg) (len : ℕ) → IsTrue (is_variable family args) → ReadsMore rest (arity family) [] args len
      → ReadsLiteral bytes (record { var = record { family = family; args = args }; positive = positive }) (len + 1)
  read-literal-bytes args len variable read = record {
    fits = record { variable = variable; arguments = subst AreArguments (sym read.all_of) read.read.fit };
    within = rw is (omega (arith, read.read.within));
    bytes_of = rw (add-one, is)
        (ap (λ (byte : ℕ). byte ∷ take len rest) first_is
        ∙ ap (λ (back : List ℕ). (2 * family_number family + sign_number positive) ∷ back) (read.read.bytes_of ∙ ap (flat_map argument_bytes) (sym read.all_of)));
  }

sign-one : (a b : Bool) → sign_number a ≡ sign_number b → a ≡ b
sign-one true true same = refl
sign-one true false same = absurd (omega (arith, same))
sign-one false true same = absurd (omega (arith, same))
sign-one false false same = refl

pub bytes-one : (a b : Lit) (x y : List ℕ) → IsLiteral a → IsLiteral b → literal_bytes a ++ x ≡ literal_bytes b ++ y → a ≡ b
bytes-one a b x y literal_a literal_b same =
    let first : ℕ = 2 * family_number b.var.family + sign_number b.positive in
    let found = literal-parts (first ∷ (flat_map argument_bytes b.var.args ++ y)) (flat_map argument_bytes b.var.args ++ y) first b.var.family b.positive refl refl a x (sym same) in
    let head : 2 * family_number a.var.family + sign_number a.positive ≡ first = cc in
    let sign : sign_number a.positive ≡ sign_number b.positive =
    omega (arith, head, ap family_number found.0) in
    let positive = sign-one a.positive b.positive sign in
    let args = same-arguments a.var.args b.var.args x y (many a literal_a ∙ ap arity found.0 ∙ sym (many b literal_b))
    literal_a.arguments literal_b.arguments (sym found.1) in
    λ i. record { var = record { family = found.0 i; args = args i }; positive = positive i }
