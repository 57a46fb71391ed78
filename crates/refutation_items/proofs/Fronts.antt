-- What stands at the front of the bytes at hand stands at the front of those that are left, and the other way round.
use Rattle.std.proofs.Common.{zero, suc, ◌≡◌, ◌++◌, ◌+◌, ◌-◌, ◌*◌, ◌/◌, ◌^◌, ◌<◌, ◌≤◌, ◌∙◌, ◌⊎◌, inl, inr, ap, sym, subst, refl, ℕ, List, [], ◌∷◌, Option, Some, None, arith, take, length, length-append}
use Rattle.std.proofs.Math.Nat.{pow-suc}
use Rattle.std.specs.Option.{IfSome}
use Rattle.std.specs.List.{flat_map}
use Rattle.refutation_items.specs.Parts.{LacksHeader, LacksLiteral, LacksNumber}
use Rattle.refutation_items.specs.declared.refusal.Reason.TheVariants.{Form}
use Rattle.sources.specs.Leaving.{Takes}
use Rattle.texts.specs.SevenBits.{HasNoNumber, seven_bits}
use Rattle.texts.proofs.NumberLaws.{large, one-number, small}
use Rattle.refutation_items.proofs.Refusing.{takes-then, told-taken}
use Rattle.token_reader.specs.AtHand.{HasFront, IsFront}
use Rattle.var_names.specs.declared.args.Arg.{Arg}
use Rattle.var_names.specs.declared.args.Arg.TheVariants.{Number, D}
use Rattle.var_names.specs.declared.var.Lit.{Lit}
use Rattle.var_names.specs.LiteralText.{argument_bytes, literal_bytes}
use Rattle.var_names.proofs.FamilyLaws.{few-arguments}
use Rattle.var_names.proofs.LiteralLaws.{many}
use Rattle.var_names.specs.Readable.{AreArguments, HasNoLiteral, IsArgument, IsLiteral}

split : (n : ℕ) → (n < 128) ⊎ (128 ≤ n)
split n = grind arith

below-more : (n more : ℕ) → n < 128 ^ suc (suc more) → n / 128 < 128 ^ suc more
below-more n more few =
    let below : n < 128 ^ suc more * 128 = rw (pow-suc 128 (suc more)) at few in
    by (128 ^ suc more) below
  where
    by : (p : ℕ) → n < p * 128 → n / 128 < p
    by p below = omega arith

-- a number of so many groups takes so many bytes
pub length-number : (more n : ℕ) → n < 128 ^ suc more → length (seven_bits n) ≤ suc more
length-number zero n few = rw (small n (omega (arith, few))) (omega arith)
length-number (suc more) n few = by (split n) (length-number more (n / 128))
  where
    by : (n < 128) ⊎ (128 ≤ n) → (n / 128 < 128 ^ suc more → length (seven_bits (n / 128)) ≤ suc more) → length (seven_bits n) ≤ suc (suc more)
    by (inl low) again = rw (small n low) (omega arith)
    by (inr high) again = let less = again (below-more n more few) in rw (large n high) (omega (arith, less))

take-within : (text rest : List ℕ) (n : ℕ) → length text ≤ n → take n (text ++ rest) ≡ text ++ take (n - length text) rest
take-within [] rest n long = let same : n - 0 ≡ n = omega arith in ap (λ (k : ℕ). take k rest) (sym same)
take-within (x ∷ text) rest zero long = absurd (omega (arith, long))
take-within (x ∷ text) rest (suc n) long = let less : suc n - suc (length text) ≡ n - length text = omega arith in rw less (ap (λ (xs : List ℕ). x ∷ xs) (take-within text rest n (omega (arith, long))))

less-or : (m n : ℕ) → (m < n) ⊎ (n ≤ m)
less-or m n = grind arith

-- a text that what is left begins with, and that is short, stands at hand
pub at-hand : (count : ℕ) (front bytes text rest : List ℕ) → IsFront count front bytes → length text ≤ count → bytes ≡ text ++ rest
    → (more : List ℕ) × (front ≡ text ++ more)
at-hand count front bytes text rest is short begins = by (less-or (length front) count)
  where
    by : (length front < count) ⊎ (count ≤ length front) → (more : List ℕ) × (front ≡ text ++ more)
    by (inl few) = (rest, is.all few ∙ begins)
    by (inr many) =
        let long : length text ≤ length front = omega (arith, many, short) in
        (take (length front - length text) rest, is.front_of ∙ ap (take (length front)) begins ∙ take-within text rest (length front) long)

pub no-number : (front : List ℕ) (left : Option (List ℕ)) → HasFront 10 front left → HasNoNumber (2 ^ 65) front → IfSome left (HasNoNumber (2 ^ 65))
no-number front None is none = is
no-number front (Some bytes) is none = λ n rest few begins.
    let found = at-hand 10 front bytes (seven_bits n) rest is (length-number 9 n (omega (arith, few))) begins in
    none n found.0 few found.1

length-argument : (argument : Arg) → IsArgument argument → length (argument_bytes argument) ≤ 10
length-argument (Number n) fits = length-number 9 (n + 1) (omega (arith, fits))
length-argument D fits = length-number 9 0 (omega arith)

length-arguments : (arguments : List Arg) → AreArguments arguments → length (flat_map argument_bytes arguments) ≤ 10 * length arguments
length-arguments [] fit = omega arith
length-arguments (argument ∷ arguments) fit =
    let first = length-argument argument fit.0 in
    let others = length-arguments arguments fit.1 in
    rw (length-append (argument_bytes argument) (flat_map argument_bytes arguments)) (omega (arith, first, others))

length-literal : (literal : Lit) → IsLiteral literal → length (literal_bytes literal) ≤ 41
length-literal literal is =
    let arguments = length-arguments literal.var.args is.arguments in
    omega (arith, arguments, many literal is, few-arguments literal.var.family)

pub no-literal : (front : List ℕ) (left : Option (List ℕ)) → HasFront 41 front left → HasNoLiteral front → IfSome left HasNoLiteral
no-literal front None is none = is
no-literal front (Some bytes) is none = λ literal rest fits begins.
    let found = at-hand 41 front bytes (literal_bytes literal) rest is (length-literal literal fits) begins in
    none literal found.0 fits found.1

pub lacks-number : (front : List ℕ) (old left : Option (List ℕ)) → left ≡ old → HasFront 10 front left → HasNoNumber (2 ^ 65) front
    → IfSome old (λ bytes. LacksNumber bytes Form)
lacks-number front old None same is none = subst (λ (told : Option (List ℕ)). IfSome told (λ bytes. LacksNumber bytes Form)) same tt
lacks-number front old (Some bytes) same is none =
    subst (λ (told : Option (List ℕ)). IfSome told (λ bytes. LacksNumber bytes Form)) same (no-number front (Some bytes) is none, refl)

pub lacks-literal : (front : List ℕ) (old left : Option (List ℕ)) → left ≡ old → HasFront 41 front left → HasNoLiteral front
    → IfSome old (λ bytes. LacksLiteral bytes Form)
lacks-literal front old None same is none = subst (λ (told : Option (List ℕ)). IfSome told (λ bytes. LacksLiteral bytes Form)) same tt
lacks-literal front old (Some bytes) same is none =
    subst (λ (told : Option (List ℕ)). IfSome told (λ bytes. LacksLiteral bytes Form)) same (no-literal front (Some bytes) is none, refl)

-- the four bytes of the beginning, and another number than that of the steps
pub other-steps : (a b c d e f : Option (List ℕ)) (steps number : ℕ) → Takes a b (74 ∷ []) → Takes b c (77 ∷ []) → Takes c d (82 ∷ []) → Takes d e (50 ∷ [])
    → Takes e f (seven_bits number) → number < 2 ^ 65 → steps < 2 ^ 32 → (number ≡ steps → ⊥) → IfSome a (λ bytes. LacksHeader steps bytes Form)
other-steps a b c d e f steps number j m r two takes few fits differs =
    told-taken a f ((74 ∷ []) ++ (77 ∷ []) ++ (82 ∷ []) ++ (50 ∷ []) ++ seven_bits number) (λ bytes. LacksHeader steps bytes Form)
    (takes-then a e f ((74 ∷ []) ++ (77 ∷ []) ++ (82 ∷ []) ++ (50 ∷ [])) (seven_bits number)
    (takes-then a d e ((74 ∷ []) ++ (77 ∷ []) ++ (82 ∷ [])) (50 ∷ []) (takes-then a c d ((74 ∷ []) ++ (77 ∷ [])) (82 ∷ []) (takes-then a b c (74 ∷ []) (77 ∷ []) j m) r) two) takes)
    (λ bytes. (
      (λ rest same.
          let behind : seven_bits number ++ bytes ≡ seven_bits steps ++ rest = cc (same) in
          differs (one-number 9 number steps bytes rest (omega (arith, few)) (omega (arith, fits)) behind)),
      refl,
    ))
