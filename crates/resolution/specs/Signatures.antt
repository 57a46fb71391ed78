-- Descriptors of methods that take ints and booleans, and return one of them or nothing (JVMS 4.3.3).
use Rattle.std.specs.Prelude.{◌+◌, ◌||◌, ℕ, Bool, true, false, List, [], ◌∷◌, Option, Some, None, nat_eq, if◌then◌else◌}
use Rattle.std.specs.Option.{option_map}
use Rattle.resolution.specs.declared.signature.Signature.{Signature}

-- the letters I and Z
abbrev pub is_int_letter : ℕ → Bool
is_int_letter b = nat_eq b 0x49 || nat_eq b 0x5a

-- one letter behind the parenthesis: I and Z, or V where nothing is returned
abbrev pub result_of : List ℕ → Option Bool
result_of [] = None
result_of (b ∷ []) = if is_int_letter b then Some true else if nat_eq b 0x56 then Some false else None
result_of (b ∷ c ∷ bs) = None

-- the rest of a descriptor, behind this many parameters
abbrev pub signature_from : ℕ → List ℕ → Option Signature
signature_from count [] = None
signature_from count (b ∷ bs) =
    if nat_eq b 0x29 then option_map (λ r. record { parameters = count; result = r }) (result_of bs)
    else if is_int_letter b then signature_from (count + 1) bs else None

-- the signature of a descriptor; none where it has other types
abbrev pub signature_of : List ℕ → Option Signature
signature_of [] = None
signature_of (b ∷ bs) = if nat_eq b 0x28 then signature_from 0 bs else None
