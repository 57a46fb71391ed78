-- Why a reader gives no more bytes.
use Rattle.std.specs.Prelude.{◌<◌, ◌≡◌, ◌≤◌, ◌^◌, ℕ, Option, ⊤}
use Rattle.std.proofs.Common.{subst}
use Rattle.std.specs.Option.{IfSome}
use Rattle.ports.specs.Faults.{Rose}
use Rattle.ports.proofs.GrowthLaws.{rose-then}
use Rattle.token_reader.specs.declared.bytes.ReadRefusal.{ReadRefusal}
use Rattle.token_reader.specs.declared.bytes.ReadRefusal.TheVariants.{Long, Failed, Memory}

-- the cause of a refusal: the text has more than 2^40 bytes; the count of faults rose; want of memory has none
abbrev pub IsCause : ℕ → ℕ → Option ℕ → ReadRefusal → Type 0
IsCause old new total Long = IfSome total (λ bytes. 2 ^ 40 < bytes)
IsCause old new total Failed = Rose old new
IsCause old new total Memory = ⊤

-- a cause in a later part of a call is one of the call
pub cause-later : (a b c : ℕ) (first second : Option ℕ) (refusal : ReadRefusal) → a ≤ b → b ≤ c → second ≡ first → IsCause b c second refusal → IsCause a c first refusal
cause-later a b c first second Long kept more same cause = subst (λ (total : Option ℕ). IfSome total (λ bytes. 2 ^ 40 < bytes)) same cause
cause-later a b c first second Failed kept more same cause = rose-then a b c kept more cause
cause-later a b c first second Memory kept more same cause = cause
