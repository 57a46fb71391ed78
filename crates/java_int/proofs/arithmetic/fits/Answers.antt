use Rattle.std.proofs.Common.{◌≡◌, ◌-◌, ◌^◌, sym, subst, w32, of_z, eqb}
use Rattle.std.specs.Prelude.{ℤ, IsTrue}
use lib.Signed.{shr_z}
use Rattle.std.proofs.lemmas.Int.{to_z-of_z}
use Rattle.std.proofs.lemmas.Nat.{pow_pos}
use Rattle.java_int.specs.JavaInt.{Fits}
use Rattle.java_int.proofs.Ranges.{fits_else}
use Rattle.java_int.proofs.arithmetic.fits.Goals as goal

pub returns-else-high-eq0 : goal.returns-else-high-eq0
returns-else-high-eq0 c =
    let m = 2 ^ (c.args.width - 1) in
    let P : ℤ → Type 0 = λ x. (of_z w32 (shr_z x m) ≡ 0 → ⊥) →
    (IsTrue (eqb (of_z w32 (shr_z x m)) 4294967295) → Fits c.args.width c.args.a) ×
    (Fits c.args.width c.args.a → IsTrue (eqb (of_z w32 (shr_z x m)) 4294967295)) in
    subst P (sym (to_z-of_z w32 c.args.a c.ranges.a)) (fits_else c.args.a m (pow_pos (c.args.width - 1)) c.ranges.a) c.if-high-eq0.false
