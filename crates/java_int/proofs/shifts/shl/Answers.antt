use Rattle.std.proofs.Common.{w32, of_z, ap, ◌∙◌, ◌%◌, rules}
use Rattle.std.specs.Prelude.{FitsSigned}
use Rattle.std.specs.Int.{int_shl}
use Rattle.std.proofs.lemmas.Int.{to_z-of_z}
use Rattle.java_int.proofs.Wraps.{shl_is}
use Rattle.java_int.proofs.shifts.shl.Goals as goal

pub returns : goal.returns
returns c =
    let fits : FitsSigned w32 c.wrapping_shl.result = search rules in
    to_z-of_z w32 c.wrapping_shl.result fits
    ∙ c.wrapping_shl.ensures
    ∙ ap (λ x. int_shl w32 x (c.cast_unsigned.result % 32)) (to_z-of_z w32 c.args.a c.ranges.a)
    ∙ ap (λ n. int_shl w32 c.args.a (n % 32)) (c.cast_unsigned.ensures ∙ ap (of_z w32) (to_z-of_z w32 c.args.b c.ranges.b))
    ∙ shl_is c.args.a c.args.b c.ranges.a c.ranges.b
