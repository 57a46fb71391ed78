-- The derived tests of equality are equality.
use Rattle.std.proofs.Common.{◌≡◌, ◌++◌, ◌-◌, ◌&&◌, Bool, true, false, List, ap, sym, ◌∙◌, refl, rules, nat_eq, take, length, replicate, eq-eqb}
use Rattle.std.proofs.lemmas.Bool.{eqb-true}
use Rattle.std.proofs.Math.Seq.{take-append_seam}
use lib.Pointwise.{pointwise, pointwise_decides}
use denote.Enum.Bare.{same_true, true_same, sameb}
use Rattle.var_names.specs.declared.args.Arg.{Arg}
use Rattle.var_names.specs.declared.args.Arg.TheVariants.{Number, D}
use Rattle.var_names.specs.Variables.{Variable}
use Rattle.var_names.specs.contracts.args.ArgPartialEq.TheImpl as arg
use Rattle.var_names.specs.contracts.family.Family.{the_type}
use Rattle.var_names.specs.contracts.var.VarPartialEq.TheImpl as var

arg-decides : (x y : Arg) → (arg.eq-value.it x y ≡ true → x ≡ y) × (x ≡ y → arg.eq-value.it x y ≡ true)
arg-decides (Number m) (Number n) = (λ e. ap Number (eqb-true m n e), λ e. eq-eqb m n (cc))
arg-decides (Number m) D = (λ e. cc, λ e. cc)
arg-decides D (Number n) = (λ e. cc, λ e. cc)
arg-decides D D = (λ e. refl, λ e. refl)

-- arguments, filled up with the default write
abbrev filled : List Arg → List Arg
filled xs = xs ++ replicate (5 - length xs) D

unfilled : (xs ys : List Arg) → filled xs ≡ filled ys → length xs ≡ length ys → xs ≡ ys
unfilled xs ys same long =
    sym (take-append_seam xs (replicate (5 - length xs) D)) ∙ ap (take (length xs)) same
    ∙ ap (λ n. take n (filled ys)) long ∙ take-append_seam ys (replicate (5 - length ys) D)

both : (s t u : Bool) → (s && (t && u)) ≡ true → (s ≡ true) × ((t ≡ true) × (u ≡ true))
both true true true e = (refl, (refl, refl))
both true true false e = absurd (cc)
both true false u e = absurd (cc)
both false t u e = absurd (cc)

pub var-same : (x y : Variable) → var.eq-value.it x y ≡ true → x ≡ y
var-same x y e =
    let parts = both (sameb the_type x.family y.family) (pointwise arg.eq-value.it (filled x.args) (filled y.args)) (nat_eq (length x.args) (length y.args)) e in
    let family : x.family ≡ y.family = same_true the_type (search rules) x.family y.family parts.0 in
    let args : x.args ≡ y.args = unfilled x.args y.args ((pointwise_decides arg-decides (filled x.args) (filled y.args)).0 parts.1.0) (eqb-true (length x.args) (length y.args) parts.1.1) in
    λ i. record { family = family i; args = args i }

pub var-refl : (x : Variable) → var.eq-value.it x x ≡ true
var-refl x =
    rw (true_same the_type x.family x.family refl, (pointwise_decides arg-decides (filled x.args) (filled x.args)).1 refl, eq-eqb (length x.args) (length x.args) refl) refl
