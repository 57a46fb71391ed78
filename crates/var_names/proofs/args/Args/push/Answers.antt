use Rattle.std.proofs.Common.{◌+◌, ◌-◌, ◌≡◌, ◌∙◌, ap, sym, arith, drop, set, replicate, List, ℕ}
use Rattle.std.proofs.Math.ListN.{length-set}
use Rattle.std.proofs.lemmas.List.{drop-drop, drop-replicate, drop-set-lt}
use Rattle.var_names.specs.declared.args.Arg.{Arg}
use Rattle.var_names.specs.declared.args.Arg.TheVariants.{D}
use Rattle.var_names.proofs.args.Args.push.Goals as goal

-- one more place is taken
rest-after : (items : List Arg) (len : ℕ) (arg : Arg) → drop len items ≡ replicate (5 - len) D
    → drop (len + 1) (set items len arg) ≡ replicate (5 - (len + 1)) D
rest-after items len arg rest =
    let count : 5 - len - 1 ≡ 5 - (len + 1) = omega arith in
    drop-set-lt (len + 1) items len arg (omega arith)
    ∙ sym (drop-drop 1 len items)
    ∙ ap (drop 1) rest
    ∙ drop-replicate 1 (5 - len) D
    ∙ ap (λ n. replicate n D) count

pub invariant_of-self : goal.invariant_of-self
invariant_of-self c =
    let i = c.self.invariant in record {
      few = grind (arith, i.few, c.requires, c.self.view_is);
      five = omega (arith, length-set {A = Arg}, i.five);
      rest = rest-after c.self.inside.items c.self.inside.len c.args.arg i.rest;
    }
