use Rattle.std.proofs.Common.{◌≡◌, ◌++◌, ◌+◌, ◌∙◌, ap, sym, arith, take, [], ◌∷◌}
use Rattle.std.proofs.lemmas.List.{take_more}
use Rattle.var_names.specs.declared.var.Lit.{Lit}
use Rattle.var_names.proofs.VariableLists.{adds-more, grown-one, grown-then, numbers-more, short}
use Rattle.var_names.proofs.numbers.numbers_of.Goals as goal

pub loop-lit-preserved : goal.loop-lit-preserved
loop-lit-preserved c =
    let i = c.loop-lit.invariant in
    let step = c.in_ok-number.ensures in
    let old = c.loop-lit.variables.keys in
    let new = c.number_of.new.variables.keys in
    let lit = c.lit-item.result in
    let before = take c.loop-lit.lit-index c.args.literals.now in
    let taken : take (c.loop-lit.lit-index + 1) c.args.literals.now ≡ before ++ lit ∷ [] =
    take_more c.args.literals.now c.loop-lit.lit-index lit (omega arith)
    ∙ ap (λ (back : Lit). before ++ back ∷ []) (sym c.lit-item.is) in
    record {
      added = rw taken (adds-more c.args.variables.now.keys before lit old new i.added step.added);
      numbers = rw (taken, c.in_ok-push.ensures.ok) (numbers-more old before c.loop-lit.numbers lit c.in_ok-number.number new i.numbers step.added step.number step.below);
      grown = grown-then c.args.variables.now.keys old new i.grown (grown-one old lit.var new step.added);
      few = omega (arith, i.few, short old new lit.var step.added);
    }
