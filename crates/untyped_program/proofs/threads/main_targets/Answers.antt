-- The first method that is main.
use Rattle.std.proofs.Common.{◌≡◌, true, false, get_or, sym, ap, ◌∙◌}
use Rattle.reached_methods.specs.Reached.{is_method}
use Rattle.reached_methods.specs.declared.method.ReachedMethod.{ReachedMethod}
use Rattle.untyped_program.specs.Threads.{targets_in}
use Rattle.untyped_program.proofs.Finds.{find_here, find_later}
use Rattle.untyped_program.proofs.threads.main_targets.Goals as goal

pub returns-then-is_method : goal.returns-then-is_method
returns-then-is_method c =
    let main = c.args.main in
    let m = c.method-item.result in
    let is : is_method (get_or c.args.methods.now c.loop-method.method-index m).id main ≡ true =
    ap (λ (x : ReachedMethod). is_method x.id main) (sym c.method-item.is) ∙ sym c.is_method.ensures ∙ c.if-is_method.true in
    let found = find_here (λ (x : ReachedMethod). is_method x.id main) c.args.methods.now c.loop-method.method-index m c.loop-method-test.true c.loop-method.invariant is in
    c.as_slice.ensures ∙ ap (λ (x : ReachedMethod). x.targets) c.method-item.is ∙ sym (ap targets_in found)

pub loop-method-preserved : goal.loop-method-preserved
loop-method-preserved c =
    let main = c.args.main in
    let m = c.method-item.result in
    let is : is_method (get_or c.args.methods.now c.loop-method.method-index m).id main ≡ false =
    ap (λ (x : ReachedMethod). is_method x.id main) (sym c.method-item.is) ∙ sym c.is_method.ensures ∙ c.if-is_method.false in
    find_later (λ (x : ReachedMethod). is_method x.id main) c.args.methods.now c.loop-method.method-index m c.loop-method-test.true c.loop-method.invariant is
