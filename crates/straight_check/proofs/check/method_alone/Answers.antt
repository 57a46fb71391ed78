-- The one id is that of the one method.
use Rattle.std.proofs.Common.{◌≡◌, [], ◌∷◌, length, sym, ap, ◌∙◌, arith}
use Rattle.std.proofs.lemmas.List.{length-map}
use Rattle.program.specs.declared.method.Method.{Method}
use Rattle.straight_check.proofs.Alone.{one_thread, one_method, same_id}
use Rattle.straight_check.proofs.check.method_alone.Goals as goal

pub returns-then-eq : goal.returns-then-eq
returns-then-eq c =
    let methods = c.args.program.now.methods in
    let many = ap length c.methods.ensures.value ∙ length-map methods (λ (m : Method). m.id) in
    let one : length methods ≡ 1 = omega (arith, many, c.in-len1.len_at_least, c.in-len1.len_below) in
    let single : length c.args.program.now.threads ≡ 1 = omega (arith, c.if-threads-eq1.true, c.threads.ensures) in
    let runs = one_thread c.args.program.now.threads c.entry.result single c.entry.ensures in
    let same = same_id c.entry.result _ (sym c.if-eq.true ∙ c.eq.ensures) in
    record {
      thread = runs ∙ ap (λ x. x ∷ []) (same ∙ sym c.method.ensures.named);
      method = one_method methods c.method.result.now one c.method.ensures.reached;
    }
