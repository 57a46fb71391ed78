-- The sums tell whether there is a deep chain.
use Rattle.std.proofs.Common.{◌≡◌, ◌≤◌, ◌↔◌, ℕ, List, All, Any, IsTrue, length, map, sym, ap, ◌∙◌, subst}
use Rattle.std.proofs.lemmas.List.{length-map}
use Rattle.untyped_program.specs.Edges.{AreRaised, AreSteady, IsAmong, cut, edges_from}
use Rattle.untyped_program.specs.Limits.{slots_of}
use Rattle.untyped_program.specs.declared.edges.Edge.{Edge}
use Rattle.untyped_program.proofs.DeepChains.{edges_among, slots_small, tells_deep}
use Rattle.untyped_program.proofs.limits.has_deep_chain.Goals as goal

pub greatest_sums-requires-clause-among : goal.greatest_sums-requires-clause-among
greatest_sums-requires-clause-among c =
    let methods = c.args.methods.now in
    let slots-are : c.deref.result.now ≡ map (λ m. cut (slots_of m)) methods = c.deref.ensures.value ∙ c.in_ok-slots.ensures in
    let edges-are : c.deref-2.result.now ≡ edges_from methods 0 methods = c.deref-2.ensures.value ∙ c.in_ok-edges.ensures in
    let size : length methods ≡ length c.deref.result.now = sym (ap length slots-are ∙ length-map methods (λ m. cut (slots_of m))) in
    subst (λ (n : ℕ). All (IsAmong n) c.deref-2.result.now) size (subst (All (IsAmong (length methods))) (sym edges-are) (edges_among methods))

pub greatest_sums-requires-clause-slots : goal.greatest_sums-requires-clause-slots
greatest_sums-requires-clause-slots c =
    subst (All (λ n. n ≤ 17)) (sym (c.deref.ensures.value ∙ c.in_ok-slots.ensures)) (slots_small c.args.methods.now)

pub returns : goal.returns
returns c =
    let methods = c.args.methods.now in
    let slots-are : c.deref.result.now ≡ map (λ m. cut (slots_of m)) methods = c.deref.ensures.value ∙ c.in_ok-slots.ensures in
    let edges-are : c.deref-2.result.now ≡ edges_from methods 0 methods = c.deref-2.ensures.value ∙ c.in_ok-edges.ensures in
    let sums = c.in_ok-sums.sums.items in
    let slots = map (λ m. cut (slots_of m)) methods in
    let raised : AreRaised slots (edges_from methods 0 methods) slots sums =
    subst (λ (ss : List ℕ). AreRaised ss (edges_from methods 0 methods) ss sums) slots-are
    (subst (λ (es : List Edge). AreRaised c.deref.result.now es c.deref.result.now sums) edges-are c.in_ok-sums.ensures.raised) in
    let steady : AreSteady slots (edges_from methods 0 methods) sums =
    subst (λ (ss : List ℕ). AreSteady ss (edges_from methods 0 methods) sums) slots-are
    (subst (λ (es : List Edge). AreSteady c.deref.result.now es sums) edges-are c.in_ok-sums.ensures.steady) in
    tells_deep methods c.requires sums raised steady c.has_cut.result
    (subst (λ (ss : List ℕ). IsTrue c.has_cut.result ↔ Any (λ n. n ≡ 17) ss) c.deref-3.ensures.value c.has_cut.ensures)
