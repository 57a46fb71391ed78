-- The keys are distinct exactly where the spellings are.
use Rattle.std.proofs.Common.{◌≡◌, ◌↔◌, ◌&&◌, ◌∙◌, Bool, false, eqb, IsTrue, AllPairs}
use Rattle.std.proofs.lemmas.Result.{IfOk-weaker}
use Rattle.class_profile.proofs.MemberKeys.{methods_apart}
use Rattle.class_profile.proofs.Told.{along}
use Rattle.class_profile.specs.NameForm.{HasDistinctMethods}
use Rattle.class_profile.proofs.name_form.has_distinct_methods.Goals as goal

pub returns-clause-told : goal.returns-clause-told
returns-clause-told c =
    let class = c.args.class.now in
    let keys = c.deref.result.now in
    let same = methods_apart class c.args.numbers.now c.requires keys (c.deref.ensures.value ∙ c.in_ok-keys.ensures.keys) in
    IfOk-weaker c.are_distinct.result (λ distinct. IsTrue distinct ↔ AllPairs (λ a b. (eqb b.0 a.0 && eqb b.1 a.1) ≡ false) keys) (λ distinct. IsTrue distinct ↔ HasDistinctMethods class)
    (λ (distinct : Bool) told. along told same) c.are_distinct.ensures.told
