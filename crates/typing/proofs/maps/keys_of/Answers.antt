use Rattle.std.proofs.Common.{◌≡◌, ap, ◌∙◌, nat_eq, rules, ◌<◌, subst, sym}
use Rattle.std.specs.Prelude.{AllPairs}
use Rattle.std.proofs.lemmas.Result.{IfOk-weaker}
use Rattle.std.specs.BTreeMap.{keys}
use Rattle.std.specs.List.{list_any}
use Rattle.typing.proofs.Listed.{sorted_pairs}
use Rattle.typing.proofs.Keys.{keys_tell}
use Rattle.typing.proofs.maps.keys_of.Goals as goal

pub returns-clause-by_number : goal.returns-clause-by_number
returns-clause-by_number g c = IfOk-weaker c.collect.result (λ v. v.items ≡ keys c.args.map.now) _
    (λ v e. subst (AllPairs (λ a b. a < b)) (sym e) (sorted_pairs (keys c.args.map.now) c.keys.ensures.ordered)) (search rules)

pub returns-clause-has : goal.returns-clause-has
returns-clause-has g c = IfOk-weaker c.collect.result (λ v. v.items ≡ keys c.args.map.now) _
    (λ v e q. ap (list_any (nat_eq q)) e ∙ keys_tell c.args.map.now q) (search rules)
