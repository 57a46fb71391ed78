-- With one more valid class the list stays one of valid classes.
use Rattle.std.proofs.Common.{◌<◌, ◌≤◌, ◌++◌, [], ◌∷◌, List, Bool, true, false, cond, length, All, arith, subst, sym, length-append}
use Rattle.std.specs.Prelude.{is_ok}
use Rattle.std.proofs.lemmas.List.Elements.{All-push}
use Rattle.class_format.specs.ClassText.{IsValid}
use Rattle.class_format.specs.declared.record.ClassRecord.{ClassRecord}
use Rattle.linking.proofs.class_list.ClassList.push.Goals as goal

abbrev AreClasses : List ClassRecord → Type 0
AreClasses list = All IsValid list × (length list ≤ 65535)

kept : (b : Bool) (xs : List ClassRecord) (x : ClassRecord) → AreClasses xs → IsValid x → length xs < 65535 → AreClasses (cond b (xs ++ x ∷ []) xs)
kept true xs x all valid few = (All-push IsValid xs x all.0 valid, omega (arith, length-append xs (x ∷ [])))
kept false xs x all valid few = all

pub invariant_of-self : goal.invariant_of-self
invariant_of-self c =
    subst AreClasses (sym c.push.ensures.items)
    (kept (is_ok c.push.result) c.self.inside.classes.items c.args.class c.self.invariant c.requires.text (rw (← c.self.view_is) at c.requires.few))
