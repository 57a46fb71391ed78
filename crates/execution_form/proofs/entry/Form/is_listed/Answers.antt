-- The identifier, or none.
use Rattle.std.proofs.Common.{◌≡◌, Some, Contains, sym, ◌∙◌, subst}
use Rattle.execution_form.proofs.entry.Form.is_listed.Goals as goal

one : {X : Type 0} {x y : X} → Some x ≡ Some y → x ≡ y
one e = cc

pub returns-in-Some : goal.returns-in-Some
returns-in-Some c = (
  λ h id is. subst (Contains c.args.self.now.execution.now.so) (one (sym c.in-Some.is ∙ is)) ((c.requires.listed c.in-Some.id).0 (c.has.ensures.0 h)),
  λ listed. c.has.ensures.1 ((c.requires.listed c.in-Some.id).1 (listed c.in-Some.id c.in-Some.is)),
)
