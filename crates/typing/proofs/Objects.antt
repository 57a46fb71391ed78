-- Types of objects before and behind the constructor's call.
use Rattle.std.proofs.Common.{◌≡◌, ◌≢◌, Some, cond, refl, sym, ap, ◌∙◌}
use Rattle.std.proofs.lemmas.Option.{same_Some}
use Rattle.typing.specs.Objects.{fresh_of, made_of, object_of, same_object, constructed}
use Rattle.typing.specs.declared.object.Object.{Object}
use Rattle.typing.specs.declared.object.Object.TheVariants.{Thread, Target}

pub object_fresh : (o : Object) → object_of (fresh_of o) ≡ Some o
object_fresh (Thread k) = refl
object_fresh (Target k) = refl

pub object_made : (o : Object) → object_of (made_of o) ≡ Some o
object_made (Thread k) = refl
object_made (Target k) = refl

pub constructed_fresh : (o q : Object) → constructed o (fresh_of q) ≡ cond (same_object o q) (made_of q) (fresh_of q)
constructed_fresh o (Thread k) = refl
constructed_fresh o (Target k) = refl

pub constructed_made : (o q : Object) → constructed o (made_of q) ≡ made_of q
constructed_made o (Thread k) = refl
constructed_made o (Target k) = refl

pub fresh_not_made : (o q : Object) → fresh_of o ≢ made_of q
fresh_not_made (Thread j) (Thread k) e = cc
fresh_not_made (Thread j) (Target k) e = cc
fresh_not_made (Target j) (Thread k) e = cc
fresh_not_made (Target j) (Target k) e = cc

pub fresh_once : (o q : Object) → fresh_of o ≡ fresh_of q → o ≡ q
fresh_once o q e = same_Some o q (sym (object_fresh o) ∙ ap object_of e ∙ object_fresh q)
