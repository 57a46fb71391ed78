-- The steps of the search for main.
use Rattle.std.proofs.Common.{◌≡◌, ◌<◌, ◌+◌, ◌∙◌, ℕ, sym, ap, subst, Some, List, length, get_or, slice_get, arith}
use Rattle.class_format.specs.declared.record.Member.{Member}
use Rattle.class_profile.proofs.Mains.{OnlyBefore, next_class, pass_method, first_main, second_main, all_classes}
use Rattle.class_profile.proofs.Places.{stands}
use Rattle.class_profile.proofs.Told.{told_yes, told_no}
use Rattle.class_profile.proofs.main_method.main_of.Goals as goal
use Rattle.class_profile.proofs.main_method.main_of.Goals.{then-is_main+else-is_some, else-is_main}

method_there : (methods items : List Member) (j : ℕ) (m : Member) → items ≡ methods → j < length items → m ≡ get_or items j m → slice_get methods j ≡ Some m
method_there methods items j m same within is = subst (λ (ms : List Member). slice_get ms j ≡ Some m) same (stands items j m within is)

pub returns-then-is_some : goal.returns-then-is_some
returns-then-is_some c =
    let class = c.index-classes-class_place.result in
    let i = c.loop-class_place.class_place in
    let j = c.loop-method_place.method_place in
    second_main c.args.classes.now i class (stands c.args.classes.now i class c.loop-class_place-test.true c.index-classes-class_place.is)
    j c.method-item.result (method_there class.methods c.as_slice-method-items.result.now j c.method-item.result c.as_slice-method-items.ensures c.loop-method_place-test.true c.method-item.is)
    c.loop-method_place.found (sym c.is_some.ensures ∙ c.if-is_some.true) (told_yes c.is_main.result c.if-is_main.true c.is_main.ensures) c.loop-method_place.invariant

pub loop-method_place-preserved : goal.loop-method_place-preserved
loop-method_place-preserved c =
    let class = c.index-classes-class_place.result in
    let i = c.loop-class_place.class_place in
    let j = c.loop-method_place.method_place in
    let m = c.method-item.result in
    let here = stands c.args.classes.now i class c.loop-class_place-test.true c.index-classes-class_place.is in
    let there = method_there class.methods c.as_slice-method-items.result.now j m c.as_slice-method-items.ensures c.loop-method_place-test.true c.method-item.is in
    elim c.if-is_main.branch [
      | then-is_main+else-is_some w ↦
          first_main c.args.classes.now i class here j m there c.loop-method_place.found c.if-is_main.found (sym w.is_some.ensures ∙ w.if-is_some.false) w.found-is
          (told_yes c.is_main.result w.if-is_main.true c.is_main.ensures) c.loop-method_place.invariant
      | else-is_main w ↦
          subst (OnlyBefore c.args.classes.now i (j + 1)) (sym w.found-is)
          (pass_method c.args.classes.now i class here j m there c.loop-method_place.found (told_no c.is_main.result w.if-is_main.false c.is_main.ensures) c.loop-method_place.invariant)
    ]

pub loop-class_place-preserved : goal.loop-class_place-preserved
loop-class_place-preserved c =
    let class = c.index-classes-class_place.result in
    let i = c.loop-class_place.class_place in
    next_class c.args.classes.now i class (stands c.args.classes.now i class c.loop-class_place-test.true c.index-classes-class_place.is)
    c.loop-method_place.method_place c.loop-method_place.found (omega (arith, ap length c.as_slice-method-items.ensures)) c.loop-method_place.invariant

pub returns : goal.returns
returns c = all_classes c.args.classes.now c.loop-class_place.class_place c.loop-class_place.found (omega arith) c.loop-class_place.invariant
