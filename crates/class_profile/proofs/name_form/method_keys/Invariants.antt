-- The keys so far are those of the methods so far.
use Rattle.std.proofs.Common.{◌≡◌, map, take}
use Rattle.class_profile.specs.Texts.{number_at}
use Rattle.class_profile.proofs.name_form.method_keys.Given as goal

abbrev pub invariant-loop-method : goal.invariant-loop-method
invariant-loop-method l = l.keys.items ≡ map (λ m. (number_at l.numbers m.name, number_at l.numbers m.descriptor)) (take l.method-index l.method-items)
