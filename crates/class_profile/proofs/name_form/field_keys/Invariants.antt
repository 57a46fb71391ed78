-- The keys so far are those of the int fields so far.
use Rattle.std.proofs.Common.{◌≡◌, map, filter, take}
use Rattle.class_names.specs.Members.{is_int_field}
use Rattle.class_profile.specs.Texts.{number_at}
use Rattle.class_profile.proofs.name_form.field_keys.Given as goal

abbrev pub invariant-loop-field : goal.invariant-loop-field
invariant-loop-field l = l.keys.items ≡ map (λ f. number_at l.numbers f.name) (filter (is_int_field l.class.pool) (take l.field-index l.field-items))
