-- The numbers so far are those of the texts of index 0 and of the entries so far.
use Rattle.std.proofs.Common.{◌≡◌, ◌+◌, length}
use Rattle.class_profile.proofs.Numbers.{AreNumbers}
use Rattle.class_profile.proofs.name_form.text_numbers.Given as goal

abbrev pub invariant-loop-entry : goal.invariant-loop-entry
invariant-loop-entry l = record {
  size : length l.numbers.items ≡ l.entry-index + 1;
  numbers : AreNumbers l.pool l.texts l.numbers.items;
}
