-- The parts make the program.
use Rattle.std.proofs.Common.{List, ℕ, All, sym, ◌∙◌, subst}
use Rattle.std.proofs.lemmas.List.Elements.{All-weaker}
use Rattle.std.proofs.lemmas.Option.{slice_get_within, get_or_from_slice_get}
use Rattle.reached_methods.specs.declared.method.ReachedMethod.{ReachedMethod}
use Rattle.untyped_program.specs.Known.{IsKnownMethod, AreNumbered}
use Rattle.untyped_program.specs.Monitors.{names_by, monitors_of}
use Rattle.untyped_program.specs.Tables.{HasNumberFor, number_in}
use Rattle.untyped_program.specs.Untyped.{AreUntyped}
use Rattle.untyped_program.specs.Variables.{number_of}
use Rattle.untyped_program.proofs.MonitorNumbers.{are_numbered}
use Rattle.untyped_program.proofs.Pushes.{re_numbered}
use Rattle.untyped_program.proofs.Symbolic.{known_numbers, with_numbers}
use Rattle.untyped_program.proofs.untyped.program_of.Goals as goal

pub untyped_methods-requires-clause-numbers : goal.untyped_methods-requires-clause-numbers
untyped_methods-requires-clause-numbers c =
    let classes = c.args.classes.now in
    let methods = c.args.methods.now in
    let numbers = c.in_ok-variables.field-0.numbers.items in
    All-weaker (IsKnownMethod classes c.args.main) (λ (m : ReachedMethod). All (HasNumberFor numbers) m.targets)
    (λ m known. known_numbers classes methods numbers c.in_ok-variables.ensures.numbers m.targets known.targets) methods c.requires

pub untyped_methods-requires-clause-monitors : goal.untyped_methods-requires-clause-monitors
untyped_methods-requires-clause-monitors c =
    let classes = c.args.classes.now in
    let methods = c.args.methods.now in
    subst (λ (monitors : List (List ℕ)). All (λ m. AreNumbered monitors (names_by classes m)) methods) (sym c.in_ok-monitors.ensures) (are_numbered classes methods)

pub returns : goal.returns
returns c =
    let classes = c.args.classes.now in
    let main = c.args.main in
    let methods = c.args.methods.now in
    let numbers = c.in_ok-variables.field-0.numbers.items in
    record {
      variables = c.in_ok-variables.ensures.variables;
      monitors = c.in_ok-monitors-2.ensures ∙ c.in_ok-monitors.ensures;
      threads = c.in_ok-threads.ensures;
      untyped = re_numbered classes main (number_in numbers) (monitors_of classes methods) (number_of classes methods) methods c.in_ok-untyped.untyped
          (λ m u k there is. with_numbers classes methods numbers c.in_ok-variables.ensures.numbers main (monitors_of classes methods) m u
          (subst (IsKnownMethod classes main) (get_or_from_slice_get methods k m m there) (c.requires k m (slice_get_within methods k m there))).targets is)
          (subst (λ (monitors : List (List ℕ)). AreUntyped classes main (number_in numbers) monitors methods c.in_ok-untyped.untyped) c.in_ok-monitors.ensures c.in_ok-untyped.ensures);
    }
