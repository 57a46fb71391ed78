-- A jump by a distance goes to the place at that distance.
use Rattle.std.proofs.Common.{◌≡◌, ◌∙◌, ◌+ℤ◌, pos, sym, rules}
use Rattle.opcodes.specs.Instructions.{jumps}
use Rattle.class_tests.proofs.types.reached.jumps_to.Goals as goal

pub returns-in-Some : goal.returns-in-Some
returns-in-Some c = λ same.
    let there : pos c.args.pc ≡ pos c.args.at.now.pc +ℤ c.in-Some.distance = search rules in
    jumps c.in-Some.distance (sym c.jump.ensures ∙ c.in-Some.is) there
