use Rattle.std.proofs.Common.{List, ℕ, refl, subst₂}
use Rattle.opcodes.specs.declared.survey.Place.{Place}
use Rattle.opcodes.specs.Survey.{Reaches}
use Rattle.opcodes.proofs.Surveys.{first_survey}
use Rattle.opcodes.proofs.survey.Survey.start.Goals as goal

pub returns : goal.returns
returns c =
    let R : List Place → List ℕ → Type 0 = λ ps ws. Reaches c.args.code.now ps ws 0 c.reach.new.self.places.items c.reach.new.self.waiting.items in
    first_survey c.args.code.now _ _ _ refl c.requires (subst₂ R c.in_ok-unreached.ensures c.new.ensures.items c.in_ok-reach.ensures)
