use Rattle.std.proofs.Common.{◌∙◌, sym, ap}
use Rattle.std.specs.Option.{option_copied}
use Rattle.typing.proofs.level.deed_at.Goals as goal

pub returns : goal.returns
returns c = record {
  pc = c.unwrap-listed.result.now.pc;
  instr = c.unwrap-listed.result.now.instr;
  symbol = c.unwrap-symbol.result.now;
  stands = record { listed = sym c.get.ensures.item ∙ ap option_copied c.unwrap-listed.ensures; names = sym c.get-2.ensures.value ∙ ap option_copied c.unwrap-symbol.ensures };
  is_deed = c.deed_of.ensures;
}
