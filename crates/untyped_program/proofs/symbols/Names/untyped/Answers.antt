-- The parts of the method are those of the reached method.
use Rattle.std.proofs.Common.{Bool, All, sym, ap, refl, ◌∙◌, subst}
use Rattle.untyped_program.specs.Descriptors.{spelled}
use Rattle.untyped_program.specs.Known.{HasSymbol}
use Rattle.untyped_program.specs.Methods.{entry_of, frame_of, signature_by, symbols_from}
use Rattle.untyped_program.specs.Tables.{number_in}
use Rattle.untyped_program.proofs.Symbolic.{have_symbols}
use Rattle.untyped_program.proofs.symbols.Names.untyped.Goals as goal

pub symbols-requires-clause-symbols : goal.symbols-requires-clause-symbols
symbols-requires-clause-symbols c =
    subst (All (HasSymbol c.args.self.now.classes.now c.args.self.now.monitors c.class_at-class.result.now.pool)) (sym c.as_slice.ensures)
    (have_symbols c.args.self.now.classes.now c.args.self.now.monitors c.class_at-class.result.now c.args.method.now c.class_at-class.ensures c.requires.monitors c.requires.known.targets)

pub returns : goal.returns
returns c = record {
  class = c.class_at-class.result.now;
  method = c.method_at-member.result.now;
  there = record { class_there = c.class_at-class.ensures; method_there = c.method_at-member.ensures };
  body = c.code_of-body.result.now;
  code = c.code_of-body.ensures;
  signature = spelled c.in-Some.signature;
  declared = ap (signature_by c.entry_of-entry.result) (sym c.member_descriptor.ensures) ∙ sym c.in-Some.ensures;
  id = refl;
  entry = c.entry_of-entry.ensures ∙ ap (λ (b : Bool). entry_of b c.method_at-member.result.now) c.is_method.ensures;
  frame = c.in_ok-frame.ensures ∙ ap (frame_of c.code_of-body.result.now (spelled c.in-Some.signature)) c.in_ok-monitor.ensures;
  listing = c.in_ok-listing.ensures;
  symbols = c.in_ok-symbols.ensures ∙ ap (symbols_from c.args.self.now.classes.now (number_in c.args.self.now.numbers.items) c.args.self.now.monitors c.class_at-class.result.now.pool 0) c.as_slice.ensures;
}
