-- Linked programs have what their graphs need.
use Rattle.std.proofs.Common.{List, length, refl, sym, ap, ◌∙◌}
use Rattle.program.proofs.Lists.{contains_at}
use Rattle.class_format.specs.declared.record.ClassRecord.{ClassRecord}
use Rattle.program.specs.Program.{Prog}
use Rattle.program.specs.declared.method.Operand.TheVariants as operand
use Rattle.linking.specs.Linking.{IsProgramOf}
use Rattle.linked_laws.proofs.Calling.{called_are_methods}
use Rattle.linked_laws.proofs.Methods.{comes}
use Rattle.program_graph.specs.Graph.{IsFit}

pub linked_are_fit : (classes : List ClassRecord) (p : Prog) → IsProgramOf classes p → IsFit p
linked_are_fit classes p is = record {
  typed = λ m reached. (let from = comes classes p is m reached in from.typed.typing.whole ∙ sym (ap length from.typed.listing));
  called = λ m pc instr id reached at. called_are_methods classes p is m.id id (record {
    method = m;
    is_method = record { reached = reached; named = refl };
    call = contains_at m.operands at.place (operand.Method id) at.names;
  });
}
