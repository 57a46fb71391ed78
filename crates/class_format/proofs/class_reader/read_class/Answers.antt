use Rattle.std.proofs.Common.{arith}
use Rattle.class_format.proofs.Classes.{found, only}
use Rattle.class_format.proofs.ClassFaults.{refused, faulty}
use Rattle.class_format.proofs.class_reader.read_class.Goals as goal

pub returns-clause-found : goal.returns-clause-found
returns-clause-found c = found c.args.bytes.now c.whole.result (record { at = λ k. omega (arith, c.type_inv.bytes k) }) c.whole.ensures

pub returns-clause-only : goal.returns-clause-only
returns-clause-only c = λ class text. only c.args.bytes.now c.whole.result class text c.whole.ensures

pub returns-clause-refused : goal.returns-clause-refused
returns-clause-refused c = refused c.args.bytes.now c.whole.result (record { at = λ k. omega (arith, c.type_inv.bytes k) }) c.whole.ensures

pub returns-clause-faulty : goal.returns-clause-faulty
returns-clause-faulty c = λ kind place first. faulty c.args.bytes.now c.whole.result kind place first c.whole.ensures
