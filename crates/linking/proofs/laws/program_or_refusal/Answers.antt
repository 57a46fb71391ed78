-- The program passes each phase.
use Rattle.linking.proofs.OneRefusal.{program_or_refusal}
use Rattle.linking.proofs.laws.program_or_refusal.Goals as goal

pub returns : goal.returns
returns c classes = program_or_refusal c.no_fault_of_profile.ensures c.no_first_fault.ensures c.one_list.ensures c.one_untyped_program.ensures classes
