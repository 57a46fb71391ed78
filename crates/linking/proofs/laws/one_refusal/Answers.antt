-- Each phase has one refusal, and a later phase begins only where the earlier ones find nothing.
use Rattle.linking.proofs.OneRefusal.{one_refusal}
use Rattle.linking.proofs.laws.one_refusal.Goals as goal

pub returns : goal.returns
returns c classes =
    one_refusal c.no_fault_of_profile.ensures c.no_first_fault.ensures c.one_list.ensures c.one_untyped_program.ensures classes c.one_first_fault.ensures
    c.one_first_fault-2.ensures c.one_refusal.ensures
