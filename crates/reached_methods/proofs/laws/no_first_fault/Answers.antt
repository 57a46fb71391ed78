use Rattle.reached_methods.proofs.laws.no_first_fault.Goals as goal

pub returns : goal.returns
returns c = λ classes main id pc kind detail f none. none id pc kind detail f.fault
