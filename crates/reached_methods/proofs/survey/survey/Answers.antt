use Rattle.reached_methods.proofs.Own.{surveyed_so}
use Rattle.reached_methods.proofs.survey.survey.Goals as goal

pub returns-clause-surveyed : goal.returns-clause-surveyed
returns-clause-surveyed c =
    surveyed_so c.args.classes.now c.args.main c.args.id c.code_of-code.result.class.now c.code_of-code.result.body.now c.in_ok-read.read.listing c.in_ok-names.names.targets
    c.in_ok-read.read.fault c.in_ok-names.names.fault c.first_thread_in_loop-looped.result
    c.as_slice.result.now c.args.index.now.classes.now c.is_method-in_main.result c.as_slice-2.result.now c.as_slice-3.result.now c.earlier.result c.earlier-2.result
    c.as_slice.ensures.value c.requires.index c.is_method-in_main.ensures.value c.as_slice-2.ensures.items c.as_slice-3.ensures.items
    c.code_of-code.ensures.there c.in_ok-read.ensures.listing c.in_ok-names.ensures.targets c.in_ok-read.ensures.fault c.in_ok-names.ensures.fault
    c.first_thread_in_loop-looped.ensures c.earlier.ensures c.earlier-2.ensures
