use Rattle.class_tests.proofs.types.types.Goals as goal

pub type_method-requires-clause-reached : goal.type_method-requires-clause-reached
type_method-requires-clause-reached c = c.is_fit.ensures.reached c.if-not-is_fit.false
