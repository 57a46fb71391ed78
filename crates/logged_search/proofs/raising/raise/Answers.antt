use Rattle.logged_search.proofs.raising.raise.Goals as goal

pub raise-requires : goal.raise-requires
raise-requires c = c.variable.ensures.below c.args.order.now.variables c.requires
