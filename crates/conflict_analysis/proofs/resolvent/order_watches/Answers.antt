use Rattle.std.proofs.Common.{◌≤◌, length, get_or, arith}
use Rattle.literals.proofs.Members.{IsIn-place}
use Rattle.conflict_analysis.proofs.Finishing.{highest_swapped}
use Rattle.propagation.proofs.Swapping.{IsIn-permuted}
use Rattle.conflict_analysis.proofs.resolvent.order_watches.Goals as goal

pub level_of-requires : goal.level_of-requires
level_of-requires c =
    c.requires.values (get_or c.swap.new.self 1 0) (IsIn-permuted c.args.learned.now c.swap.new.self (get_or c.swap.new.self 1 0) c.swap.ensures.permutation (IsIn-place c.swap.new.self 1 (omega (arith, c.swap.ensures.len, c.if-learned-lt2.false))))

pub returns : goal.returns
returns c =
    let two : 2 ≤ length c.args.learned.now = omega (arith, c.if-learned-lt2.false) in
    let h = highest_swapped c.args.trail.now.steps c.args.learned.now c.swap.new.self c.highest-at.result c.level_of.result two c.highest-at.ensures.behind c.highest-at.ensures.within c.highest-at.ensures.highest c.swap.ensures.after c.swap.ensures.len c.level_of.ensures in
    record { permuted = c.swap.ensures.permutation; first = h.0; back = h.1 }
