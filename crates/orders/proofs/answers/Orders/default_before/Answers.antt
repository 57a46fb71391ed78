-- Happens-before from a default write by the last synchronization action.
use Rattle.std.proofs.Common.{false, refl, arith}
use Rattle.orders.proofs.Said.{not_true, read_last, read_none, last_within, default_happens, default_never, var}
use Rattle.orders.proofs.answers.Orders.default_before.Goals as goal

pub returns-in_default : goal.returns-in_default
returns-in_default c = (
  λ never. absurd (not_true false refl never),
  λ path. absurd (default_never c.args.self.now (var c.args.class.now c.args.name.now) c.args.j c.requires.made c.requires.second (read_none c.args.self.now c.args.j c.index.result.now c.requires.made c.requires.second c.index.ensures c.in_default.is) path),
)

pub default_taken-requires-clause-last : goal.default_taken-requires-clause-last
default_taken-requires-clause-last c =
    let within = last_within c.args.self.now c.args.j c.in-Some.last c.requires.made (read_last c.args.self.now c.args.j c.in-Some.last c.index.result.now c.requires.made c.requires.second c.index.ensures c.in-Some.is) in
    let size = c.requires.made.events.each in omega arith

pub returns : goal.returns
returns c =
    let iff = default_happens c.args.self.now (var c.args.class.now c.args.name.now) c.args.j c.in-Some.last c.requires.made c.requires.second c.requires.variable
    (read_last c.args.self.now c.args.j c.in-Some.last c.index.result.now c.requires.made c.requires.second c.index.ensures c.in-Some.is) in
    (λ yes. iff.0 (c.default_taken.ensures.0 yes), λ path. c.default_taken.ensures.1 (iff.1 path))
