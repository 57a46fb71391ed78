-- The attributes before this one are none with code.
use Rattle.std.proofs.Common.{◌≡◌, drop}
use Rattle.class_names.specs.Members.{body_of, first_body}
use Rattle.class_names.proofs.members.body_of.Given as goal

abbrev pub invariant-loop-attribute : goal.invariant-loop-attribute
invariant-loop-attribute l = first_body (drop l.attribute-index l.method.attributes) ≡ body_of l.method
