use Rattle.std.proofs.Common.{◌++◌, List, [], ◌∷◌, All, Bool, true, false, if◌then◌else◌, zero, suc, arith}
use Rattle.std.proofs.lemmas.List.Elements.{All-append}
use Rattle.std.specs.Result.{is_ok}
use Rattle.program.specs.Program.{IsSpeltVariable}
use Rattle.program.specs.declared.program.Variable.{Variable}
use Rattle.program.proofs.program.Program.add_variable.Goals as goal

one : (v : Variable) → IsSpeltVariable v → All IsSpeltVariable (v ∷ [])
one v h zero d within = h
one v h (suc k) d within = absurd (omega (arith, within))

spelt_if : (added : Bool) (variables : List Variable) (v : Variable) → All IsSpeltVariable variables → IsSpeltVariable v →
    All IsSpeltVariable (if added then variables ++ v ∷ [] else variables)
spelt_if true variables v all h = All-append IsSpeltVariable variables (v ∷ []) all (one v h)
spelt_if false variables v all h = all

pub invariant_of-self : goal.invariant_of-self
invariant_of-self c = rw (c.push.ensures.items) (
  record {
    spelt = spelt_if (is_ok c.push.result) c.self.inside.variables.items c.args.variable c.self.invariant.0.spelt c.requires;
    operands = c.self.invariant.0.operands;
    distinct = c.self.invariant.0.distinct;
    threads = c.self.invariant.0.threads;
  },
  c.self.invariant.1,
)
