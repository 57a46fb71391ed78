-- How the code meets the stack.
use Rattle.std.specs.Prelude.{◌≡◌, List}
use Rattle.program.specs.declared.value_type.ValueType.{ValueType}
use Rattle.typing.specs.Changes.{Meeting, Misfits, NoLock, Changes}
use Rattle.typing.specs.declared.change.Changed.{Changed}
use Rattle.typing.specs.declared.change.Misfit.{Misfit}
use Rattle.typing.specs.declared.change.Misfit.TheVariants as misfit

-- the change that the code's answer means, with the stack that it leaves
abbrev pub IsChange : Meeting → List ValueType → Changed → Type 0
IsChange m stack c = m ≡ Changes (record { stack = stack; local = c.local; held = c.held; thread = c.thread })

-- the answer is the right one; want of memory says nothing
abbrev pub IsMisfit : Meeting → Misfit → Type 0
IsMisfit m misfit.Operands = m ≡ Misfits
IsMisfit m misfit.NoLock = m ≡ NoLock
IsMisfit m misfit.Memory = Unit {0}
