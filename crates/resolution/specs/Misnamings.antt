-- Why an instruction was refused.
use Rattle.std.specs.Prelude.{◌≡◌, Result, Ok, Err, ⊤}
use Rattle.resolution.specs.Resolution.{Resolved, Names, Unknown, Forbidden, Final}
use Rattle.resolution.specs.declared.refusal.Misnamed.{Misnamed}
use Rattle.resolution.specs.declared.refusal.Misnamed.TheVariants as misnamed
use Rattle.resolution.specs.declared.target.Target.{Target}

-- the refusal of what an instruction names; want of memory has no cause
abbrev pub IsMisnamed : Resolved → Misnamed → Type 0
IsMisnamed r (misnamed.Unknown name) = r ≡ Unknown name
IsMisnamed r (misnamed.Forbidden name) = r ≡ Forbidden name
IsMisnamed r misnamed.Final = r ≡ Final
IsMisnamed r misnamed.Memory = ⊤

-- the answer is what an instruction names, or its refusal
abbrev pub Tells : Resolved → Result Target Misnamed → Type 0
Tells r (Ok t) = r ≡ Names t
Tells r (Err why) = IsMisnamed r why
