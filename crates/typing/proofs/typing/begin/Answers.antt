use Rattle.std.proofs.Common.{List, Option, sym, subst, [], ◌∷◌}
use Rattle.std.proofs.lemmas.Option.{slice_get_within}
use Rattle.typing.specs.Levels.{IsBegun, IsUnlooked, IsLevel}
use Rattle.typing.specs.declared.joined.Joined.{Joined}
use Rattle.typing.proofs.Begin.{starts_at, begun_level}
use Rattle.typing.proofs.typing.begin.Goals as goal

pub entered-requires : goal.entered-requires
entered-requires c = let start = starts_at c.args.method.now.listing c.requires.by_pc c.requires.start in slice_get_within _ _ start.0 start.1

pub refuse_entry-requires-clause-begun : goal.refuse_entry-requires-clause-begun
refuse_entry-requires-clause-begun c =
    subst (IsBegun c.args.method.now) (sym c.deref.ensures.value) (record { long = c.in-Ok.ensures.long; first = c.in-Ok.ensures.first; others = c.in-Ok.ensures.others })

pub refuse-requires-clause-level : goal.refuse-requires-clause-level
refuse-requires-clause-level c = (
  0,
  begun_level c.args.method.now _ c.requires.by_pc c.requires.start
      (subst (IsBegun c.args.method.now) (sym c.deref-2.ensures.value) (record { long = c.in-Ok.ensures.long; first = c.in-Ok.ensures.first; others = c.in-Ok.ensures.others }))
      c.in-Ok-refuse_entry.ensures.ok,
)

pub returns-in-Ok-refuse-clause-ok : goal.returns-in-Ok-refuse-clause-ok
returns-in-Ok-refuse-clause-ok c =
    let P : List (Option Joined) → Type 0 = λ xs. IsUnlooked c.args.method.now 0 xs (0 ∷ []) → IsLevel c.args.method.now 0 xs (0 ∷ []) in
    subst P c.deref-2.ensures.value (c.in-Ok-refuse.ensures.ok 0)
    (begun_level c.args.method.now _ c.requires.by_pc c.requires.start (record { long = c.in-Ok.ensures.long; first = c.in-Ok.ensures.first; others = c.in-Ok.ensures.others }) c.in-Ok-refuse_entry.ensures.ok)
