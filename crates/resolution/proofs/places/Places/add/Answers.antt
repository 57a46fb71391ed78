-- What was not there is there now.
use Rattle.std.proofs.Common.{◌∙◌, sym}
use Rattle.resolution.specs.Tables.{place_of}
use Rattle.resolution.specs.declared.places.Key.{Key}
use Rattle.resolution.proofs.Adding.{added, none_of}
use Rattle.resolution.proofs.places.Places.add.Goals as goal

-- src/places.rt:43:5
pub returns-in-Ok-clause-added : goal.returns-in-Ok-clause-added
returns-in-Ok-clause-added c n d =
    let q : Key = record { name = record c.args.name { now = n }; descriptor = record c.args.descriptor { now = d } } in
    added (place_of c.args.self.now) c.args.name.now c.args.descriptor.now n d c.args.place _ (sym c.get.ensures.value ∙ none_of c.get.result c.is_some.result c.is_some.ensures c.if-is_some.false) (c.in-Ok.ensures.updates.0 q)
