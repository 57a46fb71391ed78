-- Lists of references.
use Rattle.std.specs.Prelude.{List, map}
use Rattle.std.specs.Borrow.{Bor}
use Rattle.action_orders.specs.declared.action.Entry.{Entry}

-- what the references refer to
abbrev pub seen : List (Bor Entry) → List Entry
seen refs = map (λ r. r.now) refs
