use Rattle.std.proofs.Common.{◌≡◌, ◌∙◌, ℕ, Contains, inl, inr, sym, subst}
use Rattle.std.proofs.lemmas.Option.{same_Some}
use Rattle.opcodes.specs.declared.listed.Listed.{Listed}
use Rattle.typing.specs.Levels.{IsArrival, StepsFrom}
use Rattle.typing.proofs.Arrivals.{from_arrives}
use Rattle.typing.proofs.level.leave.Goals as goal
use Rattle.std.specs.List.{slice_get}
use Rattle.std.specs.Prelude.{Some, List}

pub returns-in-Ok-clause-sound : goal.returns-in-Ok-clause-sound
returns-in-Ok-clause-sound c = λ all k d lt.
    let P : List Listed → Type 0 = λ xs. slice_get xs c.args.from ≡ Some c.in-Some.at.now in
    let Q : List Listed → Type 0 = λ xs. (to : ℕ) → Contains c.in_ok-to.to.items to → StepsFrom xs c.in-Some.at.now to in
    let R : List ℕ → Type 0 = λ xs. (to : ℕ) → Contains xs to → StepsFrom c.args.method.now.listing c.in-Some.at.now to in
    let steps = subst R (sym c.deref.ensures.value) (subst Q c.as_slice-listing.ensures.items (λ to has. (c.in_ok-to.ensures to).0 has)) in
    elim (c.in-Ok.ensures.others k d lt) [
      | inl old ↦ subst (IsArrival c.args.method.now c.args.states.now) old.2 (all old.0 _ old.1)
      | inr new ↦ from_arrives c.args.method.now c.args.states.now c.args.from c.in-Some.at.now _ c.in_ok-next.next _ c.requires.advancing.inside
          (subst P c.as_slice-listing.ensures.items (sym c.in-Some.ensures)) steps c.in_ok-next.ensures new
    ]

pub returns-in-Ok-clause-whole : goal.returns-in-Ok-clause-whole
returns-in-Ok-clause-whole c = λ to steps.
    let P : List Listed → Type 0 = λ xs. slice_get xs c.args.from ≡ Some c.in-Some.at.now in
    let listed = subst P c.as_slice-listing.ensures.items (sym c.in-Some.ensures) in
    let same : steps.0 ≡ c.in-Some.at.now = same_Some _ _ (sym steps.1 ∙ listed) in
    let Q : List Listed → Type 0 = λ xs. StepsFrom xs c.in-Some.at.now to in
    let R : Listed → Type 0 = λ x. StepsFrom c.args.method.now.listing x to in
    let S : List ℕ → Type 0 = λ xs. Contains xs to in
    c.in-Ok.ensures.added to (subst S (sym c.deref.ensures.value) ((c.in_ok-to.ensures to).1 (subst Q (sym c.as_slice-listing.ensures.items) (subst R same steps.2))))
