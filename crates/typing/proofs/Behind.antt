-- What is kept behind an instruction depends only on what functions say at each number.
use Rattle.std.proofs.Common.{◌≡◌, ℕ, Option, ap}
use Rattle.typing.specs.Changes.{held_behind}
use Rattle.typing.specs.Joining.{joined_locals_behind, stages_behind}
use Rattle.typing.specs.declared.change.LocalChange.{LocalChange}
use Rattle.typing.specs.declared.change.HeldChange.{HeldChange}
use Rattle.typing.specs.declared.change.ThreadChange.{ThreadChange}
use Rattle.typing.specs.declared.joined_type.JoinedType.{JoinedType}
use Rattle.typing.specs.declared.stage.Stage.{Stage}

-- functions that are equal everywhere are equal
pub everywhere : {A B : Type 0} (f g : A → B) → ((x : A) → f x ≡ g x) → f ≡ g
everywhere f g h = λ i x. h x i

pub locals_behind_same : (c : LocalChange) (f g : ℕ → Option JoinedType) → ((q : ℕ) → f q ≡ g q) → (q : ℕ) → joined_locals_behind c f q ≡ joined_locals_behind c g q
locals_behind_same c f g h q = ap (λ k. joined_locals_behind c k q) (everywhere f g h)

pub held_behind_same : (c : HeldChange) (f g : ℕ → ℕ) → ((q : ℕ) → f q ≡ g q) → (q : ℕ) → held_behind c f q ≡ held_behind c g q
held_behind_same c f g h q = ap (λ k. held_behind c k q) (everywhere f g h)

pub stages_behind_same : (c : ThreadChange) (f g : ℕ → Stage) → ((q : ℕ) → f q ≡ g q) → (q : ℕ) → stages_behind c f q ≡ stages_behind c g q
stages_behind_same c f g h q = ap (λ k. stages_behind c k q) (everywhere f g h)
