-- One more identifier, or one that was there.
use Rattle.std.proofs.Common.{◌≡◌, ◌↔◌, ◌++◌, [], ◌∷◌, List, ℕ, Some, Contains, IsTrue, subst}
use Rattle.entry_tables.specs.Added.{IsAdded}
use Rattle.entry_tables.proofs.Keys.{is_new, id_added, id_last}
use Rattle.entry_tables.proofs.id_set.IdSet.add.Goals as goal
use Rattle.entry_tables.proofs.id_set.IdSet.add.Goals.{in-Ok, in-Err}

pub returns-clause-new : goal.returns-clause-new
returns-clause-new c = elim c.match-insert_full.branch [
  | in-Ok w ↦ rw w.result-is (subst (λ (keys : List ℕ). IsTrue w.in-Ok.added ↔ (Contains keys c.args.id → ⊥)) c.self.view_is (is_new c.self.inside.set.keys c.args.id w.in-Ok.added w.in-Ok.ensures.added))
  | in-Err w ↦ rw w.result-is tt
]

pub returns-clause-members : goal.returns-clause-members
returns-clause-members c = elim c.match-insert_full.branch [
  | in-Ok w ↦ rw w.result-is (subst (λ (keys : List ℕ). IsAdded keys (Some c.args.id) c.insert_full.new.self.keys) c.self.view_is (id_added c.self.inside.set.keys c.insert_full.new.self.keys c.args.id w.in-Ok.ensures.keys))
  | in-Err w ↦ rw w.result-is tt
]

pub returns-clause-last : goal.returns-clause-last
returns-clause-last c = elim c.match-insert_full.branch [
  | in-Ok w ↦ rw w.result-is (subst (λ (keys : List ℕ). (Contains keys c.args.id → ⊥) → c.insert_full.new.self.keys ≡ keys ++ c.args.id ∷ []) c.self.view_is (id_last c.self.inside.set.keys c.insert_full.new.self.keys c.args.id w.in-Ok.ensures.keys))
  | in-Err w ↦ rw w.result-is tt
]
