-- The tests over the keys are those over the texts.
use Rattle.std.proofs.Common.{ℕ, not, List, map, sym, ap, ◌∙◌, Bor}
use Rattle.std.specs.List.{list_any, position_or_len}
use Rattle.class_names.specs.Names.{same_text}
use Rattle.class_profile.proofs.Texts.{any_map, first_map, added_map}
use Rattle.class_profile.specs.Texts.{with_text}
use Rattle.class_profile.proofs.text_set.TextSet.add.Goals as goal
use Rattle.class_profile.proofs.text_set.TextSet.add.Goals.{in-Ok, in-Err}

pub returns-clause-number : goal.returns-clause-number
returns-clause-number c =
    elim c.match-insert_full.branch [
      | in-Ok w ↦ rw w.result-is (w.in-Ok.ensures.index
          ∙ sym (first_map (same_text c.args.text.now) (λ text. text.now) c.self.inside.texts.keys)
          ∙ ap (λ (texts : List (List ℕ)). position_or_len (same_text c.args.text.now) texts) c.self.view_is)
      | in-Err w ↦ rw w.result-is tt
    ]

pub returns-clause-is_new : goal.returns-clause-is_new
returns-clause-is_new c =
    elim c.match-insert_full.branch [
      | in-Ok w ↦ rw w.result-is (w.in-Ok.ensures.added
          ∙ ap not (sym (any_map (same_text c.args.text.now) (λ text. text.now) c.self.inside.texts.keys)
          ∙ ap (λ (texts : List (List ℕ)). list_any (same_text c.args.text.now) texts) c.self.view_is))
      | in-Err w ↦ rw w.result-is tt
    ]

pub returns-clause-texts : goal.returns-clause-texts
returns-clause-texts c =
    elim c.match-insert_full.branch [
      | in-Ok w ↦ rw w.result-is (ap (λ (keys : List (Bor (List ℕ))). map (λ text. text.now) keys) w.in-Ok.ensures.keys
          ∙ added_map (λ (text : Bor (List ℕ)). text.now) c.args.text c.self.inside.texts.keys
          ∙ ap (λ (texts : List (List ℕ)). with_text texts c.args.text.now) c.self.view_is)
      | in-Err w ↦ rw w.result-is tt
    ]
