-- The steps that were added are those of the sequence.
use Rattle.std.proofs.Common.{◌≡◌, List, [], ◌∷◌, ◌++◌, ◌∙◌, ap, subst, Bool, true, false, if◌then◌else◌}
use Rattle.std.specs.List.{list_any}
use Rattle.program.specs.Program.{Prog}
use Rattle.program.specs.declared.method.Method.{Method}
use Rattle.action_orders.specs.declared.action.ActionRef.{ActionRef}
use Rattle.action_orders.specs.declared.action.Entry.{Entry}
use Rattle.action_orders.specs.declared.sequence.SequenceStep.{SequenceStep}
use Rattle.action_orders.specs.Laws.{in_one_step, in_two_steps}
use Rattle.straight.specs.Laws.{is_read, all_ids, unread_ids, sequence_of}
use Rattle.straight.specs.Meaning.{execution_of, main_entries}

abbrev reads : List Entry → Bool
reads es = list_any (λ n. is_read n.action.kind) es

abbrev step_of : Prog → Method → List ActionRef → SequenceStep
step_of p m set = record { set = set; execution = execution_of p m }

abbrev steps_of : Prog → Method → List ActionRef → List Entry → Bool → List SequenceStep
steps_of p m defaults es b =
    if b then in_two_steps (execution_of p m) (defaults ++ unread_ids es) (defaults ++ all_ids es) else in_one_step (execution_of p m) (defaults ++ all_ids es)

pub record AreAdded (p : Prog) (m : Method) (defaults : List ActionRef) (es : List Entry) (start first last : List SequenceStep) : Type 0 where
  pub set : List ActionRef
  pub set' : List ActionRef
  pub ids : List ActionRef
  pub main : es ≡ main_entries p m
  pub empty : start ≡ []
  pub same : set ≡ defaults
  pub same' : set' ≡ defaults
  pub all : ids ≡ all_ids es
  pub unread : first ≡ (if (list_any (λ n. is_read n.action.kind) es) then start ++ record { set = set ++ unread_ids es; execution = execution_of p m } ∷ [] else start)
  pub joined : last ≡ first ++ record { set = set' ++ ids; execution = execution_of p m } ∷ []

pub whole_sequence : (p : Prog) (m : Method) (defaults : List ActionRef) (es : List Entry) (start first last : List SequenceStep) → AreAdded p m defaults es start first last → last ≡ sequence_of p m defaults
whole_sequence p m defaults es start first last h = subst (λ (xs : List Entry). last ≡ steps_of p m defaults xs (reads xs)) h.main (go (reads es) first_is)
  where
    first_is : first ≡ (if reads es then step_of p m (defaults ++ unread_ids es) ∷ [] else [])
    first_is = subst (λ (ds : List ActionRef). first ≡ (if reads es then step_of p m (ds ++ unread_ids es) ∷ [] else [])) h.same
        (subst (λ (s : List SequenceStep). first ≡ (if reads es then s ++ step_of p m (h.set ++ unread_ids es) ∷ [] else s)) h.empty h.unread)

    last_is : last ≡ first ++ step_of p m (defaults ++ all_ids es) ∷ []
    last_is = h.joined ∙ ap (λ (ds : List ActionRef). first ++ step_of p m (ds ++ h.ids) ∷ []) h.same' ∙ ap (λ (xs : List ActionRef). first ++ step_of p m (defaults ++ xs) ∷ []) h.all

    go : (b : Bool) → first ≡ (if b then step_of p m (defaults ++ unread_ids es) ∷ [] else []) → last ≡ steps_of p m defaults es b
    go true e = last_is ∙ ap (λ (s : List SequenceStep). s ++ step_of p m (defaults ++ all_ids es) ∷ []) e
    go false e = last_is ∙ ap (λ (s : List SequenceStep). s ++ step_of p m (defaults ++ all_ids es) ∷ []) e
