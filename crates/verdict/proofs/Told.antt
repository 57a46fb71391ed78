-- From what was found out and put to what the status tells.
use Rattle.std.proofs.Common.{◌≡◌, ℕ, Bool, true, false, List, [], Option, Result, Ok, Err, IfOk, IfErr, refl, subst, sym, ap, ◌∙◌, ◌⊎◌, inl, inr}
use Rattle.class_files.specs.Input.{Contents}
use Rattle.class_files.specs.declared.refusal.InputRefusal.{InputRefusal}
use Rattle.class_files.specs.declared.refusal.InputRefusal.TheVariants as input
use Rattle.class_format.specs.Laws.{OneRecord, TextOrFault}
use Rattle.line_text.specs.declared.command.Command.TheVariants.{Decide, Show}
use Rattle.linking.specs.Laws.{OneProgram, ProgramOrRefusal}
use Rattle.linking.specs.declared.refusal.ProgramRefusal.{ProgramRefusal}
use Rattle.linking.specs.declared.refusal.ProgramRefusal.TheVariants as program
use Rattle.ports.specs.Faults.{Rose}
use Rattle.ports.specs.Growth.{Grows, SameContents}
use Rattle.program.specs.Program.{Prog}
use Rattle.straight_check.specs.StraightProgram.{IsStraightProgram}
use Rattle.verdict.proofs.Commands.{from_decide, from_show, not_both, not_unbuilt_decide, not_unbuilt_show}
use Rattle.verdict.proofs.Inputs.{not_format, not_limited, not_program, same_program}
use Rattle.verdict.specs.Answers.{DecideGoesWell, IsAnswered, IsLimited, IsListingOrMemory, IsReadFault, IsRefused, IsShown, IsUsage, IsVerdictOrMemory, LeavesFiles, ShowGoesWell, by_bytes, by_command, by_format, by_limit, by_program}
use Rattle.verdict.specs.Commands.{AsksNoDecide, decide_classes, seq_place, show_classes}
use Rattle.verdict.specs.OutputText.{verdict_lines}
use Rattle.verdict.specs.Reports.{PutsText, failed, whole, status_of, status_of_verdict, text_of}
use Rattle.verdict.specs.Stops.{IsNotBuilt, IsStopped, status_of_input, status_of_program, status_of_stop}
use Rattle.verdict.specs.Verdicts.{AnswerLeaves, IsAnswer, IsVerdict, SameButSeq}
use Rattle.verdict.specs.declared.answer.Answer.{Answer}
use Rattle.verdict.specs.declared.answer.Answer.TheVariants as answer
use Rattle.verdict.specs.declared.decide.Verdict.{Verdict}
use Rattle.verdict.specs.declared.status.Status.{Status}
use Rattle.verdict.specs.declared.status.Status.TheVariants.{Allowed, Forbidden, Shown, Usage, Refused, Limit, ReadFault, WriteFault, Memory}
use Rattle.verdict.specs.declared.stop.Stop.{Stop}
use Rattle.verdict.specs.declared.stop.Stop.TheVariants as stop

module _ (words : List (List ℕ)) (old new : Contents) (r s w x p q : ℕ) (held now : Option (List ℕ)) where
  -- what a status tells
  abbrev pub Tells : Status → Type 0
  Tells Allowed = IsAnswered true words old new held now
  Tells Forbidden = IsAnswered false words old new held now
  Tells Shown = IsShown words old held now
  Tells Usage = IsUsage words held now
  Tells Refused = IsRefused words old held now
  Tells Limit = IsLimited words old held now
  Tells ReadFault = IsReadFault words old r s held now
  Tells WriteFault = Rose w x ⊎ Rose p q
  Tells Memory = Grows held now []

  -- ---- From what was found out

  answered : (v : Verdict) → IsVerdict words old new v → Grows held now (verdict_lines v.allowed v.bounds v.whole v.budget) → IsAnswered v.allowed words old new held now
  answered v is grows = record {
    question = is.question;
    asks = is.asks;
    seq = is.verdict.seq;
    is_seq = is.verdict.is_seq;
    whole = v.whole;
    decided = is.verdict.decided;
    lines = subst (λ (text : List ℕ). Grows held now text)
        (ap (λ b. verdict_lines v.allowed b v.whole v.budget) is.verdict.bounds ∙ ap (λ n. verdict_lines v.allowed is.question.bounds v.whole n) is.verdict.budget) grows;
  }

  by_verdict : (allowed : Bool) → IsAnswered allowed words old new held now → Tells (status_of_verdict allowed)
  by_verdict true is = is
  by_verdict false is = is

  by_input : (refusal : InputRefusal) → IsStopped words old r s w x (stop.Input refusal) → Grows held now (text_of (Err (stop.Input refusal))) → Tells (status_of_input refusal)
  by_input (input.ReadFault word) is grows = record { from = is.from; names = is.names; word = word; unread = is.reason; line = grows }
  by_input (input.TooLong word) is grows = by_bytes (record { from = is.from; names = is.names; word = word; too_long = is.reason; line = grows })
  by_input (input.Format word kind place) is grows =
      by_format (record { from = is.from; names = is.names; word = word; kind = kind; place = place; misformed = is.reason; line = grows })
  by_input (input.Program (program.Class kind class)) is grows = by_program (record {
    from = is.from;
    names = is.names;
    refusal = program.Class kind class;
    unlinked = is.reason;
    no_limit = λ other e. cc;
    line = grows;
  })
  by_input (input.Program (program.Code kind method pc detail)) is grows = by_program (record {
    from = is.from;
    names = is.names;
    refusal = program.Code kind method pc detail;
    unlinked = is.reason;
    no_limit = λ other e. cc;
    line = grows;
  })
  by_input (input.Program (program.Typing kind method pc)) is grows = by_program (record {
    from = is.from;
    names = is.names;
    refusal = program.Typing kind method pc;
    unlinked = is.reason;
    no_limit = λ other e. cc;
    line = grows;
  })
  by_input (input.Program (program.Limit kind)) is grows = by_limit (record { from = is.from; names = is.names; kind = kind; unlinked = is.reason; line = grows })
  by_input (input.Program program.Memory) is grows = grows
  by_input input.Memory is grows = grows

  by_stop : (why : Stop) → IsStopped words old r s w x why → Grows held now (text_of (Err why)) → Tells (status_of_stop why)
  by_stop (stop.Usage word) is grows = record { word = word; fault = is; line = grows }
  by_stop (stop.Input refusal) is grows = by_input refusal is grows
  by_stop stop.NotBuilt is grows = by_command (record { not_built = is; line = grows })
  by_stop stop.WriteFault is grows = inl is
  by_stop stop.Memory is grows = grows

  by_found : (found : Result Answer Stop) → IfOk found (IsAnswer words old new) → IfErr found (IsStopped words old r s w x) → Grows held now (text_of found) → Tells (status_of found)
  by_found (Ok (answer.Decided v)) is why grows = by_verdict v.allowed (answered v is grows)
  by_found (Ok (answer.Shown linked)) is why grows = record { asks = is.asks; linked = linked; is_linked = is.is_linked; listing = grows }
  by_found (Err why) is cause grows = by_stop why cause grows

  -- what was put, or could not be, is what the status tells
  pub tells : (found : Result Answer Stop) (result : Status) → IfOk found (IsAnswer words old new) → IfErr found (IsStopped words old r s w x) →
      PutsText (text_of found) (status_of found) result held now p q → Tells result
  tells found result is why (whole status grows) = subst Tells (sym status) (by_found found is why grows)
  tells found result is why (failed status rose) = subst Tells (sym status) (inr rose)

  -- the same of a known status
  pub tells_of : (status : Status) (found : Result Answer Stop) (result : Status) → IfOk found (IsAnswer words old new) → IfErr found (IsStopped words old r s w x) →
      PutsText (text_of found) (status_of found) result held now p q → result ≡ status → Tells status
  tells_of status found result is why puts same = subst Tells same (tells found result is why puts)

  -- ---- Where all goes well

  no_decide_refusal : OneRecord → TextOrFault → OneProgram → ProgramOrRefusal → DecideGoesWell words old r s w x p q → IsRefused words old held now → ⊥
  no_decide_refusal one text only program well (by_format f) =
      not_format words old decide_classes well.linked well.links (from_decide words well.question well.asks) held now text f
  no_decide_refusal one text only program well (by_program f) =
      not_program words old decide_classes well.linked well.links (from_decide words well.question well.asks) held now one program f
  no_decide_refusal one text only program well (by_command f) = not_refused f.not_built
    where
      not_refused : IsNotBuilt words old → ⊥
      not_refused (inl unbuilt) = not_unbuilt_decide words well.question well.asks unbuilt
      not_refused (inr n) = n.not_straight (subst (λ (prog : Prog). IsStraightProgram prog)
          (sym (same_program words old decide_classes well.linked well.links one only n.linked n.is_linked)) well.straight)

  pub complete_decide : OneRecord → TextOrFault → OneProgram → ProgramOrRefusal → (status : Status) → Tells status → DecideGoesWell words old r s w x p q → IsVerdictOrMemory status
  complete_decide one text only program Allowed told well = tt
  complete_decide one text only program Forbidden told well = tt
  complete_decide one text only program Shown told well = not_both words well.question well.asks told.asks
  complete_decide one text only program Usage told well = told.fault.fault (Decide well.question.bounds well.question.budget well.question.outcome seq_place 6 decide_classes) well.asks
  complete_decide one text only program Refused told well = no_decide_refusal one text only program well told
  complete_decide one text only program Limit told well =
      not_limited words old decide_classes well.linked well.links (from_decide words well.question well.asks) held now one program told
  complete_decide one text only program ReadFault told well = well.none_rose.no_read_fault told.unread.rose
  complete_decide one text only program WriteFault (inl rose) well = well.none_rose.no_write_fault rose
  complete_decide one text only program WriteFault (inr rose) well = well.none_rose.no_output_fault rose
  complete_decide one text only program Memory told well = tt

  no_show_refusal : OneRecord → TextOrFault → ProgramOrRefusal → ShowGoesWell words old r s w x p q → IsRefused words old held now → ⊥
  no_show_refusal one text program well (by_format f) = not_format words old show_classes well.linked well.links (from_show words well.asks) held now text f
  no_show_refusal one text program well (by_program f) = not_program words old show_classes well.linked well.links (from_show words well.asks) held now one program f
  no_show_refusal one text program well (by_command f) = not_refused f.not_built
    where
      not_refused : IsNotBuilt words old → ⊥
      not_refused (inl unbuilt) = not_unbuilt_show words well.asks unbuilt
      not_refused (inr n) = not_both words n.question n.asks well.asks

  pub complete_show : OneRecord → TextOrFault → ProgramOrRefusal → (status : Status) → Tells status → ShowGoesWell words old r s w x p q → IsListingOrMemory status
  complete_show one text program Allowed told well = not_both words told.question told.asks well.asks
  complete_show one text program Forbidden told well = not_both words told.question told.asks well.asks
  complete_show one text program Shown told well = tt
  complete_show one text program Usage told well = told.fault.fault (Show show_classes) well.asks
  complete_show one text program Refused told well = no_show_refusal one text program well told
  complete_show one text program Limit told well = not_limited words old show_classes well.linked well.links (from_show words well.asks) held now one program told
  complete_show one text program ReadFault told well = well.none_rose.no_read_fault told.unread.rose
  complete_show one text program WriteFault (inl rose) well = well.none_rose.no_write_fault rose
  complete_show one text program WriteFault (inr rose) well = well.none_rose.no_output_fault rose
  complete_show one text program Memory told well = tt

-- ---- Files

module _ (words : List (List ℕ)) (old new : Contents) (others : SameButSeq words old new) (no_decide : AsksNoDecide words → SameContents old new) where
  verdict_leaves : (allowed : Bool) → (allowed ≡ false → SameContents old new) → LeavesFiles (status_of_verdict allowed) words old new
  verdict_leaves true same = others
  verdict_leaves false same = same refl

  program_leaves : (refusal : ProgramRefusal) → SameContents old new → LeavesFiles (status_of_program refusal) words old new
  program_leaves (program.Class kind class) same = same
  program_leaves (program.Code kind method pc detail) same = same
  program_leaves (program.Typing kind method pc) same = same
  program_leaves (program.Limit kind) same = same
  program_leaves program.Memory same = same

  input_leaves : (refusal : InputRefusal) → SameContents old new → LeavesFiles (status_of_input refusal) words old new
  input_leaves (input.ReadFault word) same = same
  input_leaves (input.TooLong word) same = same
  input_leaves (input.Format word kind place) same = same
  input_leaves (input.Program refusal) same = program_leaves refusal same
  input_leaves input.Memory same = same

  found_leaves : (found : Result Answer Stop) → AnswerLeaves found old new → LeavesFiles (status_of found) words old new
  found_leaves (Ok (answer.Decided v)) same = verdict_leaves v.allowed same
  found_leaves (Ok (answer.Shown linked)) same = same
  found_leaves (Err (stop.Usage word)) same = same
  found_leaves (Err (stop.Input refusal)) same = input_leaves refusal same
  found_leaves (Err stop.NotBuilt) same = same
  found_leaves (Err stop.WriteFault) same = (others, no_decide)
  found_leaves (Err stop.Memory) same = same

  -- which files may have changed
  pub leaves : (found : Result Answer Stop) (result : Status) (held now : Option (List ℕ)) (p q : ℕ) → AnswerLeaves found old new →
      PutsText (text_of found) (status_of found) result held now p q → LeavesFiles result words old new
  leaves found result held now p q same (whole status grows) = subst (λ (s : Status). LeavesFiles s words old new) (sym status) (found_leaves found same)
  leaves found result held now p q same (failed status rose) = subst (λ (s : Status). LeavesFiles s words old new) (sym status) (others, no_decide)
