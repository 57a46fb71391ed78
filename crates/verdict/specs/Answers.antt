-- The answers of the top call, each with its cause and its lines. What files hold is claimed where they tell it.
use Rattle.std.specs.Prelude.{◌≡◌, ◌<◌, ◌≤◌, ℕ, Bool, List, Option, Some, length, codes, ⊤}
use Rattle.class_files.specs.Input.{Contents, IsLinked, IsMisformed, IsTooLong, IsUnlinked, IsUnread, limit}
use Rattle.class_files.specs.declared.linked.Linked.{Linked}
use Rattle.line_text.specs.CommandLine.{IsUsageAt}
use Rattle.linking.specs.declared.refusal.ProgramRefusal.{ProgramRefusal}
use Rattle.linking.specs.declared.refusal.ProgramRefusal.TheVariants as program
use Rattle.ports.specs.Faults.{Rose}
use Rattle.ports.specs.Growth.{Grows, SameContents}
use Rattle.program_listing.specs.ListingText.{listing_text}
use Rattle.straight_check.specs.StraightProgram.{IsStraightProgram}
use Rattle.untyped_program.specs.declared.refusal.LimitKind.{LimitKind}
use Rattle.verdict.specs.declared.request.Question.{Question}
use Rattle.verdict.specs.declared.status.Status.{Status}
use Rattle.verdict.specs.declared.status.Status.TheVariants.{Allowed, Forbidden, Shown, WriteFault, Memory}
use Rattle.verdict.specs.Commands.{AsksDecide, AsksNoDecide, AsksShow, IsWord, NamesClasses, decide_classes, seq_place, show_classes}
use Rattle.verdict.specs.Judging.{IsDecided}
use Rattle.verdict.specs.KindNames.{greatest_of, name_of_limit_kind}
use Rattle.verdict.specs.OutputText.{format_line, limit_line, not_built_line, program_line, read_fault_line, usage_line, verdict_lines}
use Rattle.verdict.specs.Stops.{IsNotBuilt}
use Rattle.verdict.specs.Verdicts.{SameButSeq}

-- the words ask a question, this is its answer, and the output has grown by its lines
pub record IsAnswered (allowed : Bool) (words : List (List ℕ)) (old new : Contents) (held_old held_new : Option (List ℕ)) : Type 0 where
  pub question : Question
  pub asks : AsksDecide words question
  pub seq : List ℕ
  pub is_seq : IsWord words seq_place seq
  pub whole : Bool
  pub decided : IsDecided words question old allowed whole (new seq)
  pub lines : Grows held_old held_new (verdict_lines allowed question.bounds whole question.budget)

-- the words are those of `show`, and the output has grown by the listing of the program of their class files
pub record IsShown (words : List (List ℕ)) (old : Contents) (held_old held_new : Option (List ℕ)) : Type 0 where
  pub asks : AsksShow words
  pub linked : Linked
  pub is_linked : IsLinked words old show_classes linked
  pub listing : Grows held_old held_new (listing_text linked.classes linked.program)

-- no command has these words, and the output has grown by the line of the word at fault
pub record IsUsage (words : List (List ℕ)) (held_old held_new : Option (List ℕ)) : Type 0 where
  pub word : ℕ
  pub fault : IsUsageAt words word
  pub line : Grows held_old held_new (usage_line word)

-- ---- Refusals

-- the file of a class word is no class file
pub record RefusesFormat (words : List (List ℕ)) (old : Contents) (held_old held_new : Option (List ℕ)) : Type 0 where
  pub from : ℕ
  pub names : NamesClasses words from
  pub word : ℕ
  pub kind : ℕ
  pub place : ℕ
  pub misformed : IsMisformed words old from word kind place
  pub line : Grows held_old held_new (format_line word kind place)

-- a refusal that is no limit
abbrev pub IsNoLimit : ProgramRefusal → Type 0
IsNoLimit refusal = (kind : LimitKind) → refusal ≡ program.Limit kind → ⊥

-- the classes make no program
pub record RefusesProgram (words : List (List ℕ)) (old : Contents) (held_old held_new : Option (List ℕ)) : Type 0 where
  pub from : ℕ
  pub names : NamesClasses words from
  pub refusal : ProgramRefusal
  pub unlinked : IsUnlinked words old from refusal
  pub no_limit : IsNoLimit refusal
  pub line : Grows held_old held_new (program_line refusal)

-- the command is not built, or not for a program that is not straight
pub record RefusesUnbuilt (words : List (List ℕ)) (old : Contents) (held_old held_new : Option (List ℕ)) : Type 0 where
  pub not_built : IsNotBuilt words old
  pub line : Grows held_old held_new not_built_line

-- refused for one of the three, with its line
pub data IsRefused (words : List (List ℕ)) (old : Contents) (held_old held_new : Option (List ℕ)) : Type 0 where
  by_format : RefusesFormat words old held_old held_new → IsRefused words old held_old held_new
  by_program : RefusesProgram words old held_old held_new → IsRefused words old held_old held_new
  by_command : RefusesUnbuilt words old held_old held_new → IsRefused words old held_old held_new

-- ---- Limits

-- the file of a class word is too long
pub record PassesBytes (words : List (List ℕ)) (old : Contents) (held_old held_new : Option (List ℕ)) : Type 0 where
  pub from : ℕ
  pub names : NamesClasses words from
  pub word : ℕ
  pub too_long : IsTooLong words old from word
  pub line : Grows held_old held_new (limit_line (codes "ClassBytes") limit)

-- the program passes a limit
pub record PassesLimit (words : List (List ℕ)) (old : Contents) (held_old held_new : Option (List ℕ)) : Type 0 where
  pub from : ℕ
  pub names : NamesClasses words from
  pub kind : LimitKind
  pub unlinked : IsUnlinked words old from (program.Limit kind)
  pub line : Grows held_old held_new (limit_line (name_of_limit_kind kind) (greatest_of kind))

-- one of the two, with its line
pub data IsLimited (words : List (List ℕ)) (old : Contents) (held_old held_new : Option (List ℕ)) : Type 0 where
  by_bytes : PassesBytes words old held_old held_new → IsLimited words old held_old held_new
  by_limit : PassesLimit words old held_old held_new → IsLimited words old held_old held_new

-- ---- Faults

-- the file of a class word can't be read: the count of read faults rose
pub record IsReadFault (words : List (List ℕ)) (old : Contents) (reads_old reads_new : ℕ) (held_old held_new : Option (List ℕ)) : Type 0 where
  pub from : ℕ
  pub names : NamesClasses words from
  pub word : ℕ
  pub unread : IsUnread words old from reads_old reads_new word
  pub line : Grows held_old held_new (read_fault_line word)

-- which files may have changed: SEQ alone, and that only for `decide` with Allowed and with a fault of writing
abbrev pub LeavesFiles : Status → List (List ℕ) → Contents → Contents → Type 0
LeavesFiles Allowed words old new = SameButSeq words old new
LeavesFiles WriteFault words old new = SameButSeq words old new × (AsksNoDecide words → SameContents old new)
LeavesFiles status words old new = SameContents old new

-- ---- Where all goes well

-- the file of a word tells its content
pub record TellsFile (words : List (List ℕ)) (old : Contents) (word : ℕ) : Type 0 where
  pub name : List ℕ
  pub is_word : IsWord words word name
  pub bytes : List ℕ
  pub told : old name ≡ Some bytes

-- no count of faults rose
pub record NoneRose (reads_old reads_new writes_old writes_new puts_old puts_new : ℕ) : Type 0 where
  pub no_read_fault : Rose reads_old reads_new → ⊥
  pub no_write_fault : Rose writes_old writes_new → ⊥
  pub no_output_fault : Rose puts_old puts_new → ⊥

-- the class files from a word on are told and make this program
pub record LinksWell (words : List (List ℕ)) (old : Contents) (from : ℕ) (linked : Linked) : Type 0 where
  pub told : (word : ℕ) → from ≤ word → word < length words → TellsFile words old word
  pub is_linked : IsLinked words old from linked

-- the words ask a question, the files that they name are told and make a straight program, and no count rose
pub record DecideGoesWell (words : List (List ℕ)) (old : Contents) (reads_old reads_new writes_old writes_new puts_old puts_new : ℕ) : Type 0 where
  pub question : Question
  pub asks : AsksDecide words question
  pub linked : Linked
  pub links : LinksWell words old decide_classes linked
  pub straight : IsStraightProgram linked.program
  pub none_rose : NoneRose reads_old reads_new writes_old writes_new puts_old puts_new

-- the words are those of `show`, the files that they name are told and make a program, and no count rose
pub record ShowGoesWell (words : List (List ℕ)) (old : Contents) (reads_old reads_new writes_old writes_new puts_old puts_new : ℕ) : Type 0 where
  pub asks : AsksShow words
  pub linked : Linked
  pub links : LinksWell words old show_classes linked
  pub none_rose : NoneRose reads_old reads_new writes_old writes_new puts_old puts_new

-- a verdict, or want of memory
abbrev pub IsVerdictOrMemory : Status → Type 0
IsVerdictOrMemory Allowed = ⊤
IsVerdictOrMemory Forbidden = ⊤
IsVerdictOrMemory Memory = ⊤
IsVerdictOrMemory status = ⊥

-- a listing, or want of memory
abbrev pub IsListingOrMemory : Status → Type 0
IsListingOrMemory Shown = ⊤
IsListingOrMemory Memory = ⊤
IsListingOrMemory status = ⊥
