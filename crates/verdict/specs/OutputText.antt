-- The lines that are put to the output (docs/TEXTS.md, "Output").
use Rattle.std.specs.Prelude.{ℕ, Bool, true, false, Option, Some, None, List, [], ◌∷◌, ◌++◌, codes, get_or}
use Rattle.std.specs.Fmt.{decimal}
use Rattle.class_files.specs.declared.refusal.InputRefusal.{InputRefusal}
use Rattle.class_files.specs.declared.refusal.InputRefusal.TheVariants as input
use Rattle.class_profile.specs.declared.refusal.ClassKind.{ClassKind}
use Rattle.class_files.specs.Input.{limit}
use Rattle.line_text.specs.declared.bounds.Bounds.{Bounds}
use Rattle.linking.specs.declared.refusal.ProgramRefusal.{ProgramRefusal}
use Rattle.linking.specs.declared.refusal.ProgramRefusal.TheVariants as program
use Rattle.program.specs.declared.method.MethodId.{MethodId}
use Rattle.program_listing.specs.PrintableText.{printable_text}
use Rattle.reached_methods.specs.declared.refusal.Detail.{Detail}
use Rattle.reached_methods.specs.declared.refusal.Detail.TheVariants.{Nothing, Number, Name}
use Rattle.verdict.specs.KindNames.{fault_names, greatest_of, name_of_class_kind, name_of_code_kind, name_of_limit_kind, name_of_type_kind}
use Rattle.verdict.specs.declared.status.Status.{Status}
use Rattle.verdict.specs.declared.status.Status.TheVariants.{Allowed, Forbidden, Shown, Usage, Refused, Limit, ReadFault, WriteFault, Memory}

-- ---- Verdicts

abbrev pub verdict_line : Bool → List ℕ
verdict_line true = codes "verdict allowed\n"
verdict_line false = codes "verdict forbidden\n"

abbrev pub whole_word : Bool → List ℕ
whole_word true = codes "yes"
whole_word false = codes "no"

-- the bounds that a verdict is within, and whether they leave nothing out
abbrev pub bounds_line : Bounds → Bool → List ℕ
bounds_line bounds whole =
    codes "bounds jumps " ++ decimal bounds.jumps ++ codes " width " ++ decimal bounds.width ++ codes " whole " ++ whole_word whole ++ codes "\n"

abbrev pub budget_line : ℕ → List ℕ
budget_line budget = codes "budget " ++ decimal budget ++ codes "\n"

-- the three lines of a verdict
abbrev pub verdict_lines : Bool → Bounds → Bool → ℕ → List ℕ
verdict_lines allowed bounds whole budget = verdict_line allowed ++ bounds_line bounds whole ++ budget_line budget

-- ---- Refusals

-- a number behind words
abbrev pub numbered_line : List ℕ → ℕ → List ℕ
numbered_line words number = words ++ decimal number ++ codes "\n"

-- the word that fits no command
abbrev pub usage_line : ℕ → List ℕ
usage_line word = numbered_line (codes "usage word ") word

-- the file of a word can't be read
abbrev pub read_fault_line : ℕ → List ℕ
read_fault_line word = numbered_line (codes "read-fault word ") word

-- a limit that is passed, with the greatest number that it accepts
abbrev pub limit_line : List ℕ → ℕ → List ℕ
limit_line name greatest = codes "limit " ++ name ++ codes " " ++ decimal greatest ++ codes "\n"

-- the command is not built, or not for this program
abbrev pub not_built_line : List ℕ
not_built_line = codes "refused not-built\n"

-- the name of a fault of a class file by its number; a number that has none stands for itself
abbrev pub fault_name : ℕ → List ℕ
fault_name kind = get_or (decimal 0 ∷ fault_names) kind (decimal kind)

-- the file of a word is no class file, by its first fault
abbrev pub format_line : ℕ → ℕ → ℕ → List ℕ
format_line word kind place =
    codes "refused format word " ++ decimal word ++ codes " " ++ fault_name kind ++ codes " place " ++ decimal place ++ codes "\n"

-- the number of a class, or a dash where there is none
abbrev pub class_text : Option ℕ → List ℕ
class_text (Some class) = decimal class
class_text None = codes "-"

-- the classes are not of the profile
abbrev pub class_line : ClassKind → Option ℕ → List ℕ
class_line kind class = codes "refused program class " ++ class_text class ++ codes " method - pc - " ++ name_of_class_kind kind ++ codes "\n"

-- what a refusal names, behind a blank
abbrev pub detail_text : Detail → List ℕ
detail_text Nothing = []
detail_text (Number number) = codes " " ++ decimal number
detail_text (Name name) = codes " " ++ printable_text name

-- a fault at an instruction of a method, by the name of its kind
abbrev pub instruction_line : List ℕ → MethodId → ℕ → Detail → List ℕ
instruction_line name method pc detail =
    codes "refused program class " ++ decimal method.class ++ codes " method " ++ decimal method.method ++ codes " pc " ++ decimal pc
    ++ codes " " ++ name ++ detail_text detail ++ codes "\n"

-- the classes make no program; nothing where memory is short
abbrev pub program_line : ProgramRefusal → List ℕ
program_line (program.Class kind class) = class_line kind class
program_line (program.Code kind method pc detail) = instruction_line (name_of_code_kind kind) method pc detail
program_line (program.Typing kind method pc) = instruction_line (name_of_type_kind kind) method pc Nothing
program_line (program.Limit kind) = limit_line (name_of_limit_kind kind) (greatest_of kind)
program_line program.Memory = []

-- the class files make no program; nothing where memory is short
abbrev pub input_line : InputRefusal → List ℕ
input_line (input.ReadFault word) = read_fault_line word
input_line (input.TooLong word) = limit_line (codes "ClassBytes") limit
input_line (input.Format word kind place) = format_line word kind place
input_line (input.Program refusal) = program_line refusal
input_line input.Memory = []

-- ---- Statuses

-- the number of a status
abbrev pub number_of : Status → ℕ
number_of Allowed = 0
number_of Forbidden = 1
number_of Shown = 0
number_of Usage = 4
number_of Refused = 5
number_of Limit = 6
number_of ReadFault = 7
number_of WriteFault = 8
number_of Memory = 9
