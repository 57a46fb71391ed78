-- The listing of a program. Tokens are separated by one blank, and each line ends with a line feed.
use Rattle.std.specs.Prelude.{◌++◌, ℕ, suc, Bool, true, false, List, [], ◌∷◌, length, codes, Option, Some, None, slice_get}
use Rattle.std.specs.List.{flat_map}
use Rattle.std.specs.Fmt.{decimal}
use Rattle.class_format.specs.declared.record.ClassRecord.{ClassRecord}
use Rattle.opcodes.specs.declared.listed.Listed.{Listed}
use Rattle.program.specs.Program.{Prog}
use Rattle.program.specs.declared.method.Method.{Method}
use Rattle.program.specs.declared.method.MethodId.{MethodId}
use Rattle.program.specs.declared.program.Variable.{Variable}
use Rattle.program_listing.specs.Instructions.{instruction_line}
use Rattle.program_listing.specs.NameTexts.{field_text, method_text, method_with}
use Rattle.program_listing.specs.PrintableText.{printable_text}

-- a count behind its word
abbrev pub count_text : List ℕ → ℕ → List ℕ
count_text word count = word ++ decimal count

-- how many threads, variables and monitors there are
abbrev pub counts_line : ℕ → ℕ → ℕ → List ℕ
counts_line threads variables monitors =
    count_text (codes "threads ") threads ++ count_text (codes " variables ") variables
    ++ count_text (codes " monitors ") monitors ++ codes "\n"

-- the word that tells whether a variable is volatile
abbrev pub volatility_word : Bool → List ℕ
volatility_word true = codes "volatile"
volatility_word false = codes "plain"

-- the line of a variable
abbrev pub variable_line : Variable → List ℕ
variable_line v = codes "variable " ++ field_text v.class v.name ++ codes " " ++ volatility_word v.volatile ++ codes "\n"

-- the line of a monitor, by its class's name
abbrev pub monitor_line : List ℕ → List ℕ
monitor_line class = codes "monitor " ++ printable_text class ++ codes "\n"

-- the line of a thread, with the method that it runs
abbrev pub thread_line : List ClassRecord → ℕ → MethodId → List ℕ
thread_line classes thread entry =
    codes "thread " ++ decimal thread ++ codes " " ++ method_text (method_with classes entry) ++ codes "\n"

-- the lines of the threads from a number on, by the methods that they run
abbrev pub threads_text : List ClassRecord → ℕ → List MethodId → List ℕ
threads_text classes thread [] = []
threads_text classes thread (entry ∷ entries) = thread_line classes thread entry ++ threads_text classes (suc thread) entries

-- the line that names a reached method
abbrev pub method_line : List ClassRecord → MethodId → List ℕ
method_line classes id = codes "method " ++ method_text (method_with classes id) ++ codes "\n"

-- the lines of the reached instructions of a method of this class; none, where the classes have no such class
abbrev pub instructions_text : Option ClassRecord → List Listed → List ℕ
instructions_text (Some class) listing = flat_map (instruction_line class.pool) listing
instructions_text None listing = []

-- the lines of a reached method
abbrev pub method_lines : List ClassRecord → Method → List ℕ
method_lines classes m = method_line classes m.id ++ instructions_text (slice_get classes m.id.class) m.listing

-- the lines of what a program has besides its methods
abbrev pub declarations_text : List ClassRecord → Prog → List ℕ
declarations_text classes p =
    counts_line (length p.threads) (length p.variables) (length p.monitors) ++ flat_map variable_line p.variables
    ++ flat_map monitor_line p.monitors ++ threads_text classes 0 p.threads

-- the listing of a program that these classes make
abbrev pub listing_text : List ClassRecord → Prog → List ℕ
listing_text classes p = declarations_text classes p ++ flat_map (method_lines classes) p.methods
