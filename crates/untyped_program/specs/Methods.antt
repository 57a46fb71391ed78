-- What the instructions of a method name, by numbers, and its frame (docs/MODEL.md, "The program of the classes").
use Rattle.std.specs.Prelude.{◌≡◌, ◌+◌, ℕ, Bool, true, false, List, [], ◌∷◌, Option, Some, None, map, slice_get, if◌then◌else◌}
use Rattle.std.specs.Option.{option_map}
use Rattle.class_format.specs.declared.record.ClassRecord.{ClassRecord}
use Rattle.class_format.specs.declared.record.CodeBody.{CodeBody}
use Rattle.class_format.specs.declared.record.Member.{Member}
use Rattle.class_format.specs.declared.record.PoolEntry.{PoolEntry}
use Rattle.class_names.specs.Members.{static_flag, member_descriptor, body_of}
use Rattle.class_names.specs.Names.{has_flag, class_name_of, name_of}
use Rattle.program.specs.declared.method.Frame.{Frame}
use Rattle.program.specs.declared.method.MethodId.{MethodId}
use Rattle.reached_methods.specs.Reached.{IsMethodAt, is_method}
use Rattle.reached_methods.specs.declared.method.ReachedMethod.{ReachedMethod}
use Rattle.resolution.specs.Signatures.{signature_of}
use Rattle.resolution.specs.declared.signature.Signature.{Signature}
use Rattle.resolution.specs.declared.target.Target.{Target}
use Rattle.resolution.specs.declared.target.Target.TheVariants as target
use Rattle.typing.specs.declared.symbol.Symbol.{Symbol}
use Rattle.typing.specs.declared.symbol.Symbol.TheVariants as symbol
use Rattle.typing.specs.declared.untyped.Entry.{Entry}
use Rattle.typing.specs.declared.untyped.Entry.TheVariants as entry
use Rattle.typing.specs.declared.untyped.UntypedMethod.{UntypedMethod}
use Rattle.untyped_program.specs.Monitors.{locks_class, monitor_number}

-- ---- Signatures

abbrev pub signature_of_member : ClassRecord → Option Member → Option Signature
signature_of_member class (Some m) = signature_of (member_descriptor class.pool m)
signature_of_member class None = None

abbrev pub signature_in : Option ClassRecord → ℕ → Option Signature
signature_in (Some class) method_at = signature_of_member class (slice_get class.methods method_at)
signature_in None method_at = None

-- what the descriptor of a method says
abbrev pub signature_at : List ClassRecord → MethodId → Option Signature
signature_at classes id = signature_in (slice_get classes id.class) id.method

-- ---- Symbols

abbrev pub called : MethodId → Signature → Symbol
called id signature = symbol.Call id signature.parameters signature.result

-- what is named, by numbers: those of fields and monitors, and how many threads were made before
abbrev pub symbol_of : List ClassRecord → (ℕ → ℕ → ℕ) → List (List ℕ) → List PoolEntry → ℕ → Target → Option Symbol
symbol_of classes number monitors pool made (target.Constant value) = Some (symbol.Constant value)
symbol_of classes number monitors pool made (target.Class index) = option_map (λ n. symbol.Monitor n) (monitor_number monitors (class_name_of pool index))
symbol_of classes number monitors pool made (target.Field class_at field_at) = Some (symbol.Variable (number class_at field_at))
symbol_of classes number monitors pool made target.Out = Some symbol.Out
symbol_of classes number monitors pool made target.Print = Some symbol.Print
symbol_of classes number monitors pool made (target.New class_at) = Some (symbol.Make (made + 1))
symbol_of classes number monitors pool made target.NewTarget = Some (symbol.MakeTarget made)
symbol_of classes number monitors pool made target.Construct = Some symbol.Construct
symbol_of classes number monitors pool made target.ConstructTarget = Some symbol.ConstructTarget
symbol_of classes number monitors pool made target.Wrap = Some symbol.Wrap
symbol_of classes number monitors pool made target.Start = Some symbol.Start
symbol_of classes number monitors pool made target.Join = Some symbol.Join
symbol_of classes number monitors pool made target.Alive = Some symbol.Alive
symbol_of classes number monitors pool made (target.Call id) = option_map (called id) (signature_at classes id)
symbol_of classes number monitors pool made target.Nothing = Some symbol.Nothing

abbrev pub is_new : Target → Bool
is_new (target.New class_at) = true
is_new t = false

-- the symbols of a listing's rest, behind so many threads made
abbrev pub symbols_from : List ClassRecord → (ℕ → ℕ → ℕ) → List (List ℕ) → List PoolEntry → ℕ → List Target → List (Option Symbol)
symbols_from classes number monitors pool made [] = []
symbols_from classes number monitors pool made (t ∷ targets) =
    symbol_of classes number monitors pool made t ∷ symbols_from classes number monitors pool (made + (if is_new t then 1 else 0)) targets

-- ---- Frames

abbrev pub entry_of : Bool → Member → Entry
entry_of true m = entry.Main
entry_of false m = if has_flag m.flags static_flag then entry.Static else entry.Run

-- main takes the array of words, and run()V its object; other methods what their descriptor says
abbrev pub signature_by : Entry → List ℕ → Option Signature
signature_by entry.Static descriptor = signature_of descriptor
signature_by e descriptor = Some (record { parameters = 1; result = false })

-- the number of the monitor of a method that locks its class
abbrev pub own_monitor : ClassRecord → Member → List (List ℕ) → Option ℕ
own_monitor class m monitors = if locks_class m then monitor_number monitors (name_of class) else None

abbrev pub frame_of : CodeBody → Signature → Option ℕ → Frame
frame_of body signature monitor = record {
  max_locals = body.max_locals;
  max_stack = body.max_stack;
  parameters = signature.parameters;
  result = signature.result;
  monitor = monitor;
}

-- ---- Methods

-- the reached method before it is typed
pub record IsUntypedMethod (classes : List ClassRecord) (main : MethodId) (number : ℕ → ℕ → ℕ) (monitors : List (List ℕ)) (m : ReachedMethod) (u : UntypedMethod) : Type 0 where
  pub class : ClassRecord
  pub method : Member
  pub there : IsMethodAt classes m.id class method
  pub body : CodeBody
  pub code : body_of method ≡ Some body
  pub signature : Signature
  pub declared : signature_by u.entry (member_descriptor class.pool method) ≡ Some signature
  pub id : u.id ≡ m.id
  pub entry : u.entry ≡ entry_of (is_method m.id main) method
  pub frame : u.frame ≡ frame_of body signature (own_monitor class method monitors)
  pub listing : u.listing ≡ m.listing
  pub symbols : map Some u.symbols ≡ symbols_from classes number monitors class.pool 0 m.targets
