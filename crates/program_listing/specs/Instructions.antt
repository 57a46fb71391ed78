-- The line of an instruction: its place in the code, its name and its operands (JVMS 6.5). What an index of the constant pool
-- stands for is written out, and a jump by the place that it goes to.
use Rattle.std.specs.Prelude.{◌++◌, ◌+ℤ◌, ℕ, ℤ, pos, List, [], codes, Option, Some, None}
use Rattle.std.specs.Fmt.{decimal, signed_decimal}
use Rattle.std.specs.Int.{w32, cast_signed}
use Rattle.class_format.specs.Pool.{entry_at}
use Rattle.class_format.specs.declared.record.PoolEntry.{PoolEntry}
use Rattle.class_format.specs.declared.record.PoolEntry.TheVariants.{Integer, Class}
use Rattle.class_names.specs.Names.{Reference, class_name_of, field_at, method_at, text_of}
use Rattle.opcodes.specs.declared.instruction.Instr.{Instr}
use Rattle.opcodes.specs.declared.instruction.Instr.TheVariants.{Bipush, Sipush, Ldc, LdcW, Iload, Aload, Istore, Astore, Iinc, Ifeq, Ifne, Iflt, Ifge, Ifgt, Ifle, IfIcmpeq, IfIcmpne, IfIcmplt, IfIcmpge, IfIcmpgt, IfIcmple, Goto, Getstatic, Putstatic, Invokevirtual, Invokespecial, Invokestatic, New}
use Rattle.opcodes.specs.declared.listed.Listed.{Listed}
use Rattle.program_listing.specs.InstructionNames.{name_of_instruction}
use Rattle.program_listing.specs.NameTexts.{field_text, method_text}
use Rattle.program_listing.specs.PrintableText.{printable_text}

-- a number behind a blank
abbrev pub number_operand : ℤ → List ℕ
number_operand value = codes " " ++ signed_decimal value

-- the place that a jump goes to, by its distance from the jump's own place
abbrev pub target_operand : ℕ → ℤ → List ℕ
target_operand pc distance = number_operand (pos pc +ℤ distance)

-- the name of a class
abbrev pub class_operand : List ℕ → List ℕ
class_operand name = codes " " ++ printable_text name

-- an int constant as a signed number of 32 bits, or a class by its name
abbrev pub constant_operand : List PoolEntry → Option PoolEntry → List ℕ
constant_operand pool (Some (Integer bits)) = number_operand (cast_signed w32 bits)
constant_operand pool (Some (Class name)) = class_operand (text_of pool name)
constant_operand pool _ = []

-- the field that a Fieldref entry names
abbrev pub field_operand : Option Reference → List ℕ
field_operand (Some field) = codes " " ++ field_text field.class field.name
field_operand None = []

-- the method that a Methodref entry names
abbrev pub method_operand : Option Reference → List ℕ
method_operand (Some method) = codes " " ++ method_text method
method_operand None = []

-- the operands of an instruction at a place of the code, each behind a blank
abbrev pub operands_text : List PoolEntry → ℕ → Instr → List ℕ
operands_text pool pc (Bipush value) = number_operand value
operands_text pool pc (Sipush value) = number_operand value
operands_text pool pc (Ldc index) = constant_operand pool (entry_at pool index)
operands_text pool pc (LdcW index) = constant_operand pool (entry_at pool index)
operands_text pool pc (Iload slot) = number_operand (pos slot)
operands_text pool pc (Aload slot) = number_operand (pos slot)
operands_text pool pc (Istore slot) = number_operand (pos slot)
operands_text pool pc (Astore slot) = number_operand (pos slot)
operands_text pool pc (Iinc slot delta) = number_operand (pos slot) ++ number_operand delta
operands_text pool pc (Ifeq distance) = target_operand pc distance
operands_text pool pc (Ifne distance) = target_operand pc distance
operands_text pool pc (Iflt distance) = target_operand pc distance
operands_text pool pc (Ifge distance) = target_operand pc distance
operands_text pool pc (Ifgt distance) = target_operand pc distance
operands_text pool pc (Ifle distance) = target_operand pc distance
operands_text pool pc (IfIcmpeq distance) = target_operand pc distance
operands_text pool pc (IfIcmpne distance) = target_operand pc distance
operands_text pool pc (IfIcmplt distance) = target_operand pc distance
operands_text pool pc (IfIcmpge distance) = target_operand pc distance
operands_text pool pc (IfIcmpgt distance) = target_operand pc distance
operands_text pool pc (IfIcmple distance) = target_operand pc distance
operands_text pool pc (Goto distance) = target_operand pc distance
operands_text pool pc (Getstatic index) = field_operand (field_at pool index)
operands_text pool pc (Putstatic index) = field_operand (field_at pool index)
operands_text pool pc (Invokevirtual index) = method_operand (method_at pool index)
operands_text pool pc (Invokespecial index) = method_operand (method_at pool index)
operands_text pool pc (Invokestatic index) = method_operand (method_at pool index)
operands_text pool pc (New index) = class_operand (class_name_of pool index)
operands_text pool pc _ = []

-- the place of an instruction and its name
abbrev pub instruction_head : Listed → List ℕ
instruction_head l = decimal l.pc ++ codes " " ++ name_of_instruction l.instr

-- the line of an instruction of a class with this constant pool
abbrev pub instruction_line : List PoolEntry → Listed → List ℕ
instruction_line pool l = instruction_head l ++ operands_text pool l.pc l.instr ++ codes "\n"
