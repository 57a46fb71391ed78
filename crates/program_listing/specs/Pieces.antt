-- The pieces of a line, and what stands behind the name of an instruction.
use Rattle.std.specs.Prelude.{◌++◌, ℕ, pos, List, [], codes}
use Rattle.std.specs.Fmt.{signed_decimal}
use Rattle.class_names.specs.Names.{Reference}
use Rattle.program_listing.specs.Instructions.{class_operand, number_operand}
use Rattle.program_listing.specs.NameTexts.{field_text, method_text}
use Rattle.program_listing.specs.PrintableText.{printable_text}
use Rattle.program_listing.specs.declared.method_names.MethodName.{MethodName}
use Rattle.program_listing.specs.declared.operands.Operands.{Operands}
use Rattle.program_listing.specs.declared.operands.Operands.TheVariants.{Nothing, Number, SlotAndDelta, Class, Field, Method}
use Rattle.program_listing.specs.declared.piece.Piece.{Piece}
use Rattle.program_listing.specs.declared.piece.Piece.TheVariants.{Word, Name}
use Rattle.program_listing.specs.declared.piece.Piece.TheVariants as piece

-- the text of a piece
abbrev pub piece_text : Piece → List ℕ
piece_text (Word bytes) = bytes.now
piece_text (Name bytes) = printable_text bytes.now
piece_text (piece.Number number) = signed_decimal number

-- the names that a method name stands for
abbrev pub reference_in : MethodName → Reference
reference_in m = record { class = m.class.now; name = m.name.now; descriptor = m.descriptor.now }

-- the text of what stands behind an instruction's name
abbrev pub shown_operands : Operands → List ℕ
shown_operands Nothing = []
shown_operands (Number value) = number_operand value
shown_operands (SlotAndDelta slot delta) = number_operand (pos slot) ++ number_operand delta
shown_operands (Class name) = class_operand name.now
shown_operands (Field class name) = codes " " ++ field_text class.now name.now
shown_operands (Method method) = codes " " ++ method_text (reference_in method)
