-- The texts of pieces of a line.
use Rattle.std.specs.Prelude.{ℕ, List, codes}
use Rattle.std.specs.Fmt.{decimal}
use Rattle.program_listing.specs.PrintableText.{printable_text}
use Rattle.verdict.specs.declared.pieces.Named.{Named}
use Rattle.verdict.specs.declared.pieces.Named.TheVariants as named
use Rattle.verdict.specs.declared.pieces.Piece.{Piece}
use Rattle.verdict.specs.declared.pieces.Piece.TheVariants as piece
use Rattle.verdict.specs.OutputText.{class_text, detail_text, fault_name}

-- the text of what stands in a detail
abbrev pub named_text : Named → List ℕ
named_text named.Blank = codes " "
named_text (named.Number number) = decimal number
named_text (named.Name bytes) = printable_text bytes.now

-- the text of a piece of a line
abbrev pub piece_text : Piece → List ℕ
piece_text (piece.Word bytes) = bytes.now
piece_text (piece.Number number) = decimal number
piece_text (piece.Class class) = class_text class
piece_text (piece.Fault kind) = fault_name kind
piece_text (piece.Detail detail) = detail_text detail.now
