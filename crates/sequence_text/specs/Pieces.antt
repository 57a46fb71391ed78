-- The pieces of a line.
use Rattle.std.specs.Prelude.{ℕ, List}
use Rattle.std.specs.Fmt.{signed_decimal}
use Rattle.sequence_text.specs.declared.pieces.Piece.{Piece}
use Rattle.sequence_text.specs.declared.pieces.Piece.TheVariants.{Bytes, Number}

abbrev pub piece_text : Piece → List ℕ
piece_text (Bytes bytes) = bytes.now
piece_text (Number number) = signed_decimal number
