use Rattle.std.proofs.Common.{◌≡◌, take}
use Rattle.program_listing.specs.PrintableText.{printable_text}
use Rattle.program_listing.proofs.printable.are_printable.Given as goal

-- the bytes so far print as they stand
abbrev pub invariant-loop-byte : goal.invariant-loop-byte
invariant-loop-byte l = printable_text (take l.byte-index l.bytes) ≡ take l.byte-index l.bytes
