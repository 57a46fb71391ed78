-- Why a line, or a part of one, is not taken; and why a text is no refutation.
use Rattle.std.specs.Prelude.{ℕ, List, Option}
use Rattle.std.specs.Option.{IfSome}
use Rattle.token_reader.specs.declared.bytes.ReadRefusal.{ReadRefusal}
use Rattle.token_reader.specs.declared.bytes.ReadRefusal.TheVariants.{Long as TooLong, Failed, Memory as NoRoom}
use Rattle.refutation_items.specs.declared.refusal.CheckRefusal.{CheckRefusal}
use Rattle.refutation_items.specs.declared.refusal.CheckRefusal.TheVariants.{NotRefuted, Long, Read, Memory}
use Rattle.refutation_items.specs.declared.refusal.LineRefusal.{LineRefusal}
use Rattle.refutation_items.specs.declared.refusal.LineRefusal.TheVariants.{Wrong, Unread}
use Rattle.refutation_items.specs.declared.refusal.Reason.{Reason}

-- what is left, where it is told, is wrong for the reason; or it could not be read, which has a cause
abbrev pub IsRefusedFor : (ReadRefusal → Type 0) → Option (List ℕ) → (List ℕ → Reason → Type 0) → LineRefusal → Type 0
IsRefusedFor causes left IsWrong (Wrong reason) = IfSome left (λ bytes. IsWrong bytes reason)
IsRefusedFor causes left IsWrong (Unread refusal) = causes refusal

-- the refusal of the text whose line of this number is not taken
abbrev pub at_line : LineRefusal → ℕ → CheckRefusal
at_line (Wrong reason) line = NotRefuted line reason
at_line (Unread TooLong) line = Long
at_line (Unread Failed) line = Read
at_line (Unread NoRoom) line = Memory

-- the text, where it is told, goes wrong first at the line, for the reason; or it could not be read, which has a cause
abbrev pub IsNotRefutedFor : (ReadRefusal → Type 0) → Option (List ℕ) → (List ℕ → ℕ → Reason → Type 0) → CheckRefusal → Type 0
IsNotRefutedFor causes left GoesWrong (NotRefuted line reason) = IfSome left (λ bytes. GoesWrong bytes line reason)
IsNotRefutedFor causes left GoesWrong Long = causes TooLong
IsNotRefutedFor causes left GoesWrong Read = causes Failed
IsNotRefutedFor causes left GoesWrong Memory = causes NoRoom
