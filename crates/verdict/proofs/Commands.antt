-- The words of commands.
use Rattle.std.proofs.Common.{◌≡◌, ◌≤◌, ◌+◌, ℕ, List, [], length, get_or, sym, ap, ◌∙◌, arith}
use Rattle.line_text.specs.CommandLine.{CommandLine}
use Rattle.line_text.specs.declared.command.Command.{Command}
use Rattle.line_text.specs.declared.command.Command.TheVariants.{Decide, CheckAllowed, CheckForbidden, Show, Generate}
use Rattle.verdict.specs.Commands.{AsksDecide, AsksShow, AsksUnbuilt, IsUnbuilt, NamesClasses, for_decide, for_show, decide_classes, seq_place, show_classes}
use Rattle.verdict.specs.declared.request.Question.{Question}

-- how many words there are
pub names_few : (words : List (List ℕ)) (from : ℕ) → NamesClasses words from → (from ≤ length words) × (length words ≤ 65535)
names_few words from (for_decide q asks is) =
    let many : length words ≡ length (asks.0) + 5 = omega (arith, ap length asks.2) in
    let least = asks.6.least_many in
    let most = asks.6.most_many in
    (omega (arith, is, many, least), omega (arith, many, most))
names_few words from (for_show asks is) =
    let many : length words ≡ length (asks.0) + 1 = omega (arith, ap length asks.1) in
    let least = asks.2.least_many in
    let most = asks.2.most_many in
    (omega (arith, is, many, least), omega (arith, many, most))

-- ---- No words are those of two commands

-- the first letter of a command's name
abbrev letter_of : Command → ℕ
letter_of (Decide bounds budget outcome seq refutation classes) = 100
letter_of (CheckAllowed bounds outcome seq classes) = 99
letter_of (CheckForbidden bounds outcome refutation classes) = 99
letter_of (Show classes) = 115
letter_of (Generate number seq refutation) = 103

abbrev first_letter : List (List ℕ) → ℕ
first_letter words = get_or (get_or words 0 []) 0 0

has_letter : (command : Command) (words : List (List ℕ)) → CommandLine command words → first_letter words ≡ letter_of command
has_letter (Decide bounds budget outcome seq refutation classes) words line = ap first_letter line.2
has_letter (CheckAllowed bounds outcome seq classes) words line = ap first_letter line.2
has_letter (CheckForbidden bounds outcome refutation classes) words line = ap first_letter line.2
has_letter (Show classes) words line = ap first_letter line.1
has_letter (Generate number seq refutation) words line = ap first_letter line.1

decide_letter : (words : List (List ℕ)) (q : Question) → AsksDecide words q → first_letter words ≡ 100
decide_letter words q asks = has_letter (Decide q.bounds q.budget q.outcome seq_place 6 decide_classes) words asks

show_letter : (words : List (List ℕ)) → AsksShow words → first_letter words ≡ 115
show_letter words asks = has_letter (Show show_classes) words asks

pub not_both : (words : List (List ℕ)) (q : Question) → AsksDecide words q → AsksShow words → ⊥
not_both words q decides shows =
    let d = decide_letter words q decides in
    let s = show_letter words shows in
    omega (arith, d, s)

unbuilt_letter : (command : Command) → IsUnbuilt command → (letter_of command ≡ 100 → ⊥) × (letter_of command ≡ 115 → ⊥)
unbuilt_letter (Decide bounds budget outcome seq refutation classes) unbuilt = absurd unbuilt
unbuilt_letter (CheckAllowed bounds outcome seq classes) unbuilt = ((λ e. omega (arith, e)), (λ e. omega (arith, e)))
unbuilt_letter (CheckForbidden bounds outcome refutation classes) unbuilt = ((λ e. omega (arith, e)), (λ e. omega (arith, e)))
unbuilt_letter (Show classes) unbuilt = absurd unbuilt
unbuilt_letter (Generate number seq refutation) unbuilt = ((λ e. omega (arith, e)), (λ e. omega (arith, e)))

pub not_unbuilt_decide : (words : List (List ℕ)) (q : Question) → AsksDecide words q → AsksUnbuilt words → ⊥
not_unbuilt_decide words q asks u =
    (unbuilt_letter u.command u.unbuilt).0 (sym (has_letter u.command words u.line) ∙ decide_letter words q asks)

pub not_unbuilt_show : (words : List (List ℕ)) → AsksShow words → AsksUnbuilt words → ⊥
not_unbuilt_show words asks u =
    (unbuilt_letter u.command u.unbuilt).1 (sym (has_letter u.command words u.line) ∙ show_letter words asks)

-- the class files of `decide` begin at its place
pub from_decide : (words : List (List ℕ)) (q : Question) → AsksDecide words q → (from : ℕ) → NamesClasses words from → from ≡ decide_classes
from_decide words q asks from (for_decide other also is) = is
from_decide words q asks from (for_show also is) = absurd (not_both words q asks also)

-- and those of `show` at its own
pub from_show : (words : List (List ℕ)) → AsksShow words → (from : ℕ) → NamesClasses words from → from ≡ show_classes
from_show words asks from (for_decide q also is) = absurd (not_both words q also asks)
from_show words asks from (for_show also is) = is
