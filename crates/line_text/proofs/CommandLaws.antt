-- Command lines: when words begin one, and where they go wrong.
use Rattle.std.proofs.Common.{◌++◌, ◌+◌, ◌-◌, ◌<◌, ◌≤◌, ◌≡◌, ◌≢◌, ◌∙◌, ◌⊎◌, inl, inr, ap, sym, refl, zero, suc, ℕ, false, List, [], ◌∷◌, length, take, drop, get_or, Some, slice_get, add-one, arith, append_assoc, length-append, codes, FitsSigned, w32}
use Rattle.std.specs.Prelude.{replicate, ⊤}
use Rattle.std.specs.Fmt.{decimal}
use Rattle.std.proofs.lemmas.List.{append-nil, get_or-take, length-take, take-take}
use Rattle.std.proofs.Math.Seq.{take-append_seam}
use Rattle.std.proofs.lemmas.List.Elements.{All-nil, All-push, All-take}
use Rattle.std.proofs.lemmas.List.Quantifiers.{all_pairs_push}
use Rattle.std.proofs.lemmas.Grind.{common_steps}
use Rattle.std.proofs.lemmas.Slice.Eq.{bytes_eq-Decides}
use Rattle.std.specs.Str.{bytes_eq}
use Rattle.line_text.specs.declared.bounds.Bounds.{Bounds}
use Rattle.line_text.specs.declared.command.Command.{Command}
use Rattle.line_text.specs.declared.command.Command.TheVariants.{Decide, CheckAllowed, CheckForbidden, Show, Generate}
use Rattle.line_text.specs.declared.command.WordsRefusal.{WordsRefusal}
use Rattle.line_text.specs.declared.command.WordsRefusal.TheVariants.{Usage, Memory}
use Rattle.line_text.specs.declared.outcome.OutcomePart.{OutcomePart}
use Rattle.line_text.specs.Bounds.{IsBounds}
use Rattle.line_text.specs.OutcomeText.{outcome_text}
use Rattle.line_text.specs.CommandLine.{AreFiles, BeginsCommand, CommandLine, IsRefusedFor, IsUsageAt}
use Rattle.line_text.specs.Fields.{check_allowed, check_forbidden, decide, Field, fields_of, FilesMissFrom, Fits, generate, IsNumberWord, Kind, least_of, MissesAt, most_of, name_of, number, outcome, show, StuckFrom, StuckIn}

-- words of these fields and then of files, whole
abbrev pub LineRest : List Field → ℕ → ℕ → List (List ℕ) → Type 0
LineRest [] least most words = AreFiles least most words
LineRest (field ∷ fields) least most [] = ⊥
LineRest (field ∷ fields) least most (word ∷ words) = Fits field word × LineRest fields least most words

-- such words, of which more may come
abbrev pub FrontRest : List Field → ℕ → List (List ℕ) → Type 0
FrontRest [] most words = AreFiles 0 most words
FrontRest (field ∷ fields) most [] = ⊤
FrontRest (field ∷ fields) most (word ∷ words) = Fits field word × FrontRest fields most words

-- the first of some file words
files-front : (least most n : ℕ) (words : List (List ℕ)) → AreFiles least most words → AreFiles 0 most (take n words)
files-front least most n words files = record {
  named = All-take (λ (file : List ℕ). 0 < length file) n words files.named;
  distinct = λ i j d before within.
      let low : j < n = omega (arith, within, length-take n words) in
      let inside : j < length words = omega (arith, within, length-take n words) in
      λ same. files.distinct i j d before inside
      (sym (get_or-take n words i d (omega arith)) ∙ same ∙ get_or-take n words j d low);
  least_many = omega arith;
  most_many = omega (arith, files.most_many, length-take n words);
}

files-front_of : (least most : ℕ) (words rest : List (List ℕ)) → AreFiles least most (words ++ rest) → AreFiles 0 most words
files-front_of least most words rest files =
    let front : take (length words) (words ++ rest) ≡ words = take-append_seam words rest in
    let whole : AreFiles 0 most (take (length words) (words ++ rest)) = files-front least most (length words) (words ++ rest) files in
    rw front at whole

-- the front of a whole line
pub front-of : (fields : List Field) (least most : ℕ) (words rest : List (List ℕ)) → LineRest fields least most (words ++ rest) → FrontRest fields most words
front-of [] least most words rest line = files-front_of least most words rest line
front-of (field ∷ fields) least most [] rest line = tt
front-of (field ∷ fields) least most (word ∷ words) rest line = (line.0, front-of fields least most words rest line.1)

-- a front of a front
front-take : (fields : List Field) (most n : ℕ) (words : List (List ℕ)) → FrontRest fields most words → FrontRest fields most (take n words)
front-take [] most n words front = files-front 0 most n words front
front-take (field ∷ fields) most zero words front = tt
front-take (field ∷ fields) most (suc n) [] front = tt
front-take (field ∷ fields) most (suc n) (word ∷ words) front = (front.0, front-take fields most n words front.1)

-- what is stuck fits before the place
pub stuck-front : (fields : List Field) (least most : ℕ) (words : List (List ℕ)) (at : ℕ) → StuckIn fields least most words at
    → FrontRest fields most (take at words) × (at ≤ length words)
stuck-front [] least most words at stuck = (stuck.begun, stuck.within)
stuck-front (field ∷ fields) least most [] zero stuck = (tt, omega arith)
stuck-front (field ∷ fields) least most (word ∷ words) zero stuck = (tt, omega arith)
stuck-front (field ∷ fields) least most [] (suc at) stuck = absurd stuck
stuck-front (field ∷ fields) least most (word ∷ words) (suc at) stuck =
    let later = stuck-front fields least most words at stuck.1 in
    ((stuck.0, later.0), omega (arith, later.1))

-- and no further
pub stuck-dead : (fields : List Field) (least most : ℕ) (words : List (List ℕ)) (at more : ℕ) → StuckIn fields least most words at → at < more
    → more ≤ length words → FrontRest fields most (take more words) → ⊥
stuck-dead [] least most words at more stuck above low front =
    let next : at + 1 ≤ more = omega arith in
    let shorter : AreFiles 0 most (take (at + 1) (take more words)) = files-front 0 most (at + 1) (take more words) front in
    stuck.next (omega arith) (rw (take-take (at + 1) more words next) at shorter)
stuck-dead (field ∷ fields) least most [] at more stuck above low front = omega arith
stuck-dead (field ∷ fields) least most (word ∷ words) at zero stuck above low front = omega arith
stuck-dead (field ∷ fields) least most (word ∷ words) zero (suc more) stuck above low front = stuck front.0
stuck-dead (field ∷ fields) least most (word ∷ words) (suc at) (suc more) stuck above low front =
    stuck-dead fields least most words at more stuck.1 (omega arith) (omega arith) front.1

-- nor are the words whole
pub stuck-not_whole : (fields : List Field) (least most : ℕ) (words : List (List ℕ)) (at : ℕ) → StuckIn fields least most words at
    → LineRest fields least most words → ⊥
stuck-not_whole [] least most words at stuck line = by_place (split-le at (length words) stuck.within)
  where
    split-le : (a b : ℕ) → a ≤ b → (a < b) ⊎ (a ≡ b)
    split-le a b h = grind arith

    by_place : (at < length words) ⊎ (at ≡ length words) → ⊥
    by_place (inl before) = stuck.next before (files-front least most (at + 1) words line)
    by_place (inr same) = omega (arith, same, stuck.short same, line.least_many)
stuck-not_whole (field ∷ fields) least most [] at stuck line = line
stuck-not_whole (field ∷ fields) least most (word ∷ words) zero stuck line = stuck line.0
stuck-not_whole (field ∷ fields) least most (word ∷ words) (suc at) stuck line = stuck-not_whole fields least most words at stuck.1 line.1

-- the lengths of some words together
abbrev pub total_length : List (List ℕ) → ℕ
total_length [] = 0
total_length (word ∷ words) = length word + total_length words

within-total : (words : List (List ℕ)) (i : ℕ) (d : List ℕ) → i < length words → length (get_or words i d) ≤ total_length words
within-total [] i d within = absurd (omega arith)
within-total (word ∷ words) zero d within = omega arith
within-total (word ∷ words) (suc i) d within = omega (arith, within-total words i d (omega arith))

-- a word that is longer than all of these
abbrev pub fresh : List (List ℕ) → List ℕ
fresh words = replicate (total_length words + 1) 97

length-fresh : (n : ℕ) → length {A = ℕ} (replicate n 97) ≡ n
length-fresh n = grind (arith, common_steps)

files-add : (most : ℕ) (files : List (List ℕ)) → AreFiles 0 most files → length files < most → AreFiles 0 most (files ++ fresh files ∷ [])
files-add most files are few = record {
  named = All-push (λ (file : List ℕ). 0 < length file) files (fresh files) are.named (omega (arith, length-fresh (total_length files + 1)));
  distinct = all_pairs_push (λ (earlier later : List ℕ). earlier ≢ later) files (fresh files) are.distinct
      (λ i d within same. omega (arith, ap length same, within-total files i d within, length-fresh (total_length files + 1)));
  least_many = omega arith;
  most_many = omega (arith, length-append files (fresh files ∷ []));
}

files-fill : (k most : ℕ) (files : List (List ℕ)) → AreFiles 0 most files → length files + k ≤ most
    → (rest : List (List ℕ)) × AreFiles 0 most (files ++ rest) × (length rest ≡ k)
files-fill zero most files are few = ([], rw (append-nil files) are, refl)
files-fill (suc k) most files are few =
    let more = files-fill k most (files ++ fresh files ∷ []) (files-add most files are (omega arith))
    (omega (arith, length-append files (fresh files ∷ []))) in
    (fresh files ∷ more.0, rw (append_assoc files (fresh files ∷ []) more.0) at more.1, ap (λ (n : ℕ). suc n) more.2)

files-live : (least most : ℕ) (files : List (List ℕ)) → least ≤ most → AreFiles 0 most files
    → (rest : List (List ℕ)) × AreFiles least most (files ++ rest)
files-live least most files low are =
    let more = files-fill (least - length files) most files are (omega (arith, are.most_many)) in (
      more.0,
      record {
        named = more.1.named;
        distinct = more.1.distinct;
        least_many = omega (arith, length-append files more.0, more.2);
        most_many = more.1.most_many;
      },
    )

-- some word fits each field
abbrev pub AreUsable : List Field → Type 0
AreUsable [] = ⊤
AreUsable (number least most ∷ fields) = (least ≤ most) × AreUsable fields
AreUsable (outcome ∷ fields) = AreUsable fields

usable-first : (field : Field) (fields : List Field) → AreUsable (field ∷ fields) → ((word : List ℕ) × Fits field word) × AreUsable fields
usable-first (number least most) fields usable =
    ((decimal least, record { number = least; low = omega arith; high = usable.0; text = refl }), usable.1)
usable-first outcome fields usable =
    let parts : List OutcomePart = record { thread = 0; values = [] } ∷ [] in (
      (
        outcome_text parts,
        record {
          parts = parts;
          text = record { some = omega arith; parts_fit = (omega arith, omega arith, omega arith, All-nil (FitsSigned w32), tt); is = refl };
        },
      ),
      usable,
    )

no-files : (most : ℕ) → AreFiles 0 most []
no-files most = record {
  named = λ k d within. absurd (omega arith);
  distinct = λ i j d before within. absurd (omega arith);
  least_many = omega arith;
  most_many = omega arith;
}

front-nil : (fields : List Field) (most : ℕ) → FrontRest fields most []
front-nil [] most = no-files most
front-nil (field ∷ fields) most = tt

-- a front goes on to a whole line
pub front-live : (fields : List Field) (least most : ℕ) (words : List (List ℕ)) → AreUsable fields → least ≤ most → FrontRest fields most words
    → (rest : List (List ℕ)) × LineRest fields least most (words ++ rest)
front-live [] least most words usable low front = files-live least most words low front
front-live (field ∷ fields) least most [] usable low front =
    let first = usable-first field fields usable in
    let more = front-live fields least most [] first.1 low (front-nil fields most) in
    (first.0.0 ∷ more.0, (first.0.1, more.1))
front-live (field ∷ fields) least most (word ∷ words) usable low front =
    let more = front-live fields least most words (usable-first field fields usable).1 low front.1 in
    (more.0, (front.0, more.1))

-- names tell commands apart
mark : List ℕ → ℕ
mark name = get_or name 0 0 + get_or name 6 0

same-name : (a b : Kind) → name_of a ≡ name_of b → a ≡ b
unfolding mark
same-name decide decide same = refl
same-name decide check_allowed same = absurd (omega (arith, ap mark same))
same-name decide check_forbidden same = absurd (omega (arith, ap mark same))
same-name decide show same = absurd (omega (arith, ap mark same))
same-name decide generate same = absurd (omega (arith, ap mark same))
same-name check_allowed decide same = absurd (omega (arith, ap mark same))
same-name check_allowed check_allowed same = refl
same-name check_allowed check_forbidden same = absurd (omega (arith, ap mark same))
same-name check_allowed show same = absurd (omega (arith, ap mark same))
same-name check_allowed generate same = absurd (omega (arith, ap mark same))
same-name check_forbidden decide same = absurd (omega (arith, ap mark same))
same-name check_forbidden check_allowed same = absurd (omega (arith, ap mark same))
same-name check_forbidden check_forbidden same = refl
same-name check_forbidden show same = absurd (omega (arith, ap mark same))
same-name check_forbidden generate same = absurd (omega (arith, ap mark same))
same-name show decide same = absurd (omega (arith, ap mark same))
same-name show check_allowed same = absurd (omega (arith, ap mark same))
same-name show check_forbidden same = absurd (omega (arith, ap mark same))
same-name show show same = refl
same-name show generate same = absurd (omega (arith, ap mark same))
same-name generate decide same = absurd (omega (arith, ap mark same))
same-name generate check_allowed same = absurd (omega (arith, ap mark same))
same-name generate check_forbidden same = absurd (omega (arith, ap mark same))
same-name generate show same = absurd (omega (arith, ap mark same))
same-name generate generate same = refl

-- a command's words
abbrev pub KindLine : Kind → List (List ℕ) → Type 0
KindLine kind words = (rest : List (List ℕ)) × (words ≡ name_of kind ∷ rest) × LineRest (fields_of kind) (least_of kind) (most_of kind) rest

pub to-kind : (command : Command) (words : List (List ℕ)) → CommandLine command words → (kind : Kind) × KindLine kind words
to-kind (Decide bounds budget out seq refutation classes) words line = (
  decide,
  (
    _,
    line.2,
    (
      record { number = bounds.jumps; low = omega arith; high = line.3.jumps; text = refl },
      (
        record { number = bounds.width; low = line.3.narrowest; high = line.3.widest; text = refl },
        (
          record { number = budget; low = omega arith; high = omega (arith, line.4); text = refl },
          (record { parts = out; text = line.5 }, line.6),
        ),
      ),
    ),
  ),
)
to-kind (CheckAllowed bounds out seq classes) words line = (
  check_allowed,
  (
    _,
    line.2,
    (
      record { number = bounds.jumps; low = omega arith; high = line.3.jumps; text = refl },
      (
        record { number = bounds.width; low = line.3.narrowest; high = line.3.widest; text = refl },
        (record { parts = out; text = line.4 }, line.5),
      ),
    ),
  ),
)
to-kind (CheckForbidden bounds out refutation classes) words line = (
  check_forbidden,
  (
    _,
    line.2,
    (
      record { number = bounds.jumps; low = omega arith; high = line.3.jumps; text = refl },
      (
        record { number = bounds.width; low = line.3.narrowest; high = line.3.widest; text = refl },
        (record { parts = out; text = line.4 }, line.5),
      ),
    ),
  ),
)
to-kind (Show classes) words line = (show, (_, line.1, line.2))
to-kind (Generate n seq refutation) words line =
    (generate, (_, line.1, (record { number = n; low = omega arith; high = line.2; text = refl }, line.3)))

-- the bounds of two number words
bounds-of : (j w : List ℕ) → IsNumberWord 0 255 j → IsNumberWord 2 32 w
    → (bounds : Bounds) × (j ≡ decimal bounds.jumps) × (w ≡ decimal bounds.width) × IsBounds bounds
bounds-of j w jumps width = (
  record { jumps = jumps.number; width = width.number },
  jumps.text,
  width.text,
  record { jumps = jumps.high; narrowest = width.low; widest = width.high },
)

-- a whole line is some command's
pub from-kind : (kind : Kind) (rest : List (List ℕ)) → LineRest (fields_of kind) (least_of kind) (most_of kind) rest
    → (command : Command) × CommandLine command (name_of kind ∷ rest)
from-kind decide [] line = absurd line
from-kind decide (j ∷ []) line = absurd line.1
from-kind decide (j ∷ w ∷ []) line = absurd line.1.1
from-kind decide (j ∷ w ∷ b ∷ []) line = absurd line.1.1.1
from-kind decide (j ∷ w ∷ b ∷ o ∷ files) line =
    let bounds = bounds-of j w line.0 line.1.0 in
    let budget = line.1.1.0 in
    let out = line.1.1.1.0 in (
      Decide bounds.0 budget.number out.parts 5 6 7,
      (files, o, cc (bounds.1, bounds.2, budget.text), bounds.3, omega (arith, budget.high), out.text, line.1.1.1.1, refl, refl, refl),
    )
from-kind check_allowed [] line = absurd line
from-kind check_allowed (j ∷ []) line = absurd line.1
from-kind check_allowed (j ∷ w ∷ []) line = absurd line.1.1
from-kind check_allowed (j ∷ w ∷ o ∷ files) line =
    let bounds = bounds-of j w line.0 line.1.0 in
    let out = line.1.1.0 in
    (CheckAllowed bounds.0 out.parts 4 5, (files, o, cc (bounds.1, bounds.2), bounds.3, out.text, line.1.1.1, refl, refl))
from-kind check_forbidden [] line = absurd line
from-kind check_forbidden (j ∷ []) line = absurd line.1
from-kind check_forbidden (j ∷ w ∷ []) line = absurd line.1.1
from-kind check_forbidden (j ∷ w ∷ o ∷ files) line =
    let bounds = bounds-of j w line.0 line.1.0 in
    let out = line.1.1.0 in
    (CheckForbidden bounds.0 out.parts 4 5, (files, o, cc (bounds.1, bounds.2), bounds.3, out.text, line.1.1.1, refl, refl))
from-kind show files line = (Show 1, (files, refl, line, refl))
from-kind generate [] line = absurd line
from-kind generate (n ∷ files) line = (Generate line.0.number 2 3, (files, cc (line.0.text), line.0.high, line.1, refl, refl))

usable : (kind : Kind) → AreUsable (fields_of kind) × (least_of kind ≤ most_of kind)
usable decide = ((omega arith, (omega arith, (omega arith, tt))), omega arith)
usable check_allowed = ((omega arith, (omega arith, tt)), omega arith)
usable check_forbidden = ((omega arith, (omega arith, tt)), omega arith)
usable show = (tt, omega arith)
usable generate = ((omega arith, tt), omega arith)

-- a front begins some command line
front-begins : (kind : Kind) (rest : List (List ℕ)) → FrontRest (fields_of kind) (most_of kind) rest → BeginsCommand (name_of kind ∷ rest)
front-begins kind rest front =
    let more = front-live (fields_of kind) (least_of kind) (most_of kind) rest (usable kind).0 (usable kind).1 front in
    let made = from-kind kind (rest ++ more.0) more.1 in
    record { command = made.0; rest = more.0; whole = made.1 }

-- words that begin a command line after its name are a front of that command
begins-front : (kind : Kind) (rest : List (List ℕ)) → BeginsCommand (name_of kind ∷ rest) → FrontRest (fields_of kind) (most_of kind) rest
begins-front kind rest b =
    let line = to-kind b.command (name_of kind ∷ (rest ++ b.rest)) b.whole in
    by_kind line.0 line.1
  where
    by_kind : (other : Kind) → KindLine other (name_of kind ∷ (rest ++ b.rest)) → FrontRest (fields_of kind) (most_of kind) rest
    by_kind other line =
        let heads : name_of kind ≡ name_of other = cc (line.1) in
        let tails : rest ++ b.rest ≡ line.0 = cc (line.1) in
        let same = same-name kind other heads in
        front-of (fields_of kind) (least_of kind) (most_of kind) rest b.rest
        (rw (tails, same) line.2)

-- where the words of a command are stuck
pub stuck-usage : (kind : Kind) (rest : List (List ℕ)) (at : ℕ) → StuckIn (fields_of kind) (least_of kind) (most_of kind) rest at
    → IsUsageAt (name_of kind ∷ rest) (suc at)
stuck-usage kind rest at stuck = record {
  fault = λ command whole.
      let line = to-kind command (name_of kind ∷ rest) whole in
      not-whole line.0 line.1;
  within = omega (arith, (stuck-front (fields_of kind) (least_of kind) (most_of kind) rest at stuck).1);
  begins = front-begins kind (take at rest) (stuck-front (fields_of kind) (least_of kind) (most_of kind) rest at stuck).0;
  longest = longer;
}
  where
    not-whole : (other : Kind) → KindLine other (name_of kind ∷ rest) → ⊥
    not-whole other line =
        let heads : name_of kind ≡ name_of other = cc (line.1) in
        let tails : rest ≡ line.0 = cc (line.1) in
        let same = same-name kind other heads in
        stuck-not_whole (fields_of kind) (least_of kind) (most_of kind) rest at stuck (rw (tails, same) line.2)

    longer : (more : ℕ) → suc at < more → more ≤ length (name_of kind ∷ rest) → BeginsCommand (take more (name_of kind ∷ rest)) → ⊥
    longer zero above low b = omega arith
    longer (suc more) above low b =
        stuck-dead (fields_of kind) (least_of kind) (most_of kind) rest at more stuck (omega arith) (omega arith) (begins-front kind (take more rest) b)

-- where the first word is no command's name, or missing
pub no-name : (words : List (List ℕ)) → ((kind : Kind) → slice_get words 0 ≢ Some (name_of kind)) → IsUsageAt words 0
no-name words none = record {
  fault = λ command whole. let line = to-kind command words whole in unnamed words line.0 line.1 none;
  within = omega arith;
  begins = record { command = Show 1; rest = some-show.0; whole = some-show.1 };
  longest = longer words none;
}
  where
    some-show : (rest : List (List ℕ)) × CommandLine (Show 1) rest
    some-show =
        let files = files-live 1 64 [] (omega arith) (no-files 64) in
        (codes "show" ∷ files.0, (files.0, refl, files.1, refl))

    unnamed : (all : List (List ℕ)) (kind : Kind) → KindLine kind all → ((k : Kind) → slice_get all 0 ≢ Some (name_of k)) → ⊥
    unnamed [] kind line unlike = cc (line.1)
    unnamed (word ∷ all) kind line unlike = unlike kind (cc (line.1))

    longer : (all : List (List ℕ)) → ((k : Kind) → slice_get all 0 ≢ Some (name_of k)) → (more : ℕ) → 0 < more → more ≤ length all
        → BeginsCommand (take more all) → ⊥
    longer all unlike zero above low b = omega arith
    longer [] unlike (suc more) above low b = omega arith
    longer (word ∷ all) unlike (suc more) above low b =
        let line = to-kind b.command (word ∷ (take more all ++ b.rest)) b.whole in
        unlike line.0 (first line.0 line.1)
      where
        first : (kind : Kind) → KindLine kind (word ∷ (take more all ++ b.rest)) → Some word ≡ Some (name_of kind)
        first kind line = cc (line.1)

-- the word at a place, and the words behind it
slice_get-first : (words : List (List ℕ)) (at : ℕ) → slice_get words at ≡ slice_get (drop at words) 0
slice_get-first words zero = refl
slice_get-first [] (suc at) = refl
slice_get-first (word ∷ words) (suc at) = slice_get-first words at

pub split-first : (words : List (List ℕ)) (at : ℕ) (word : List ℕ) → slice_get words at ≡ Some word → drop at words ≡ word ∷ drop (at + 1) words
split-first [] zero word is = absurd (cc)
split-first [] (suc at) word is = absurd (cc)
split-first (first ∷ words) zero word is = cc
split-first (first ∷ words) (suc at) word is =
    let next : suc at + 1 ≡ suc (at + 1) = omega arith in
    rw next (split-first words at word is)

-- a field at a place that is missing or does not fit
pub stuck-here : (field : Field) (fields : List Field) (least most : ℕ) (words : List (List ℕ)) (at : ℕ)
    → ((text : List ℕ) → slice_get words at ≡ Some text → ¬ (Fits field text)) → StuckIn (field ∷ fields) least most (drop at words) 0
stuck-here field fields least most words at misses =
    by_rest (drop at words) (λ text is. misses text (slice_get-first words at ∙ is))
  where
    by_rest : (rest : List (List ℕ)) → ((text : List ℕ) → slice_get rest 0 ≡ Some text → ¬ (Fits field text))
        → StuckIn (field ∷ fields) least most rest 0
    by_rest [] misses_rest = tt
    by_rest (word ∷ rest) misses_rest = misses_rest word refl

-- a field that fits, and what is stuck behind it
pub stuck-behind : (field : Field) (fields : List Field) (least most : ℕ) (words : List (List ℕ)) (from : ℕ) (word : List ℕ) (refusal : WordsRefusal)
    → slice_get words from ≡ Some word → Fits field word → StuckFrom fields least most words (from + 1) refusal
    → StuckFrom (field ∷ fields) least most words from refusal
stuck-behind field fields least most words from word (Usage place) is fits stuck =
    (stuck.0 + 1, omega (arith, stuck.1), rw (split-first words from word is, add-one stuck.0) (fits, stuck.2))
stuck-behind field fields least most words from word Memory is fits stuck = tt

-- the refusal of a field at a place
pub stuck-from : (field : Field) (fields : List Field) (least most : ℕ) (words : List (List ℕ)) (from : ℕ) (refusal : WordsRefusal)
    → MissesAt (Fits field) words from refusal → StuckFrom (field ∷ fields) least most words from refusal
stuck-from field fields least most words from (Usage place) misses = (0, omega (arith, misses.0), stuck-here field fields least most words from misses.1)
stuck-from field fields least most words from Memory misses = tt

-- the refusal of a command's words
pub stuck-refused : (kind : Kind) (words : List (List ℕ)) (refusal : WordsRefusal) → slice_get words 0 ≡ Some (name_of kind)
    → StuckFrom (fields_of kind) (least_of kind) (most_of kind) words 1 refusal → IsRefusedFor words refusal
stuck-refused kind words (Usage place) named stuck =
    let usage = stuck-usage kind (drop 1 words) stuck.0 stuck.2 in
    let next : place ≡ suc stuck.0 = omega (arith, stuck.1) in
    rw next (rw (← split-first words 0 (name_of kind) named) at usage)
stuck-refused kind words Memory named stuck = tt

-- the refusal of file words
pub stuck-files : (least most : ℕ) (words : List (List ℕ)) (from : ℕ) (refusal : WordsRefusal) → FilesMissFrom least most words from refusal
    → StuckFrom [] least most words from refusal
stuck-files least most words from (Usage place) misses = misses
stuck-files least most words from Memory misses = tt

-- the words of bounds fit
pub bounds-jumps : (bounds : Bounds) → IsBounds bounds → Fits (number 0 255) (decimal bounds.jumps)
bounds-jumps bounds fit = record { number = bounds.jumps; low = omega arith; high = fit.jumps; text = refl }

pub bounds-width : (bounds : Bounds) → IsBounds bounds → Fits (number 2 32) (decimal bounds.width)
bounds-width bounds fit = record { number = bounds.width; low = fit.narrowest; high = fit.widest; text = refl }

-- a first word that differs from a name
pub unlike-name : (words : List (List ℕ)) (word name : List ℕ) → slice_get words 0 ≡ Some word → bytes_eq word name ≡ false
    → slice_get words 0 ≡ Some name → ⊥
unlike-name words word name is differs same =
    let names : word ≡ name = cc in
    let equal = (bytes_eq-Decides word name).1 names in
    cc
