-- The lines of a sequence's text are those of one execution and one sequence.
use Rattle.std.proofs.Common.{◌≡◌, ◌≢◌, ◌++◌, ◌<◌, ◌^◌, ℕ, List, [], ◌∷◌, All, codes, map, refl, sym, ap, ap₂, subst, ◌∙◌, append_assoc, arith}
use Rattle.std.specs.List.{flat_map}
use Rattle.std.specs.Fmt.{decimal}
use Rattle.std.proofs.lemmas.Fmt.{decimal_injective}
use Rattle.line_text.proofs.DigitLaws.{decimal-head}
use Rattle.program.proofs.Lists.{all_head, all_tail}
use Rattle.action_orders.specs.declared.action.ActionRef.{ActionRef}
use Rattle.action_orders.specs.declared.action.ActionRef.TheVariants.{Default, Id}
use Rattle.action_orders.specs.declared.action.Entry.{Entry}
use Rattle.action_orders.specs.declared.execution.ThreadPart.{ThreadPart}
use Rattle.action_orders.specs.declared.sequence.SequenceStep.{SequenceStep}
use Rattle.action_orders.specs.Execution.{Exec, IsEntryOf}
use Rattle.action_orders.specs.Sequence.{IsMemberSet}
use Rattle.action_orders.specs.Spelling.{IsSpeltEntry, IsSpeltPart, IsSpeltRef}
use Rattle.sequence_text.specs.SequenceText.{body_text, entry_text, id_text, member_text, sequence_text, step_text, thread_text}
use Rattle.one_sequence.specs.Pairs.{IsIdentifier, IsNumberedEntry, IsNumberedMember, IsTextOf, IsWritable, IsWritableStep}
use Rattle.one_sequence.proofs.Entries.{entry_before, entry_is_line, entry_line, number_word, one_entry, one_variable, plain_word, variable_is_word, variable_word, word_append}
use Rattle.one_sequence.proofs.TextLines.{AreLines, AreWords, IsWord, TextLine, heads, lines_before, one_list, words_before}

-- ---- Lines

abbrev thread_line : ℕ → TextLine
thread_line k = record { first = codes "t"; more = decimal k ∷ [] }

abbrev order_line : List ℕ → TextLine
order_line so = record { first = codes "so"; more = map decimal so }

abbrev thread_lines : List ThreadPart → List TextLine → List TextLine
thread_lines [] rest = rest
thread_lines (t ∷ ts) rest = thread_line t.thread ∷ (map entry_line t.entries ++ thread_lines ts rest)

abbrev body_lines : Exec → List TextLine → List TextLine
body_lines e rest = thread_lines e.threads (order_line e.so ∷ rest)

abbrev member_word : ActionRef → List ℕ
member_word (Default class name) = 45 ∷ variable_word class name
member_word (Id id) = decimal id

abbrev commit_line : List ActionRef → TextLine
commit_line set = record { first = codes "commit"; more = map member_word set }

abbrev one_word : List ℕ → TextLine
one_word w = record { first = w; more = [] }

abbrev step_lines : List SequenceStep → List TextLine
step_lines [] = one_word (codes "end") ∷ []
step_lines (s ∷ ss) = one_word (codes "step") ∷ commit_line s.set ∷ body_lines s.execution (step_lines ss)

abbrev sequence_lines : Exec → List SequenceStep → List TextLine
sequence_lines e s = record { first = codes "jmm-sequence"; more = codes "1" ∷ [] } ∷ one_word (codes "execution") ∷ body_lines e (step_lines s)

-- ---- Their text

ids_before : (ids : List ℕ) (x : List ℕ) → flat_map id_text ids ++ x ≡ words_before (map decimal ids) x
ids_before [] x = refl
ids_before (id ∷ ids) x = append_assoc (id_text id) (flat_map id_text ids) x ∙ ap (λ (r : List ℕ). id_text id ++ r) (ids_before ids x)

member_before : (a : ActionRef) (x : List ℕ) → member_text a ++ x ≡ 32 ∷ (member_word a ++ x)
member_before (Default class name) x = refl
member_before (Id id) x = refl

members_before : (set : List ActionRef) (x : List ℕ) → flat_map member_text set ++ x ≡ words_before (map member_word set) x
members_before [] x = refl
members_before (a ∷ set) x =
    append_assoc (member_text a) (flat_map member_text set) x ∙ ap (λ (r : List ℕ). member_text a ++ r) (members_before set x) ∙ member_before a (words_before (map member_word set) x)

entries_before : (ns : List Entry) (lines : List TextLine) → flat_map entry_text ns ++ lines_before lines [] ≡ lines_before (map entry_line ns ++ lines) []
entries_before [] lines = refl
entries_before (n ∷ ns) lines =
    append_assoc (entry_text n) (flat_map entry_text ns) (lines_before lines []) ∙ ap (λ (r : List ℕ). entry_text n ++ r) (entries_before ns lines)
    ∙ entry_before n (lines_before (map entry_line ns ++ lines) [])

thread_before : (t : ThreadPart) (lines : List TextLine) → thread_text t ++ lines_before lines [] ≡ lines_before (thread_line t.thread ∷ (map entry_line t.entries ++ lines)) []
thread_before t lines =
    append_assoc (codes "t " ++ decimal t.thread ++ codes "\n") (flat_map entry_text t.entries) (lines_before lines [])
    ∙ ap (λ (r : List ℕ). (codes "t " ++ decimal t.thread ++ codes "\n") ++ r) (entries_before t.entries lines)
    ∙ ap (λ (r : List ℕ). 116 ∷ 32 ∷ r) (append_assoc (decimal t.thread) (codes "\n") (lines_before (map entry_line t.entries ++ lines) []))

threads_before : (ts : List ThreadPart) (lines : List TextLine) → flat_map thread_text ts ++ lines_before lines [] ≡ lines_before (thread_lines ts lines) []
threads_before [] lines = refl
threads_before (t ∷ ts) lines =
    append_assoc (thread_text t) (flat_map thread_text ts) (lines_before lines []) ∙ ap (λ (r : List ℕ). thread_text t ++ r) (threads_before ts lines) ∙ thread_before t (thread_lines ts lines)

body_before : (e : Exec) (lines : List TextLine) → body_text e ++ lines_before lines [] ≡ lines_before (body_lines e lines) []
body_before e lines =
    let threads = flat_map thread_text e.threads in
    let so = codes "so" in
    let ids = flat_map id_text e.so in
    let rest = lines_before lines [] in
    append_assoc (threads ++ so ++ ids) (codes "\n") rest ∙ append_assoc (threads ++ so) ids (10 ∷ rest) ∙ append_assoc threads so (ids ++ 10 ∷ rest)
    ∙ ap (λ (r : List ℕ). threads ++ (so ++ r)) (ids_before e.so (10 ∷ rest)) ∙ threads_before e.threads (order_line e.so ∷ lines)

step_before : (s : SequenceStep) (lines : List TextLine) → step_text s ++ lines_before lines [] ≡ lines_before (one_word (codes "step") ∷ commit_line s.set ∷ body_lines s.execution lines) []
step_before s lines =
    let head = codes "step\ncommit" in
    let members = flat_map member_text s.set in
    let body = body_text s.execution in
    let rest = lines_before lines [] in
    append_assoc (head ++ members ++ codes "\n") body rest ∙ append_assoc (head ++ members) (codes "\n") (body ++ rest) ∙ append_assoc head members (10 ∷ (body ++ rest))
    ∙ ap (λ (r : List ℕ). head ++ r)
    (members_before s.set (10 ∷ (body ++ rest)) ∙ ap (λ (r : List ℕ). words_before (map member_word s.set) (10 ∷ r)) (body_before s.execution lines))

steps_before : (s : List SequenceStep) → flat_map step_text s ++ codes "end\n" ≡ lines_before (step_lines s) []
steps_before [] = refl
steps_before (s ∷ ss) =
    append_assoc (step_text s) (flat_map step_text ss) (codes "end\n") ∙ ap (λ (r : List ℕ). step_text s ++ r) (steps_before ss) ∙ step_before s (step_lines ss)

sequence_before : (e : Exec) (s : List SequenceStep) → sequence_text e s ≡ lines_before (sequence_lines e s) []
sequence_before e s =
    let head = codes "jmm-sequence 1\nexecution\n" in
    append_assoc (head ++ body_text e) (flat_map step_text s) (codes "end\n") ∙ append_assoc head (body_text e) (flat_map step_text s ++ codes "end\n")
    ∙ ap (λ (r : List ℕ). head ++ r) (ap (λ (r : List ℕ). body_text e ++ r) (steps_before s) ∙ body_before e (step_lines s))

-- ---- They are lines

numbers_are_words : (ids : List ℕ) → All IsIdentifier ids → AreWords (map decimal ids)
numbers_are_words [] all = tt
numbers_are_words (id ∷ ids) all = (number_word id (all_head IsIdentifier id ids all), numbers_are_words ids (all_tail IsIdentifier id ids all))

member_is_word : (a : ActionRef) → IsSpeltRef a → IsNumberedMember a → IsWord (member_word a)
member_is_word (Default class name) spelt numbers = word_append (codes "-") (variable_word class name) (plain_word (codes "-") refl) (variable_is_word class name spelt.0 spelt.1)
member_is_word (Id id) spelt numbers = number_word id numbers

members_are_words : (set : List ActionRef) → All IsSpeltRef set → All IsNumberedMember set → AreWords (map member_word set)
members_are_words [] spelt numbers = tt
members_are_words (a ∷ set) spelt numbers =
    (member_is_word a (all_head IsSpeltRef a set spelt) (all_head IsNumberedMember a set numbers), members_are_words set (all_tail IsSpeltRef a set spelt) (all_tail IsNumberedMember a set numbers))

entries_are_lines : (ns : List Entry) (rest : List TextLine) → All IsSpeltEntry ns → All IsNumberedEntry ns → AreLines rest → AreLines (map entry_line ns ++ rest)
entries_are_lines [] rest spelt numbers lines = lines
entries_are_lines (n ∷ ns) rest spelt numbers lines =
    (entry_is_line n (all_head IsSpeltEntry n ns spelt) (all_head IsNumberedEntry n ns numbers), entries_are_lines ns rest (all_tail IsSpeltEntry n ns spelt) (all_tail IsNumberedEntry n ns numbers) lines)

abbrev IsNumberedPart : ThreadPart → Type 0
IsNumberedPart t = All IsNumberedEntry t.entries

threads_are_lines : (ts : List ThreadPart) (rest : List TextLine) → All IsSpeltPart ts → All IsNumberedPart ts → AreLines rest → AreLines (thread_lines ts rest)
threads_are_lines [] rest spelt numbers lines = lines
threads_are_lines (t ∷ ts) rest spelt numbers lines =
    let own = all_head IsSpeltPart t ts spelt in
    let small = own.thread in (
      record { first = plain_word (codes "t") refl; more = (number_word t.thread (omega (arith, small)), tt) },
      entries_are_lines t.entries (thread_lines ts rest) own.entries (all_head IsNumberedPart t ts numbers) (threads_are_lines ts rest (all_tail IsSpeltPart t ts spelt) (all_tail IsNumberedPart t ts numbers) lines),
    )

body_is_lines : (e : Exec) (rest : List TextLine) → IsWritable e → AreLines rest → AreLines (body_lines e rest)
body_is_lines e rest writable lines =
    threads_are_lines e.threads (order_line e.so ∷ rest) writable.kept.spelt writable.entries (record { first = plain_word (codes "so") refl; more = numbers_are_words e.so writable.order }, lines)

abbrev HasMemberSet : SequenceStep → Type 0
HasMemberSet s = IsMemberSet s.set

steps_are_lines : (s : List SequenceStep) → All HasMemberSet s → All IsWritableStep s → AreLines (step_lines s)
steps_are_lines [] sets writable = (record { first = plain_word (codes "end") refl; more = tt }, tt)
steps_are_lines (s ∷ ss) sets writable =
    let own = all_head IsWritableStep s ss writable in (
      record { first = plain_word (codes "step") refl; more = tt },
      (
        record { first = plain_word (codes "commit") refl; more = members_are_words s.set (all_head HasMemberSet s ss sets).spelt own.members },
        body_is_lines s.execution (step_lines ss) own.execution (steps_are_lines ss (all_tail HasMemberSet s ss sets) (all_tail IsWritableStep s ss writable)),
      ),
    )

-- ---- One pair

-- what follows an action's lines is none
abbrev NoEntry : List TextLine → Type 0
NoEntry [] = ⊥
NoEntry (l ∷ ls) = l.first ≢ codes "a"

entries_split : (thread : ℕ) (ns ms : List Entry) (x y : List TextLine) → All (IsEntryOf thread) ns → All (IsEntryOf thread) ms → All IsSpeltEntry ns → All IsSpeltEntry ms → All IsNumberedEntry ns → All IsNumberedEntry ms →
    NoEntry x → NoEntry y → map entry_line ns ++ x ≡ map entry_line ms ++ y → (ns ≡ ms) × (x ≡ y)
entries_split thread [] [] x y own other spelt also numbers more ends stops same = (refl, same)
entries_split thread [] (m ∷ ms) [] y own other spelt also numbers more ends stops same = absurd ends
entries_split thread [] (m ∷ ms) (l ∷ x) y own other spelt also numbers more ends stops same = absurd (ends (ap (λ (k : TextLine). k.first) (let head : l ≡ entry_line m = cc in head)))
entries_split thread (n ∷ ns) [] x [] own other spelt also numbers more ends stops same = absurd stops
entries_split thread (n ∷ ns) [] x (l ∷ y) own other spelt also numbers more ends stops same = absurd (stops (ap (λ (k : TextLine). k.first) (let head : l ≡ entry_line n = cc in head)))
entries_split thread (n ∷ ns) (m ∷ ms) x y own other spelt also numbers more ends stops same =
    let head : entry_line n ≡ entry_line m = cc in
    let tail : map entry_line ns ++ x ≡ map entry_line ms ++ y = cc in
    let first = one_entry thread n m (all_head (IsEntryOf thread) n ns own) (all_head (IsEntryOf thread) m ms other) (all_head IsSpeltEntry n ns spelt) (all_head IsSpeltEntry m ms also)
    (all_head IsNumberedEntry n ns numbers) (all_head IsNumberedEntry m ms more) head in
    let rest = entries_split thread ns ms x y (all_tail (IsEntryOf thread) n ns own) (all_tail (IsEntryOf thread) m ms other) (all_tail IsSpeltEntry n ns spelt) (all_tail IsSpeltEntry m ms also)
    (all_tail IsNumberedEntry n ns numbers) (all_tail IsNumberedEntry m ms more) ends stops tail in
    (ap₂ (λ (k : Entry) (ks : List Entry). k ∷ ks) first rest.0, rest.1)

abbrev IsOwnPart : ThreadPart → Type 0
IsOwnPart t = All (IsEntryOf t.thread) t.entries

no_entry_behind : (ts : List ThreadPart) (so : List ℕ) (rest : List TextLine) → NoEntry (thread_lines ts (order_line so ∷ rest))
no_entry_behind [] so rest = λ is. omega (arith, heads 115 97 (111 ∷ []) [] is)
no_entry_behind (t ∷ ts) so rest = λ is. omega (arith, heads 116 97 [] [] is)

numbers_one : (xs ys : List ℕ) → All IsIdentifier xs → All IsIdentifier ys → map decimal xs ≡ map decimal ys → xs ≡ ys
numbers_one [] [] one other same = refl
numbers_one [] (y ∷ ys) one other same = absurd cc
numbers_one (x ∷ xs) [] one other same = absurd cc
numbers_one (x ∷ xs) (y ∷ ys) one other same =
    let head : decimal x ≡ decimal y = cc in
    let tail : map decimal xs ≡ map decimal ys = cc in
    ap₂ (λ (k : ℕ) (ks : List ℕ). k ∷ ks) (decimal_injective x y (all_head IsIdentifier x xs one) (all_head IsIdentifier y ys other) head)
    (numbers_one xs ys (all_tail IsIdentifier x xs one) (all_tail IsIdentifier y ys other) tail)

threads_split : (ts us : List ThreadPart) (so order : List ℕ) (x y : List TextLine) → All IsOwnPart ts → All IsOwnPart us → All IsSpeltPart ts → All IsSpeltPart us → All IsNumberedPart ts → All IsNumberedPart us →
    All IsIdentifier so → All IsIdentifier order → thread_lines ts (order_line so ∷ x) ≡ thread_lines us (order_line order ∷ y) → (ts ≡ us) × (so ≡ order) × (x ≡ y)
threads_split [] [] so order x y own other spelt also numbers more ids others same =
    let head : order_line so ≡ order_line order = cc in
    let tail : x ≡ y = cc in
    (refl, numbers_one so order ids others (ap (λ (l : TextLine). l.more) head), tail)
threads_split [] (u ∷ us) so order x y own other spelt also numbers more ids others same =
    absurd (let head : order_line so ≡ thread_line u.thread = cc in omega (arith, heads 115 116 (111 ∷ []) [] (ap (λ (l : TextLine). l.first) head)))
threads_split (t ∷ ts) [] so order x y own other spelt also numbers more ids others same =
    absurd (let head : thread_line t.thread ≡ order_line order = cc in omega (arith, heads 116 115 [] (111 ∷ []) (ap (λ (l : TextLine). l.first) head)))
threads_split (t ∷ ts) (u ∷ us) so order x y own other spelt also numbers more ids others same =
    let head : thread_line t.thread ≡ thread_line u.thread = cc in
    let tail : map entry_line t.entries ++ thread_lines ts (order_line so ∷ x) ≡ map entry_line u.entries ++ thread_lines us (order_line order ∷ y) = cc in
    let one = all_head IsSpeltPart t ts spelt in
    let two = all_head IsSpeltPart u us also in
    let small = one.thread in
    let few = two.thread in
    let words = ap (λ (l : TextLine). l.more) head in
    let word : decimal t.thread ≡ decimal u.thread = cc in
    let thread = decimal_injective t.thread u.thread (omega (arith, small)) (omega (arith, few)) word in
    let theirs = subst (λ (k : ℕ). All (IsEntryOf k) u.entries) (sym thread) (all_head IsOwnPart u us other) in
    let entries = entries_split t.thread t.entries u.entries (thread_lines ts (order_line so ∷ x)) (thread_lines us (order_line order ∷ y)) (all_head IsOwnPart t ts own) theirs one.entries two.entries
    (all_head IsNumberedPart t ts numbers) (all_head IsNumberedPart u us more) (no_entry_behind ts so x) (no_entry_behind us order y) tail in
    let rest = threads_split ts us so order x y (all_tail IsOwnPart t ts own) (all_tail IsOwnPart u us other) (all_tail IsSpeltPart t ts spelt) (all_tail IsSpeltPart u us also)
    (all_tail IsNumberedPart t ts numbers) (all_tail IsNumberedPart u us more) ids others entries.1 in
    let listed = entries.0 in
    let part : t ≡ u = λ i. record { thread = thread i; entries = listed i } in
    (ap₂ (λ (k : ThreadPart) (ks : List ThreadPart). k ∷ ks) part rest.0, rest.1, rest.2)

body_split : (e f : Exec) (x y : List TextLine) → IsWritable e → IsWritable f → body_lines e x ≡ body_lines f y → (e ≡ f) × (x ≡ y)
body_split e f x y one other same =
    let parts = threads_split e.threads f.threads e.so f.so x y one.kept.shape.entries other.kept.shape.entries one.kept.spelt other.kept.spelt one.entries other.entries one.order other.order same in
    let threads = parts.0 in
    let order = parts.1 in
    ((λ i. record { threads = threads i; so = order i }), parts.2)

no_minus_word : (id : ℕ) (class name : List ℕ) → id < 2 ^ 64 → 45 ∷ variable_word class name ≡ decimal id → ⊥
no_minus_word id class name few same =
    let head = decimal-head id few in
    let both : 45 ∷ variable_word class name ≡ head.0 ∷ head.1.0 = same ∙ head.1.1.0 in
    let first = heads 45 head.0 (variable_word class name) head.1.0 both in
    let digit = head.1.1.1 in
    omega (arith, first, digit)

one_member : (a b : ActionRef) → IsSpeltRef a → IsSpeltRef b → IsNumberedMember a → IsNumberedMember b → member_word a ≡ member_word b → a ≡ b
one_member (Default c n) (Default d m) spelt also numbers more same =
    let word : variable_word c n ≡ variable_word d m = cc in
    let parts = one_variable c n d m spelt.0.bytes also.0.bytes word in
    ap₂ Default parts.0 parts.1
one_member (Default c n) (Id id) spelt also numbers more same = absurd (no_minus_word id c n more same)
one_member (Id id) (Default d m) spelt also numbers more same = absurd (no_minus_word id d m numbers (sym same))
one_member (Id id) (Id other) spelt also numbers more same = ap Id (decimal_injective id other numbers more same)

one_set : (xs ys : List ActionRef) → All IsSpeltRef xs → All IsSpeltRef ys → All IsNumberedMember xs → All IsNumberedMember ys → map member_word xs ≡ map member_word ys → xs ≡ ys
one_set [] [] spelt also numbers more same = refl
one_set [] (y ∷ ys) spelt also numbers more same = absurd cc
one_set (x ∷ xs) [] spelt also numbers more same = absurd cc
one_set (x ∷ xs) (y ∷ ys) spelt also numbers more same =
    let head : member_word x ≡ member_word y = cc in
    let tail : map member_word xs ≡ map member_word ys = cc in
    ap₂ (λ (k : ActionRef) (ks : List ActionRef). k ∷ ks)
    (one_member x y (all_head IsSpeltRef x xs spelt) (all_head IsSpeltRef y ys also) (all_head IsNumberedMember x xs numbers) (all_head IsNumberedMember y ys more) head)
    (one_set xs ys (all_tail IsSpeltRef x xs spelt) (all_tail IsSpeltRef y ys also) (all_tail IsNumberedMember x xs numbers) (all_tail IsNumberedMember y ys more) tail)

steps_split : (s t : List SequenceStep) → All HasMemberSet s → All HasMemberSet t → All IsWritableStep s → All IsWritableStep t → step_lines s ≡ step_lines t → s ≡ t
steps_split [] [] sets others one other same = refl
steps_split [] (t ∷ ts) sets others one other same =
    absurd (let head : one_word (codes "end") ≡ one_word (codes "step") = cc in omega (arith, heads 101 115 (110 ∷ 100 ∷ []) (116 ∷ 101 ∷ 112 ∷ []) (ap (λ (l : TextLine). l.first) head)))
steps_split (s ∷ ss) [] sets others one other same =
    absurd (let head : one_word (codes "step") ≡ one_word (codes "end") = cc in omega (arith, heads 115 101 (116 ∷ 101 ∷ 112 ∷ []) (110 ∷ 100 ∷ []) (ap (λ (l : TextLine). l.first) head)))
steps_split (s ∷ ss) (t ∷ ts) sets others one other same =
    let commit : commit_line s.set ≡ commit_line t.set = cc in
    let tail : body_lines s.execution (step_lines ss) ≡ body_lines t.execution (step_lines ts) = cc in
    let own = all_head IsWritableStep s ss one in
    let their = all_head IsWritableStep t ts other in
    let set = one_set s.set t.set (all_head HasMemberSet s ss sets).spelt (all_head HasMemberSet t ts others).spelt own.members their.members (ap (λ (l : TextLine). l.more) commit) in
    let body = body_split s.execution t.execution (step_lines ss) (step_lines ts) own.execution their.execution tail in
    let execution = body.0 in
    let step : s ≡ t = λ i. record { set = set i; execution = execution i } in
    ap₂ (λ (k : SequenceStep) (ks : List SequenceStep). k ∷ ks) step
    (steps_split ss ts (all_tail HasMemberSet s ss sets) (all_tail HasMemberSet t ts others) (all_tail IsWritableStep s ss one) (all_tail IsWritableStep t ts other) body.1)

sequence_is_lines : (e : Exec) (s : List SequenceStep) (bytes : List ℕ) → IsTextOf e s bytes → AreLines (sequence_lines e s)
sequence_is_lines e s bytes is = (
  record { first = plain_word (codes "jmm-sequence") refl; more = (plain_word (codes "1") refl, tt) },
  (record { first = plain_word (codes "execution") refl; more = tt }, body_is_lines e (step_lines s) is.execution (steps_are_lines s is.sequence.sets is.steps)),
)

pub one_pair : (e f : Exec) (s t : List SequenceStep) (bytes : List ℕ) → IsTextOf e s bytes → IsTextOf f t bytes → (e ≡ f) × (s ≡ t)
one_pair e f s t bytes one other =
    let texts = sym (sequence_before e s) ∙ sym one.text ∙ other.text ∙ sequence_before f t in
    let lines = one_list (sequence_lines e s) (sequence_lines f t) (sequence_is_lines e s bytes one) (sequence_is_lines f t bytes other) texts in
    let tail : body_lines e (step_lines s) ≡ body_lines f (step_lines t) = cc in
    let body = body_split e f (step_lines s) (step_lines t) one.execution other.execution tail in
    (body.0, steps_split s t one.sequence.sets other.sequence.sets one.steps other.steps body.1)
