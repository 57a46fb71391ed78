-- The line of an action is that of one action of its thread.
use Rattle.std.proofs.Common.{◌≡◌, ◌++◌, ◌<◌, ◌^◌, ◌&&◌, suc, ℕ, ℤ, pos, negsuc, Bool, true, false, List, [], ◌∷◌, Option, Some, None, All, codes, find, nat_eq, nat_lt, refl, sym, ap, ap₂, subst, ◌∙◌, append_assoc, arith}
use lib.Pointwise.{pointwise}
use lib.Signed.{mag}
use Rattle.std.proofs.lemmas.Bool.{false≢true, ltb-true}
use Rattle.std.proofs.lemmas.Option.{same_Some}
use Rattle.std.specs.Fmt.{decimal, signed_decimal}
use Rattle.std.proofs.lemmas.Fmt.{decimal_injective, signed_decimal_injective}
use Rattle.std.proofs.lemmas.Int.{ints}
use Rattle.line_text.proofs.DigitLaws.{Digits, decimal-digits, decimal-head}
use Rattle.program.specs.Ints.{IsInt}
use Rattle.program.specs.Names.{IsName, IsNameByte}
use Rattle.program.specs.declared.kind.Kind.{Kind}
use Rattle.program.specs.declared.kind.Kind.TheVariants.{Read, Write, VolatileRead, VolatileWrite, Lock, Unlock, First, Last, Start, Detect, Print}
use Rattle.action_orders.specs.declared.action.ActionOperand.{ActionOperand}
use Rattle.action_orders.specs.declared.action.ActionOperand.TheVariants.{Variable, Monitor, Thread}
use Rattle.action_orders.specs.declared.action.ActionOperand.TheVariants as operand
use Rattle.action_orders.specs.declared.action.Entry.{Entry}
use Rattle.action_orders.specs.declared.action.Note.{Note}
use Rattle.action_orders.specs.declared.action.Note.TheVariants.{Sees, Stores}
use Rattle.action_orders.specs.declared.action.Note.TheVariants as note
use Rattle.action_orders.specs.Execution.{FitsKind, HasNote, IsEntryOf}
use Rattle.action_orders.specs.Spelling.{IsSpeltEntry, IsSpeltOperand}
use Rattle.sequence_text.specs.SequenceText.{action_head, entry_text, kind_word, note_text, operand_text}
use Rattle.one_sequence.specs.Pairs.{IsNumberedEntry, IsNumberedNote}
use Rattle.one_sequence.proofs.TextLines.{AreWords, IsLine, IsWord, TextLine, heads, line_before, words_before}

-- ---- Words

pub digits_word : (ds : List ℕ) → Digits ds → IsWord ds
digits_word [] digits = tt
digits_word (d ∷ ds) digits = (λ is. omega (arith, is, digits.0), λ is. omega (arith, is, digits.0), digits_word ds digits.1)

pub number_word : (n : ℕ) → n < 2 ^ 64 → IsWord (decimal n)
number_word n few = digits_word (decimal n) (decimal-digits n few)

int_word : (z : ℤ) → IsInt z → IsWord (signed_decimal z)
int_word (pos n) is = number_word n (omega (arith, ints, is))
int_word (negsuc n) is = (λ e. omega (arith, e), λ e. omega (arith, e), number_word (suc n) (omega (arith, ints, is)))

pub name_word : (name : List ℕ) → All IsNameByte name → IsWord name
name_word [] bytes = tt
name_word (b ∷ name) bytes =
    let first = bytes 0 0 (omega arith) in
    let low = first.printable in
    (λ is. omega (arith, is, low), λ is. omega (arith, is, low), name_word name (λ k d within. bytes (suc k) d (omega (arith, within))))

pub word_append : (v w : List ℕ) → IsWord v → IsWord w → IsWord (v ++ w)
word_append [] w one other = other
word_append (b ∷ v) w one other = (one.0, one.1, word_append v w one.2 other)

-- a variable's name: that of its class, a dot, and its own
abbrev pub variable_word : List ℕ → List ℕ → List ℕ
variable_word class name = class ++ codes "." ++ name

pub variable_is_word : (class name : List ℕ) → IsName class → IsName name → IsWord (variable_word class name)
variable_is_word class name one other =
    word_append (class ++ codes ".") name (word_append class (codes ".") (name_word class one.bytes) (λ e. omega (arith, e), λ e. omega (arith, e), tt)) (name_word name other.bytes)

-- one class and one name
pub one_variable : (a b c d : List ℕ) → All IsNameByte a → All IsNameByte c → variable_word a b ≡ variable_word c d → (a ≡ c) × (b ≡ d)
one_variable [] b [] d one other same = (refl, (let tail : b ≡ d = cc in tail))
one_variable [] b (x ∷ c) d one other same = absurd ((other 0 0 (omega arith)).no_dot (let head : x ≡ 0x2e = cc in head))
one_variable (x ∷ a) b [] d one other same = absurd ((one 0 0 (omega arith)).no_dot (let head : x ≡ 0x2e = cc in head))
one_variable (x ∷ a) b (y ∷ c) d one other same =
    let head : x ≡ y = cc in
    let tail : variable_word a b ≡ variable_word c d = cc in
    let rest = one_variable a b c d (λ k e within. one (suc k) e (omega (arith, within))) (λ k e within. other (suc k) e (omega (arith, within))) tail in
    (ap₂ (λ (z : ℕ) (zs : List ℕ). z ∷ zs) head rest.0, rest.1)

abbrev pub operand_words : ActionOperand → List (List ℕ)
operand_words (Variable class name) = variable_word class name ∷ []
operand_words (Monitor class) = class ∷ []
operand_words (Thread k) = decimal k ∷ []
operand_words operand.Nothing = []

abbrev pub note_words : Note → List (List ℕ)
note_words (Sees (Some id)) = decimal id ∷ []
note_words (Sees None) = codes "-" ∷ []
note_words (Stores value) = signed_decimal value ∷ []
note_words note.Nothing = []

abbrev pub entry_line : Entry → TextLine
entry_line n = record { first = codes "a"; more = decimal n.action.id ∷ kind_word n.action.kind ∷ (operand_words n.action.operand ++ note_words n.note) }

-- ---- The text of the line

operand_before : (o : ActionOperand) (ws : List (List ℕ)) (x : List ℕ) → operand_text o ++ words_before ws x ≡ words_before (operand_words o ++ ws) x
operand_before (Variable class name) ws x = refl
operand_before (Monitor class) ws x = refl
operand_before (Thread k) ws x = refl
operand_before operand.Nothing ws x = refl

note_before : (n : Note) (x : List ℕ) → note_text n ++ x ≡ words_before (note_words n) x
note_before (Sees (Some id)) x = refl
note_before (Sees None) x = refl
note_before (Stores value) x = refl
note_before note.Nothing x = refl

pub entry_before : (n : Entry) (x : List ℕ) → entry_text n ++ x ≡ line_before (entry_line n) x
entry_before n x =
    let h = action_head n.action in
    let o = operand_text n.action.operand in
    let m = note_text n.note in
    let words = words_before (operand_words n.action.operand ++ note_words n.note) (10 ∷ x) in
    append_assoc (h ++ o ++ m) (codes "\n") x ∙ append_assoc (h ++ o) m (10 ∷ x) ∙ append_assoc h o (m ++ 10 ∷ x)
    ∙ ap (λ (r : List ℕ). h ++ (o ++ r)) (note_before n.note (10 ∷ x)) ∙ ap (λ (r : List ℕ). h ++ r) (operand_before n.action.operand (note_words n.note) (10 ∷ x))
    ∙ ap (λ (r : List ℕ). 97 ∷ 32 ∷ r) (append_assoc (decimal n.action.id ++ codes " ") (kind_word n.action.kind) words ∙ append_assoc (decimal n.action.id) (codes " ") (kind_word n.action.kind ++ words))

-- ---- The words of the line

abbrev plain_bytes : List ℕ → Bool
plain_bytes [] = true
plain_bytes (b ∷ bs) = nat_lt 32 b && plain_bytes bs

both : (a b : Bool) → (a && b) ≡ true → (a ≡ true) × (b ≡ true)
both true b is = (refl, is)
both false b is = absurd (false≢true is)

pub plain_word : (w : List ℕ) → plain_bytes w ≡ true → IsWord w
plain_word [] is = tt
plain_word (b ∷ bs) is =
    let parts = both (nat_lt 32 b) (plain_bytes bs) is in
    let above = ltb-true 32 b parts.0 in
    (λ e. omega (arith, e, above), λ e. omega (arith, e, above), plain_word bs parts.1)

kind_plain : (k : Kind) → plain_bytes (kind_word k) ≡ true
kind_plain Read = refl
kind_plain k = refl

abbrev kinds : List Kind
kinds = Read ∷ Write ∷ VolatileRead ∷ VolatileWrite ∷ Lock ∷ Unlock ∷ First ∷ Last ∷ Start ∷ Detect ∷ Print ∷ []

abbrev kind_of : List ℕ → Option Kind
kind_of w = find (λ k. pointwise nat_eq (kind_word k) w) kinds

kind_found : (k : Kind) → kind_of (kind_word k) ≡ Some k
kind_found Read = refl
kind_found k = refl

one_kind : (k l : Kind) → kind_word k ≡ kind_word l → k ≡ l
one_kind k l same = same_Some k l (sym (kind_found k) ∙ ap kind_of same ∙ kind_found l)

operand_is_words : (o : ActionOperand) (ws : List (List ℕ)) → IsSpeltOperand o → AreWords ws → AreWords (operand_words o ++ ws)
operand_is_words (Variable class name) ws spelt words = (variable_is_word class name spelt.0 spelt.1, words)
operand_is_words (Monitor class) ws spelt words = (name_word class spelt.bytes, words)
operand_is_words (Thread k) ws spelt words = (number_word k (omega (arith, spelt)), words)
operand_is_words operand.Nothing ws spelt words = words

note_is_words : (n : Note) → IsNumberedNote n → AreWords (note_words n)
note_is_words (Sees (Some id)) fits = (number_word id fits, tt)
note_is_words (Sees None) fits = (plain_word (codes "-") refl, tt)
note_is_words (Stores value) fits = (int_word value fits, tt)
note_is_words note.Nothing fits = tt

pub entry_is_line : (n : Entry) → IsSpeltEntry n → IsNumberedEntry n → IsLine (entry_line n)
entry_is_line n spelt numbers = record {
  first = plain_word (codes "a") refl;
  more = (number_word n.action.id numbers.id, (plain_word (kind_word n.action.kind) (kind_plain n.action.kind), operand_is_words n.action.operand (note_words n.note) spelt (note_is_words n.note numbers.note)));
}

-- ---- One operand and one note for a kind

data OperandSort : Type 0 where
  OfVariable : OperandSort
  OfMonitor : OperandSort
  OfThread : OperandSort
  OfNothing : OperandSort

abbrev operand_sort : Kind → OperandSort
operand_sort Read = OfVariable
operand_sort Write = OfVariable
operand_sort VolatileRead = OfVariable
operand_sort VolatileWrite = OfVariable
operand_sort Lock = OfMonitor
operand_sort Unlock = OfMonitor
operand_sort Start = OfThread
operand_sort Detect = OfThread
operand_sort _ = OfNothing

abbrev OfSort : OperandSort → ActionOperand → Type 0
OfSort OfVariable (Variable class name) = Unit {0}
OfSort OfMonitor (Monitor class) = Unit {0}
OfSort OfThread (Thread k) = Unit {0}
OfSort OfNothing operand.Nothing = Unit {0}
OfSort _ _ = ⊥

sorted : (k : Kind) (o : ActionOperand) → FitsKind k o → OfSort (operand_sort k) o
sorted Read (Variable class name) fits = tt
sorted Read o fits = absurd fits
sorted Write (Variable class name) fits = tt
sorted Write o fits = absurd fits
sorted VolatileRead (Variable class name) fits = tt
sorted VolatileRead o fits = absurd fits
sorted VolatileWrite (Variable class name) fits = tt
sorted VolatileWrite o fits = absurd fits
sorted Lock (Monitor class) fits = tt
sorted Lock o fits = absurd fits
sorted Unlock (Monitor class) fits = tt
sorted Unlock o fits = absurd fits
sorted Start (Thread k) fits = tt
sorted Start o fits = absurd fits
sorted Detect (Thread k) fits = tt
sorted Detect o fits = absurd fits
sorted First operand.Nothing fits = tt
sorted First o fits = absurd fits
sorted Last operand.Nothing fits = tt
sorted Last o fits = absurd fits
sorted Print operand.Nothing fits = tt
sorted Print o fits = absurd fits

one_operand : (sort : OperandSort) (o q : ActionOperand) (x y : List (List ℕ)) → OfSort sort o → OfSort sort q → IsSpeltOperand o → IsSpeltOperand q → operand_words o ++ x ≡ operand_words q ++ y → (o ≡ q) × (x ≡ y)
one_operand OfVariable (Variable a b) (Variable c d) x y f g spelt also same =
    let word : variable_word a b ≡ variable_word c d = cc in
    let parts = one_variable a b c d spelt.0.bytes also.0.bytes word in
    (ap₂ Variable parts.0 parts.1, (let tail : x ≡ y = cc in tail))
one_operand OfVariable (Variable a b) q x y f g spelt also same = absurd g
one_operand OfVariable o q x y f g spelt also same = absurd f
one_operand OfMonitor (Monitor a) (Monitor c) x y f g spelt also same = (ap Monitor (let word : a ≡ c = cc in word), (let tail : x ≡ y = cc in tail))
one_operand OfMonitor (Monitor a) q x y f g spelt also same = absurd g
one_operand OfMonitor o q x y f g spelt also same = absurd f
one_operand OfThread (Thread j) (Thread k) x y f g spelt also same =
    let word : decimal j ≡ decimal k = cc in
    (ap Thread (decimal_injective j k (omega (arith, spelt)) (omega (arith, also)) word), (let tail : x ≡ y = cc in tail))
one_operand OfThread (Thread j) q x y f g spelt also same = absurd g
one_operand OfThread o q x y f g spelt also same = absurd f
one_operand OfNothing operand.Nothing operand.Nothing x y f g spelt also same = (refl, same)
one_operand OfNothing operand.Nothing q x y f g spelt also same = absurd g
one_operand OfNothing o q x y f g spelt also same = absurd f

data NoteSort : Type 0 where
  OfRead : NoteSort
  OfWrite : NoteSort
  OfOther : NoteSort

abbrev note_sort : Kind → NoteSort
note_sort Read = OfRead
note_sort VolatileRead = OfRead
note_sort Write = OfWrite
note_sort VolatileWrite = OfWrite
note_sort _ = OfOther

abbrev NoteOfSort : NoteSort → Note → Type 0
NoteOfSort OfRead (Sees w) = Unit {0}
NoteOfSort OfWrite (Stores v) = Unit {0}
NoteOfSort OfOther note.Nothing = Unit {0}
NoteOfSort _ _ = ⊥

noted : (k : Kind) (n : Note) → HasNote k n → NoteOfSort (note_sort k) n
noted Read (Sees w) fits = tt
noted Read n fits = absurd fits
noted VolatileRead (Sees w) fits = tt
noted VolatileRead n fits = absurd fits
noted Write (Stores v) fits = tt
noted Write n fits = absurd fits
noted VolatileWrite (Stores v) fits = tt
noted VolatileWrite n fits = absurd fits
noted Lock note.Nothing fits = tt
noted Lock n fits = absurd fits
noted Unlock note.Nothing fits = tt
noted Unlock n fits = absurd fits
noted First note.Nothing fits = tt
noted First n fits = absurd fits
noted Last note.Nothing fits = tt
noted Last n fits = absurd fits
noted Start note.Nothing fits = tt
noted Start n fits = absurd fits
noted Detect note.Nothing fits = tt
noted Detect n fits = absurd fits
noted Print note.Nothing fits = tt
noted Print n fits = absurd fits

no_minus : (n : ℕ) → n < 2 ^ 64 → decimal n ≡ codes "-" → ⊥
no_minus n few is =
    let head = decimal-head n few in
    let same : head.0 ∷ head.1.0 ≡ codes "-" = sym head.1.1.0 ∙ is in
    let first = heads head.0 45 head.1.0 [] same in
    let digit = head.1.1.1 in
    omega (arith, first, digit)

one_seen : (w v : Option ℕ) → IsNumberedNote (Sees w) → IsNumberedNote (Sees v) → note_words (Sees w) ≡ note_words (Sees v) → w ≡ v
one_seen (Some i) (Some j) fits also same = ap Some (decimal_injective i j fits also (let word : decimal i ≡ decimal j = cc in word))
one_seen (Some i) None fits also same = absurd (no_minus i fits (let word : decimal i ≡ codes "-" = cc in word))
one_seen None (Some j) fits also same = absurd (no_minus j also (let word : decimal j ≡ codes "-" = cc in word))
one_seen None None fits also same = refl

one_note : (sort : NoteSort) (m n : Note) → NoteOfSort sort m → NoteOfSort sort n → IsNumberedNote m → IsNumberedNote n → note_words m ≡ note_words n → m ≡ n
one_note OfRead (Sees w) (Sees v) f g fits also same = ap Sees (one_seen w v fits also same)
one_note OfRead (Sees w) n f g fits also same = absurd g
one_note OfRead m n f g fits also same = absurd f
one_note OfWrite (Stores a) (Stores b) f g fits also same =
    ap Stores (signed_decimal_injective a b (small a fits) (small b also) (let word : signed_decimal a ≡ signed_decimal b = cc in word))
  where
    small : (z : ℤ) → IsInt z → mag z < 2 ^ 63
    small (pos n) is = omega (arith, ints, is)
    small (negsuc n) is = omega (arith, ints, is)
one_note OfWrite (Stores a) n f g fits also same = absurd g
one_note OfWrite m n f g fits also same = absurd f
one_note OfOther note.Nothing note.Nothing f g fits also same = refl
one_note OfOther note.Nothing n f g fits also same = absurd g
one_note OfOther m n f g fits also same = absurd f

-- ---- One action for a line

pub one_entry : (thread : ℕ) (n m : Entry) → IsEntryOf thread n → IsEntryOf thread m → IsSpeltEntry n → IsSpeltEntry m → IsNumberedEntry n → IsNumberedEntry m → entry_line n ≡ entry_line m → n ≡ m
one_entry thread n m own other spelt also numbers more same =
    let words = ap (λ (l : TextLine). l.more) same in
    let id_word : decimal n.action.id ≡ decimal m.action.id = cc in
    let word : kind_word n.action.kind ≡ kind_word m.action.kind = cc in
    let rest : operand_words n.action.operand ++ note_words n.note ≡ operand_words m.action.operand ++ note_words m.note = cc in
    let ids = decimal_injective n.action.id m.action.id numbers.id more.id id_word in
    let kind = one_kind n.action.kind m.action.kind word in
    let fits = subst (λ (k : Kind). FitsKind k n.action.operand) kind own.operand in
    let has = subst (λ (k : Kind). HasNote k n.note) kind own.note in
    let parts = one_operand (operand_sort m.action.kind) n.action.operand m.action.operand (note_words n.note) (note_words m.note) (sorted m.action.kind n.action.operand fits)
    (sorted m.action.kind m.action.operand other.operand) spelt also rest in
    let notes = one_note (note_sort m.action.kind) n.note m.note (noted m.action.kind n.note has) (noted m.action.kind m.note other.note) numbers.note more.note parts.1 in
    let threads = own.own ∙ sym other.own in
    let operands = parts.0 in
    λ i. record { action = record { thread = threads i; kind = kind i; operand = operands i; id = ids i }; note = notes i }
