-- The item of a rule.
use Rattle.std.proofs.Common.{◌≡◌, ◌≢◌, ◌++◌, ◌+◌, ◌-◌, ◌<◌, ◌∙◌, ℕ, ap, sym, subst, arith, refl, length, map, List, [], ◌∷◌, Option, Some, None, append_assoc}
use Rattle.std.specs.Prelude.{All, MatchOption}
use Rattle.std.specs.List.{flat_map}
use Rattle.std.proofs.lemmas.List.{length-append}
use Rattle.std.proofs.lemmas.List.Elements.{All-push}
use Rattle.sources.specs.Leaving.{Takes}
use Rattle.texts.specs.SevenBits.{seven_bits}
use Rattle.var_names.specs.declared.args.Arg.{Arg}
use Rattle.token_reader.specs.declared.bytes.ReadRefusal.{ReadRefusal}
use Rattle.token_reader.specs.declared.bytes.ReadRefusal.TheVariants.{Memory as NoRoom}
use Rattle.var_names.specs.declared.args.Arg.TheVariants.{Number, D}
use Rattle.var_names.specs.declared.rule.Rule.{Rule}
use Rattle.var_names.specs.declared.rule.RuleRefusal.{RuleRefusal}
use Rattle.var_names.specs.declared.rule.RuleRefusal.TheVariants.{BadRule as NoInstance, Memory as NoRoomForRule}
use Rattle.var_names.specs.Instances.{IsInstance}
use Rattle.var_names.specs.Formulas.{RuledClause}
use Rattle.var_names.specs.LiteralText.{argument_number}
use Rattle.var_names.specs.Readable.{IsArgument}
use Rattle.refutation_lines.specs.LineText.{counted}
use Rattle.refutation_lines.specs.Propagation.{Clauses}
use Rattle.refutation_items.specs.declared.refusal.Reason.{Reason}
use Rattle.refutation_items.specs.declared.refusal.Reason.TheVariants.{Form, BadRule}
use Rattle.refutation_items.specs.Parts.{LacksNumber}
use Rattle.refutation_items.specs.declared.refusal.LineRefusal.{LineRefusal}
use Rattle.refutation_items.specs.Refusals.{IsRefusedFor}
use Rattle.refutation_items.proofs.Refusing.{takes-as, takes-then, told-taken}
use Rattle.refutation_steps.specs.Instances.{AddsInstance, IsNoInstance, NamesNone}
use Rattle.refutation_steps.specs.RuleWords.{AreWordsOf, NamesArgument, NamesArguments, NamesRule}
use Rattle.bytes_check.specs.Items.{AreReadable, IsShort, IsWrongRule, rule_bytes}
use Rattle.bytes_check.specs.Refused.{IsRuleRefusal}
use Rattle.bytes_check.specs.Taken.{LacksArguments, TakesArguments, TakesInstance}
use Rattle.bytes_check.proofs.Announced.{flat_map-push, next-item, number-one, number-then}

pub for-form : (F : Reason → Type 0) (reason : Reason) → reason ≡ Form → F Form → F reason
for-form F reason is form = subst F (sym is) form

-- the arguments that were taken, of so many
pub record ArgumentsSoFar (old now : Option (List ℕ)) (count left : ℕ) (args : Option (List Arg)) : Type 0 where
  pub words : List ℕ
  pub count_of : length words + left ≡ count
  pub short : All IsShort words
  pub named : NamesArguments argument_number words args
  pub taken : Takes old now (flat_map seven_bits words)

pub no-arguments : (old : Option (List ℕ)) (count : ℕ) → Takes old old [] → ArgumentsSoFar old old count count (Some [])
no-arguments old count nothing = record { words = []; count_of = omega arith; short = λ k d within. absurd (omega arith); named = refl; taken = nothing }

pub one-argument : (old now next : Option (List ℕ)) (count left : ℕ) (args all : Option (List Arg)) (word : ℕ) → ArgumentsSoFar old now count left args → 0 < left
    → IsShort word → Takes now next (seven_bits word)
    → ((words : List ℕ) → NamesArguments argument_number words args → NamesArguments argument_number (words ++ word ∷ []) all)
    → ArgumentsSoFar old next count (left - 1) all
one-argument old now next count left args all word before some short takes named = record {
  words = before.words ++ word ∷ [];
  count_of = let long = length-append before.words (word ∷ []) in omega (arith, before.count_of, long);
  short = All-push IsShort before.words word before.short short;
  named = named before.words before.named;
  taken = takes-as old next (flat_map seven_bits before.words ++ seven_bits word) (flat_map seven_bits (before.words ++ word ∷ []))
      (sym (flat_map-push seven_bits before.words word)) (takes-then old now next (flat_map seven_bits before.words) (seven_bits word) before.taken takes);
}

pub all-arguments : (old now : Option (List ℕ)) (count left : ℕ) (args : Option (List Arg)) → ArgumentsSoFar old now count left args → left ≡ 0 → TakesArguments old now count args
all-arguments old now count left args before none =
    record { words = before.words; count_of = omega (arith, before.count_of, none); short = before.short; named = before.named; taken = before.taken }

-- an argument is missing
pub argument-missing : (count : ℕ) (before : List ℕ) (bytes : List ℕ) (reason : Reason) → All IsShort before → length before < count
    → LacksNumber bytes reason → LacksArguments count (flat_map seven_bits before ++ bytes) reason
argument-missing count before bytes reason short fewer lacks = (
  lacks.1,
  λ words rest many short_words same.
      let next = next-item seven_bits IsShort number-one words before bytes rest short short_words (omega (arith, fewer, many)) same in
      lacks.0 next.item (flat_map seven_bits next.more ++ rest) next.fits next.rest_of,
)

-- the parts of a rule's item that are missing
rule-parts : (number : ℕ) (arguments rest : List ℕ) → rule_bytes number arguments ++ rest ≡ seven_bits number ++ (seven_bits (length arguments) ++ (flat_map seven_bits arguments ++ rest))
rule-parts number arguments rest =
    append_assoc (seven_bits number) (counted seven_bits arguments) rest
    ∙ ap (λ (back : List ℕ). seven_bits number ++ back) (append_assoc (seven_bits (length arguments)) (flat_map seven_bits arguments) rest)

pub number-missing : (instances : List RuledClause) (bytes : List ℕ) (reason : Reason) → LacksNumber bytes reason → IsWrongRule instances bytes reason
number-missing instances bytes reason lacks =
    for-form (IsWrongRule instances bytes) reason lacks.1
    (λ number arguments rest short readable same. lacks.0 number (seven_bits (length arguments) ++ (flat_map seven_bits arguments ++ rest)) short (same ∙ rule-parts number arguments rest))

pub count-missing : (instances : List RuledClause) (number : ℕ) (bytes : List ℕ) (reason : Reason) → IsShort number → LacksNumber bytes reason
    → IsWrongRule instances (seven_bits number ++ bytes) reason
count-missing instances number bytes reason few lacks =
    for-form (IsWrongRule instances (seven_bits number ++ bytes)) reason lacks.1
    (λ other arguments rest short readable same.
    let parts = number-then number other bytes (seven_bits (length arguments) ++ (flat_map seven_bits arguments ++ rest)) few short (same ∙ rule-parts other arguments rest) in
    lacks.0 (length arguments) (flat_map seven_bits arguments ++ rest) readable.0 parts.1)

pub arguments-missing : (instances : List RuledClause) (number count : ℕ) (bytes : List ℕ) (reason : Reason) → IsShort number → IsShort count
    → LacksArguments count bytes reason → IsWrongRule instances (seven_bits number ++ seven_bits count ++ bytes) reason
arguments-missing instances number count bytes reason few few_count lacks =
    for-form (IsWrongRule instances (seven_bits number ++ seven_bits count ++ bytes)) reason lacks.0
    (λ other arguments rest short readable same.
    let whole = sym (append_assoc (seven_bits number) (seven_bits count) bytes) ∙ same ∙ rule-parts other arguments rest in
    let parts = number-then number other (seven_bits count ++ bytes) (seven_bits (length arguments) ++ (flat_map seven_bits arguments ++ rest)) few short whole in
    let counts = number-then count (length arguments) bytes (flat_map seven_bits arguments ++ rest) few_count readable.0 parts.1 in
    lacks.1 arguments rest (sym counts.0) readable.1 counts.1)

pub bad-rule : (instances : List RuledClause) (number : ℕ) (arguments rest : List ℕ) → IsShort number → AreReadable IsShort arguments
    → NamesNone (λ n. n) argument_number instances number arguments → IsWrongRule instances (rule_bytes number arguments ++ rest) BadRule
bad-rule instances number arguments rest short readable none =
    record { number = number; arguments = arguments; rest = rest; short = short; readable = readable; begins = refl; names_none = none }

-- the argument of a number, as the word of a line
pub named-argument : (number : ℕ) (argument : Option Arg)
    → MatchOption argument ((other : Arg) → IsArgument other → number ≢ argument_number other) (λ found. IsArgument found × (number ≡ argument_number found))
    → NamesArgument argument_number number argument
named-argument number None none = none
named-argument number (Some argument) is = is.1

-- a list of numbers is that of one list of arguments
same-argument : (a b : Arg) → argument_number a ≡ argument_number b → a ≡ b
same-argument (Number m) (Number n) same = ap Number (omega (arith, same))
same-argument (Number m) D same = absurd (omega (arith, same))
same-argument D (Number n) same = absurd (omega (arith, same))
same-argument D D same = refl

same-arguments : (xs ys : List Arg) → map argument_number xs ≡ map argument_number ys → xs ≡ ys
same-arguments [] [] same = refl
same-arguments [] (y ∷ ys) same = absurd (cc)
same-arguments (x ∷ xs) [] same = absurd (cc)
same-arguments (x ∷ xs) (y ∷ ys) same =
    let first = same-argument x y (cc) in
    let rest = same-arguments xs ys (cc) in
    λ i. first i ∷ rest i

same-rule : (number : ℕ) (words : List ℕ) (a b : Rule) → AreWordsOf (λ n. n) argument_number number words a → AreWordsOf (λ n. n) argument_number number words b → a ≡ b
same-rule number words a b of_a of_b =
    let numbers : a.number ≡ b.number = sym of_a.0 ∙ of_b.0 in
    let arguments : a.args ≡ b.args = same-arguments a.args b.args (sym of_a.1 ∙ of_b.1) in
    λ i. record { number = numbers i; args = arguments i }

-- a whole item of a rule
module _ (instances : List RuledClause) (old a b c : Option (List ℕ)) (number count : ℕ) (args : Option (List Arg)) (named : Option Rule)
    (short : IsShort number) (few : IsShort count)
    (head : Takes old a (seven_bits number)) (middle : Takes a b (seven_bits count)) (takes : TakesArguments b c count args)
    (names : NamesRule (λ n. n) argument_number number takes.words named) where
  whole : Takes old c (rule_bytes number takes.words)
  whole = takes-as old c (seven_bits number ++ (seven_bits count ++ flat_map seven_bits takes.words)) (rule_bytes number takes.words)
      (ap (λ (n : ℕ). seven_bits number ++ (seven_bits n ++ flat_map seven_bits takes.words)) (sym takes.count_of))
      (takes-then old a c (seven_bits number) (seven_bits count ++ flat_map seven_bits takes.words) head
      (takes-then a b c (seven_bits count) (flat_map seven_bits takes.words) middle takes.taken))

  pub rule-added : (clauses next : Clauses) → AddsInstance instances named clauses next → TakesInstance instances old c clauses next
  rule-added clauses next adds =
      let words : AreWordsOf (λ n. n) argument_number number takes.words adds.rule =
      subst (λ (o : Option Rule). NamesRule (λ n. n) argument_number number takes.words o) adds.named_is names in
      record {
        rule = adds.rule;
        literals = adds.literals;
        instance = adds.instance;
        added = adds.added;
        taken = takes-as old c (rule_bytes number takes.words) (rule_bytes adds.rule.number (map argument_number adds.rule.args))
            (let n = words.0 in let ws = words.1 in λ i. rule_bytes (n i) (ws i)) whole;
      }

  none-named : (found : Option Rule) → NamesRule (λ n. n) argument_number number takes.words found → IsNoInstance instances found NoInstance
      → NamesNone (λ n. n) argument_number instances number takes.words
  none-named None are none = λ rule literals real words instance. are rule real words
  none-named (Some rule) are none = λ other literals real words instance.
      none literals (subst (λ (r : Rule). IsInstance instances r literals) (same-rule number takes.words other rule words are) instance)

  readable : AreReadable IsShort takes.words
  readable = (subst IsShort (sym takes.count_of) few, takes.short)

  pub rule-refused : (causes : ReadRefusal → Type 0) (refusal : RuleRefusal) (line : LineRefusal) → causes NoRoom → IsRuleRefusal refusal line
      → IsNoInstance instances named refusal → IsRefusedFor causes old (IsWrongRule instances) line
  rule-refused causes NoInstance line free is none =
      subst (IsRefusedFor causes old (IsWrongRule instances)) (sym is)
      (told-taken old c (rule_bytes number takes.words) (λ bytes. IsWrongRule instances bytes BadRule) whole
      (λ bytes. bad-rule instances number takes.words bytes short readable (none-named named names none)))
  rule-refused causes NoRoomForRule line free is none = subst (IsRefusedFor causes old (IsWrongRule instances)) (sym is) free
