-- The item of a deletion.
use Rattle.std.proofs.Common.{◌≡◌, ◌++◌, ◌+◌, ◌-◌, ◌<◌, ◌∙◌, ℕ, ap, sym, subst, arith, refl, length, set, List, [], ◌∷◌, Option, None, append_assoc}
use Rattle.std.specs.Prelude.{All}
use Rattle.std.specs.List.{flat_map}
use Rattle.std.proofs.lemmas.List.{length-append}
use Rattle.std.proofs.lemmas.List.Elements.{All-push}
use Rattle.sources.specs.Leaving.{Takes}
use Rattle.texts.specs.SevenBits.{seven_bits}
use Rattle.var_names.specs.declared.var.Lit.{Lit}
use Rattle.refutation_lines.specs.LineText.{counted}
use Rattle.refutation_lines.specs.Propagation.{Clauses, IsLive}
use Rattle.refutation_lines.specs.Refutations.{TakesOut}
use Rattle.refutation_items.specs.declared.refusal.Reason.{Reason}
use Rattle.refutation_items.specs.declared.refusal.Reason.TheVariants.{Form}
use Rattle.refutation_items.specs.Parts.{LacksNumber}
use Rattle.refutation_items.proofs.Refusing.{takes-as, takes-then}
use Rattle.refutation_steps.specs.Tables.{ready, TableValue}
use Rattle.bytes_check.specs.Items.{IsShort, IsWrongDeletion}
use Rattle.bytes_check.specs.Taken.{TakesDeletion}
use Rattle.bytes_check.proofs.Announced.{flat_map-push, next-item, number-one, number-then}

-- one more clause is taken out
out-more : (old : Clauses) (numbers : List ℕ) (now new : Clauses) (number : ℕ) (literals : List Lit) → TakesOut old numbers now → IsLive now number literals
    → new ≡ set now (number - 1) None → TakesOut old (numbers ++ number ∷ []) new
out-more old [] now new number literals is live rest =
    (literals, subst (λ (cs : Clauses). IsLive cs number literals) is live, rest ∙ ap (λ (cs : Clauses). set cs (number - 1) None) is)
out-more old (first ∷ numbers) now new number literals out live rest =
    (out.0, out.1, out-more (set old (first - 1) None) numbers now new number literals out.2 live rest)

-- a clause that is taken out behind others was live then
out-behind : (old : Clauses) (numbers more : List ℕ) (now new : Clauses) (number : ℕ) → TakesOut old numbers now → TakesOut old (numbers ++ number ∷ more) new
    → (literals : List Lit) × IsLive now number literals
out-behind old [] more now new number is all = (all.0, subst (λ (cs : Clauses). IsLive cs number all.0) (sym is) all.1)
out-behind old (first ∷ numbers) more now new number out all = out-behind (set old (first - 1) None) numbers more now new number out.2 all.2

-- the clauses that were taken out, of so many
pub record NumbersSoFar (old now : Option (List ℕ)) (count left : ℕ) (clauses next : Clauses) : Type 0 where
  pub numbers : List ℕ
  pub count_of : length numbers + left ≡ count
  pub short : All IsShort numbers
  pub out : TakesOut clauses numbers next
  pub taken : Takes old now (seven_bits count ++ flat_map seven_bits numbers)

pub no-numbers : (old now : Option (List ℕ)) (count : ℕ) (clauses : Clauses) → Takes old now (seven_bits count) → NumbersSoFar old now count count clauses clauses
no-numbers old now count clauses takes = record {
  numbers = [];
  count_of = omega arith;
  short = λ k d within. absurd (omega arith);
  out = refl;
  taken = takes-as old now (seven_bits count) (seven_bits count ++ []) (sym (nil-behind (seven_bits count))) takes;
}
  where
    nil-behind : (xs : List ℕ) → xs ++ [] ≡ xs
    nil-behind [] = refl
    nil-behind (x ∷ xs) = ap (λ (ys : List ℕ). x ∷ ys) (nil-behind xs)

pub one-number : (old now next : Option (List ℕ)) (count left : ℕ) (clauses made new : Clauses) (number : ℕ) (literals : List Lit)
    → NumbersSoFar old now count left clauses made → 0 < left → IsShort number → Takes now next (seven_bits number) → IsLive made number literals
    → new ≡ set made (number - 1) None → NumbersSoFar old next count (left - 1) clauses new
one-number old now next count left clauses made new number literals before some short takes live rest = record {
  numbers = before.numbers ++ number ∷ [];
  count_of = let long = length-append before.numbers (number ∷ []) in omega (arith, before.count_of, long);
  short = All-push IsShort before.numbers number before.short short;
  out = out-more clauses before.numbers made new number literals before.out live rest;
  taken = takes-as old next (seven_bits count ++ flat_map seven_bits before.numbers ++ seven_bits number) (seven_bits count ++ flat_map seven_bits (before.numbers ++ number ∷ []))
      (append_assoc (seven_bits count) (flat_map seven_bits before.numbers) (seven_bits number)
      ∙ ap (λ (back : List ℕ). seven_bits count ++ back) (sym (flat_map-push seven_bits before.numbers number)))
      (takes-then old now next (seven_bits count ++ flat_map seven_bits before.numbers) (seven_bits number) before.taken takes);
}

pub all-numbers : (old now : Option (List ℕ)) (count left : ℕ) (clauses next : Clauses) → NumbersSoFar old now count left clauses next → left ≡ 0
    → TakesDeletion old now clauses next
all-numbers old now count left clauses next before none = record {
  numbers = before.numbers;
  out = before.out;
  taken = takes-as old now (seven_bits count ++ flat_map seven_bits before.numbers) (counted seven_bits before.numbers)
      (ap (λ (n : ℕ). seven_bits n ++ flat_map seven_bits before.numbers) (omega (arith, before.count_of, none))) before.taken;
}

pub deletion-count-missing : (clauses : Clauses) (bytes : List ℕ) (reason : Reason) → LacksNumber bytes reason → IsWrongDeletion clauses bytes reason
deletion-count-missing clauses bytes reason lacks = (
  lacks.1,
  λ numbers new rest readable out same.
      lacks.0 (length numbers) (flat_map seven_bits numbers ++ rest) readable.0 (same ∙ append_assoc (seven_bits (length numbers)) (flat_map seven_bits numbers) rest),
)

module _ (old now : Option (List ℕ)) (count left : ℕ) (clauses made : Clauses) (before : NumbersSoFar old now count left clauses made) (few : IsShort count)
    (some : 0 < left) where
  parts : (bytes : List ℕ) (numbers : List ℕ) (rest : List ℕ) → IsShort (length numbers)
      → seven_bits count ++ flat_map seven_bits before.numbers ++ bytes ≡ counted seven_bits numbers ++ rest
      → (count ≡ length numbers) × (flat_map seven_bits before.numbers ++ bytes ≡ flat_map seven_bits numbers ++ rest)
  parts bytes numbers rest short same =
      number-then count (length numbers) (flat_map seven_bits before.numbers ++ bytes) (flat_map seven_bits numbers ++ rest) few short
      (sym (append_assoc (seven_bits count) (flat_map seven_bits before.numbers) bytes) ∙ same ∙ append_assoc (seven_bits (length numbers)) (flat_map seven_bits numbers) rest)

  pub number-missing : (bytes : List ℕ) (reason : Reason) → LacksNumber bytes reason
      → IsWrongDeletion clauses (seven_bits count ++ flat_map seven_bits before.numbers ++ bytes) reason
  number-missing bytes reason lacks = (
    lacks.1,
    λ numbers new rest readable out same.
        let found = parts bytes numbers rest readable.0 same in
        let next = next-item seven_bits IsShort number-one numbers before.numbers bytes rest before.short readable.1 (omega (arith, found.0, before.count_of, some)) found.1 in
        lacks.0 next.item (flat_map seven_bits next.more ++ rest) next.fits next.rest_of,
  )

  pub not-live : (number : ℕ) (bytes : List ℕ) → IsShort number → ((literals : List Lit) → ¬ (IsLive made number literals))
      → IsWrongDeletion clauses (seven_bits count ++ flat_map seven_bits before.numbers ++ seven_bits number ++ bytes) Form
  not-live number bytes short none = (
    refl,
    λ numbers new rest readable out same.
        let found = parts (seven_bits number ++ bytes) numbers rest readable.0
        (sym (append_assoc (seven_bits count ++ flat_map seven_bits before.numbers) (seven_bits number) bytes) ∙ same) in
        let next = next-item seven_bits IsShort number-one numbers before.numbers (seven_bits number ++ bytes) rest before.short readable.1
        (omega (arith, found.0, before.count_of, some)) found.1 in
        let is : number ≡ next.item = number-one number next.item bytes (flat_map seven_bits next.more ++ rest) short next.fits next.rest_of in
        let live = out-behind clauses before.numbers next.more made new next.item before.out (subst (λ (ns : List ℕ). TakesOut clauses ns new) next.all_of out) in
        none live.0 (subst (λ (n : ℕ). IsLive made n live.0) (sym is) live.1),
  )

-- nothing of a line was read, also after a clause was taken out
pub ready-after : (old new : TableValue) (clauses : Clauses) → new ≡ record old { clauses = clauses } → old ≡ ready old.clauses → new ≡ ready new.clauses
ready-after old new clauses is before =
    is ∙ ap (λ (t : TableValue). record t { clauses = clauses }) before ∙ ap ready (sym (ap (λ (t : TableValue). t.clauses) is))
