-- Items by their first byte.
use Rattle.std.proofs.Common.{◌≡◌, ◌≢◌, ◌++◌, inl, inr, ℕ, Bool, false, ap, sym, subst, refl, map, List, [], ◌∷◌, Option, Some, None}
use Rattle.std.specs.Prelude.{◌↔◌, IsTrue}
use Rattle.std.specs.List.{flat_map}
use Rattle.std.proofs.lemmas.List.{length-map}
use Rattle.std.specs.Option.{IfSome, option_to_list}
use Rattle.sources.specs.Leaving.{IsAtEnd, Takes}
use Rattle.texts.specs.SevenBits.{seven_bits}
use Rattle.var_names.specs.declared.args.Arg.{Arg}
use Rattle.var_names.specs.Formulas.{RuledClause}
use Rattle.var_names.specs.LiteralText.{argument_bytes, argument_number, literal_bytes}
use Rattle.refutation_lines.specs.declared.line.Line.TheVariants.{Instance, Clause, Deletion}
use Rattle.refutation_lines.specs.LineText.{counted, line_bytes}
use Rattle.refutation_lines.specs.Propagation.{Clauses}
use Rattle.refutation_items.specs.declared.refusal.Reason.{Reason}
use Rattle.refutation_items.specs.declared.refusal.Reason.TheVariants.{Form, NoEmptyClause}
use Rattle.refutation_items.proofs.Refusing.{takes-as, takes-then}
use Rattle.bytes_check.specs.Items.{IsWrongClause, IsWrongDeletion, IsWrongItem, IsWrongRule, rule_bytes}
use Rattle.bytes_check.specs.Taken.{TakesClause, TakesDeletion, TakesInstance, TakesItem}

pub wrong-rule : (instances : List RuledClause) (clauses : Clauses) (bytes : List ℕ) (reason : Reason) → IsWrongRule instances bytes reason
    → IsWrongItem instances clauses (1 ∷ bytes) reason
wrong-rule instances clauses bytes reason wrong = inr (inl (refl, wrong))

pub wrong-clause : (instances : List RuledClause) (clauses : Clauses) (bytes : List ℕ) (reason : Reason) → IsWrongClause clauses bytes reason
    → IsWrongItem instances clauses (2 ∷ bytes) reason
wrong-clause instances clauses bytes reason wrong = inr (inr (inl (refl, wrong)))

pub wrong-deletion : (instances : List RuledClause) (clauses : Clauses) (bytes : List ℕ) (reason : Reason) → IsWrongDeletion clauses bytes reason
    → IsWrongItem instances clauses (3 ∷ bytes) reason
wrong-deletion instances clauses bytes reason wrong = inr (inr (inr (refl, wrong)))

pub wrong-head : (instances : List RuledClause) (clauses : Clauses) (head : ℕ) (bytes : List ℕ) → head ≢ 1 → head ≢ 2 → head ≢ 3
    → IsWrongItem instances clauses (head ∷ bytes) Form
wrong-head instances clauses head bytes not_1 not_2 not_3 = inl (not_1, not_2, not_3, refl)

arguments-bytes : (arguments : List Arg) → flat_map seven_bits (map argument_number arguments) ≡ flat_map argument_bytes arguments
arguments-bytes [] = refl
arguments-bytes (argument ∷ arguments) = ap (λ (back : List ℕ). argument_bytes argument ++ back) (arguments-bytes arguments)

never : (A : Type 0) → ¬ A → IsTrue false ↔ A
never A none = (λ is. absurd (cc (is)), λ a. absurd (none a))

pub item-of-rule : (instances : List RuledClause) (old now next : Option (List ℕ)) (clauses made : Clauses) → Takes old now (1 ∷ []) → TakesInstance instances now next clauses made
    → TakesItem instances old next clauses made false
item-of-rule instances old now next clauses made head takes = record {
  line = Instance takes.rule;
  steps = (takes.literals, takes.instance, takes.added);
  taken = takes-as old next ((1 ∷ []) ++ rule_bytes takes.rule.number (map argument_number takes.rule.args)) (line_bytes (Instance takes.rule)) bytes
      (takes-then old now next (1 ∷ []) (rule_bytes takes.rule.number (map argument_number takes.rule.args)) head takes.taken);
  emptiness = never ⊥ (λ none. none);
}
  where
    bytes : (1 ∷ []) ++ rule_bytes takes.rule.number (map argument_number takes.rule.args) ≡ line_bytes (Instance takes.rule)
    bytes =
        let long = length-map takes.rule.args argument_number in
        let back = arguments-bytes takes.rule.args in
        λ i. 1 ∷ (seven_bits takes.rule.number ++ (seven_bits (long i) ++ back i))

pub item-of-clause : (instances : List RuledClause) (old now next : Option (List ℕ)) (clauses made : Clauses) (empty : Bool) → Takes old now (2 ∷ [])
    → TakesClause now next clauses made empty → TakesItem instances old next clauses made empty
item-of-clause instances old now next clauses made empty head takes = record {
  line = Clause takes.literals takes.hints;
  steps = (takes.is_clause, takes.follows, takes.added);
  taken = takes-then old now next (2 ∷ []) (counted literal_bytes takes.literals ++ counted seven_bits takes.hints) head takes.taken;
  emptiness = takes.emptiness;
}

pub item-of-deletion : (instances : List RuledClause) (old now next : Option (List ℕ)) (clauses made : Clauses) → Takes old now (3 ∷ []) → TakesDeletion now next clauses made
    → TakesItem instances old next clauses made false
item-of-deletion instances old now next clauses made head takes = record {
  line = Deletion takes.numbers;
  steps = takes.out;
  taken = takes-then old now next (3 ∷ []) (counted seven_bits takes.numbers) head takes.taken;
  emptiness = never ⊥ (λ none. none);
}

-- the first byte of an item
pub head-taken : (old now : Option (List ℕ)) (byte : Option ℕ) (head n : ℕ) → Takes old now (option_to_list byte) → byte ≡ Some head → head ≡ n → Takes old now (n ∷ [])
head-taken old now byte head n takes is same =
    subst (λ (m : ℕ). Takes old now (m ∷ [])) same (subst (λ (o : Option ℕ). Takes old now (option_to_list o)) is takes)

pub nothing-left : (instances : List RuledClause) (clauses : Clauses) (left : Option (List ℕ)) → IsAtEnd left
    → IfSome left (λ bytes. IsWrongItem instances clauses bytes NoEmptyClause)
nothing-left instances clauses None end = tt
nothing-left instances clauses (Some bytes) end = subst (λ (bs : List ℕ). IsWrongItem instances clauses bs NoEmptyClause) (sym end) refl
