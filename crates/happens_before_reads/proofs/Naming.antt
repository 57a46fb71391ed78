-- Variables of reads and writes, and their numbers.
use Rattle.std.proofs.Common.{◌≡◌, ℕ, Option, Some, None, IfNone, IfSome, Contains, IsSome, List, ◌↔◌, slice_get, refl, sym, ◌∙◌, ap, ap₂}
use Rattle.program.proofs.Lists.{place_of, contains_at}
use Rattle.action_orders.specs.declared.action.Action.{Action}
use Rattle.action_orders.specs.declared.action.ActionOperand.{ActionOperand}
use Rattle.action_orders.specs.Actions.{Of, Var, IsRead, IsWrite, variable, variables}
use Rattle.action_orders.specs.Actions as acts
use Rattle.orders.specs.declared.answers.Orders.{Orders}
use Rattle.orders.specs.Made.{IsMade}
use Rattle.orders.specs.Symbols.{OfVariable, symbols}
use Rattle.orders.proofs.Places.{one}
use Rattle.orders.proofs.Said.{prog, var, not_some}
use Rattle.volatile_reads.proofs.Named.{one_variable}
use Rattle.happens_before_reads.specs.Accesses.{IsNumberOf, IsNumberNamed, NamesNone}

pub read_operand : (v : Var) (a : Action) → IsRead v (Of a) → a.operand ≡ variable v
read_operand v a (acts.plain is) = is.1
read_operand v a (acts.volatile is) = is.1

pub write_operand : (v : Var) (a : Action) → IsWrite v (Of a) → a.operand ≡ variable v
write_operand v a (acts.default is) = let never : ⊥ = cc in absurd never
write_operand v a (acts.plain is) = is.1
write_operand v a (acts.volatile is) = is.1

pub one_read : (u v : Var) (a : Action) → IsRead u (Of a) → IsRead v (Of a) → u ≡ v
one_read u v a first second = one_variable u v (sym (read_operand u a first) ∙ read_operand v a second)

pub one_written : (u v : Var) (a : Action) → IsWrite u (Of a) → IsWrite v (Of a) → u ≡ v
one_written u v a first second = one_variable u v (sym (write_operand u a first) ∙ write_operand v a second)

-- a number is that of one variable
pub one_numbered : (o : Orders) (u v : Var) (c : ℕ) → IsNumberOf o u c → IsNumberOf o v c → u ≡ v
one_numbered o u v c first second =
    let same = one (sym first ∙ second) in
    let class : u.class ≡ v.class = cc in
    let name : u.name ≡ v.name = cc in
    ap₂ var class name

-- and each variable of the program has one
pub one_number : (o : Orders) (v : Var) (c d : ℕ) → IsMade o → IsNumberOf o v c → IsNumberOf o v d → c ≡ d
one_number o v c d made first second = made.apart c d (OfVariable v.class v.name) first second

pub numbered : (o : Orders) (v : Var) → IsMade o → Contains (variables (prog o)) v → (c : ℕ) × IsNumberOf o v c
numbered o v made there = place_of (symbols o.variables) (OfVariable v.class v.name) ((made.named v.class v.name).1 there)

-- ---- Tests

pub named_found : (o : Orders) (class name : List ℕ) (operand : ActionOperand) (n : Option ℕ) → operand ≡ variable (var class name) → IfSome n (λ c. slice_get (symbols o.variables) c ≡ Some (OfVariable class name)) → IfSome n (IsNumberNamed o operand)
named_found o class name operand None is found = tt
named_found o class name operand (Some c) is found = (var class name, found, is)

pub named_none : (o : Orders) (class name : List ℕ) (operand : ActionOperand) (n : Option ℕ) → operand ≡ variable (var class name) → (IsSome n ↔ Contains (symbols o.variables) (OfVariable class name)) → IfNone n (NamesNone o operand)
named_none o class name operand (Some c) is there = tt
named_none o class name operand None is there = λ v c named same.
    let alike : v ≡ var class name = one_variable v (var class name) (sym same ∙ is) in
    not_some None refl (there.1 (contains_at (symbols o.variables) c (OfVariable class name) (named ∙ ap (λ (u : Var). Some (OfVariable u.class u.name)) alike)))
