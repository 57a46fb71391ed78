use Rattle.std.proofs.Common.{◌≡◌, ◌≢◌, ◌++◌, List, [], ◌∷◌, All, AllPairs, Bool, true, false, if◌then◌else◌, is_ok, map, get_or, zero, suc, arith, Contains, sym, ◌∙◌, ap}
use Rattle.std.proofs.lemmas.List.{map-append}
use Rattle.std.proofs.lemmas.List.Elements.{All-append}
use Rattle.std.proofs.lemmas.List.Quantifiers.{all_pairs_push}
use Rattle.std.proofs.lemmas.Option.{slice_get-get_or}
use Rattle.program.proofs.Lists.{contains_at}
use Rattle.program.specs.Program.{HasOperands}
use Rattle.program.specs.declared.method.Method.{Method}
use Rattle.program.specs.declared.method.MethodId.{MethodId}
use Rattle.program.proofs.program.Program.add_method.Goals as goal

one : (m : Method) → HasOperands m → All HasOperands (m ∷ [])
one m h zero d within = h
one m h (suc k) d within = absurd (omega (arith, within))

operands_if : (added : Bool) (methods : List Method) (m : Method) → All HasOperands methods → HasOperands m → All HasOperands (if added then methods ++ m ∷ [] else methods)
operands_if true methods m all h = All-append HasOperands methods (m ∷ []) all (one m h)
operands_if false methods m all h = all

distinct_if : (added : Bool) (methods : List Method) (m : Method) → AllPairs (λ a b. a.id ≢ b.id) methods →
    ((other : Method) → Contains methods other → other.id ≢ m.id) → AllPairs (λ a b. a.id ≢ b.id) (if added then methods ++ m ∷ [] else methods)
distinct_if true methods m all new = all_pairs_push (λ a b. a.id ≢ b.id) methods m all (λ at d within. new (get_or methods at d) (contains_at methods at (get_or methods at d) (slice_get-get_or methods at d within)))
distinct_if false methods m all new = all

ids_if : (added : Bool) (ids : List MethodId) (methods : List Method) (m : Method) → ids ≡ map (λ m. m.id) methods →
    (if added then ids ++ m.id ∷ [] else ids) ≡ map (λ m. m.id) (if added then methods ++ m ∷ [] else methods)
ids_if true ids methods m is = ap (λ (x : List MethodId). x ++ m.id ∷ []) is ∙ sym (map-append (λ (m : Method). m.id) methods (m ∷ []))
ids_if false ids methods m is = is

pub invariant_of-self : goal.invariant_of-self
invariant_of-self c = rw (c.push_both.ensures.ids, c.push_both.ensures.methods) (
  record {
    spelt = c.self.invariant.0.spelt;
    operands = operands_if (is_ok c.push_both.result) c.self.inside.methods.items c.args.method c.self.invariant.0.operands c.requires.operands;
    distinct = distinct_if (is_ok c.push_both.result) c.self.inside.methods.items c.args.method c.self.invariant.0.distinct (rw (← c.self.view_is) at c.requires.new);
    threads = c.self.invariant.0.threads;
  },
  ids_if (is_ok c.push_both.result) c.self.inside.ids.items c.self.inside.methods.items c.args.method c.self.invariant.1,
)
