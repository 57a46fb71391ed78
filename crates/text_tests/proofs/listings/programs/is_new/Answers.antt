-- A method of that id would stand at a place where the ids have another one.
use Rattle.std.proofs.Common.{◌≡◌, ◌<◌, ◌≤◌, ◌∙◌, ap, ℕ, List, length, map, get_or, arith, Contains}
use Rattle.std.proofs.lemmas.List.{get_or-map, length-map}
use Rattle.program.specs.declared.method.Method.{Method}
use Rattle.program.specs.declared.method.MethodId.{MethodId}
use Rattle.text_tests.proofs.listings.programs.is_new.Goals as goal

not-there : (ids : List MethodId) (methods : List Method) (id : MethodId) (bound : ℕ) (other : Method)
    → ids ≡ map (λ m. m.id) methods → length ids ≤ bound
    → ((k : ℕ) (d : MethodId) → k < bound → get_or ids k d ≡ id → ⊥) → Contains methods other → other.id ≡ id → ⊥
not-there ids methods id bound other same all none (k, within, is) named =
    none k id (omega (arith, within, all, ap length same, length-map methods (λ (m : Method). m.id)))
    (ap (λ (l : List MethodId). get_or l k id) same ∙ get_or-map (λ (m : Method). m.id) methods k other id within
    ∙ ap (λ (m : Method). m.id) is ∙ named)

pub returns : goal.returns
returns c = λ new other inside named.
    not-there c.methods-known-items.result.now c.args.program.now.methods c.args.id c.loop-known.known-index other
    c.methods-known-items.ensures.value c.loop-known-test.false c.loop-known.invariant inside named
