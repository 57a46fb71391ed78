-- Where no method of the name is listed, it is new.
use Rattle.std.proofs.Common.{arith, List, Contains, sym, subst}
use Rattle.program.specs.declared.method.MethodId.{MethodId}
use Rattle.thread_meaning.proofs.Looking.{not_reached, not_equal}
use Rattle.meaning_tests.proofs.traces.calling.Goals as goal

pub add_method-requires-clause-new : goal.add_method-requires-clause-new
add_method-requires-clause-new g c = λ other inside named.
    not_reached c.in_ok-program.program c.in_ok-method.method.id other
    (λ there.
    let here : Contains c.methods.result.now c.in_ok-method.method.id = subst (λ (xs : List MethodId). Contains xs c.in_ok-method.method.id) (sym c.methods.ensures.value) there in
    not_equal _ c.in_ok-method.method.id here.2 (c.if-contains.ensures.cases here.0 c.in_ok-method.method.id (omega arith) here.1))
    (record { reached = inside; named = named })
