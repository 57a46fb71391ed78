use Rattle.std.proofs.Common.{◌≡◌, inl, inr}
use Rattle.trail.specs.declared.step.Reason.TheVariants.{Decisions}
use Rattle.logged_search.proofs.Going.{goes-none}
use Rattle.logged_search.proofs.Returning.{out-derived, out-goes, pending-back}
use Rattle.logged_search.proofs.unwinding.take_back.Goals as goal

pub returns-in-Decision-clause-goes : goal.returns-in-Decision-clause-goes
returns-in-Decision-clause-goes g c = λ formula clauses learned pending.
    let s = c.take_back-step.result in
    let other : s.reason ≡ Decisions → ⊥ = λ is. elim c.in-Decision.is [ inl e ↦ (let no : ⊥ = cc in no) | inr e ↦ (let no : ⊥ = cc in no) ] in
    goes-none formula c.args.log.now (g.S.Sink.held c.args.out.now) clauses _
    (pending-back formula clauses learned c.args.state.now c.take_back-step.new.state c.args.log.now s c.take_back-step.ensures.newest c.take_back-step.ensures.pool other pending)

pub returns-in-Decisions-clause-goes : goal.returns-in-Decisions-clause-goes
returns-in-Decisions-clause-goes g c =
    out-goes c.delete.result c.args.state.now c.take_back-step.new.state c.args.log.now c.delete.new.self c.take_back-step.result c.args.state.now.trail.variables _ _
    c.take_back-step.ensures.newest c.take_back-step.ensures.pool c.in-Decisions.is c.requires.state.fit.trail_sound.steps c.delete.ensures.names c.delete.ensures.bytes c.delete.ensures.taken

pub returns-in-Decisions-clause-derived : goal.returns-in-Decisions-clause-derived
returns-in-Decisions-clause-derived g c = out-derived c.delete.result c.args.log.now c.delete.new.self c.take_back-step.result.literal c.delete.ensures.names
