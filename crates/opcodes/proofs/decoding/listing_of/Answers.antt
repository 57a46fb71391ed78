use Rattle.std.proofs.Common.{◌+◌, ◌∙◌, subst, sym}
use Rattle.opcodes.specs.Survey.{ListsBefore}
use Rattle.opcodes.proofs.Listings.{listed_more, listed_none}
use Rattle.opcodes.proofs.decoding.listing_of.Goals as goal
use Rattle.opcodes.proofs.decoding.listing_of.Goals.{in-Holds+in_ok-push, in_default}

pub loop-pc-preserved : goal.loop-pc-preserved
loop-pc-preserved c =
    let Lists = ListsBefore c.args.places.now (c.loop-pc.pc + 1) in
    elim c.match-place.branch [
      | in-Holds+in_ok-push w ↦ subst Lists (sym (w.listing-is ∙ w.in_ok-push.ensures.ok))
          (listed_more c.args.places.now c.loop-pc.pc c.loop-pc.listing w.in-Holds.instr w.in-Holds.is c.loop-pc.invariant)
      | in_default w ↦ subst Lists (sym w.listing-is)
          (listed_none c.args.places.now c.loop-pc.pc c.loop-pc.listing w.in_default.not-Holds c.loop-pc.invariant)
    ]
