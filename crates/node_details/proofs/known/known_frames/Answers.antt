-- Place by place.
use Rattle.std.proofs.Common.{◌≡◌, ◌++◌, [], ◌∷◌, map, ap, rules, ◌∙◌}
use Rattle.std.proofs.lemmas.List.{map-append}
use Rattle.node_details.specs.Frames.{IsKnown, frame_of}
use Rattle.node_details.proofs.Matching.{next_matched}
use Rattle.node_details.proofs.known.known_frames.Goals as goal

pub loop-at-preserved : goal.loop-at-preserved
loop-at-preserved c =
    let added : c.push.new.self.items ≡ c.loop-at.frames.items ++ c.known_at.result ∷ [] = search rules in
    next_matched (IsKnown c.args.program.now) c.args.chain.now (map frame_of c.loop-at.frames.items) (map frame_of c.push.new.self.items)
    c.loop-at.at-index _ (frame_of c.known_at.result) c.loop-at-test.true
    (ap (map frame_of) added ∙ map-append frame_of c.loop-at.frames.items (c.known_at.result ∷ [])) c.loop-at.invariant c.known_at.ensures
