-- Adding one spot.
use Rattle.std.proofs.Common.{◌≡◌, ◌++◌, [], ◌∷◌, Bool, refl, subst}
use Rattle.spots.specs.declared.spot.Spot.{Spot}
use Rattle.reached_spots.specs.Exploring.{IsInserted}
use Rattle.reached_spots.proofs.Meeting.{added_one, unchanged}
use Rattle.reached_spots.proofs.exploration.add.Goals as goal

pub returns-in_ok-wait : goal.returns-in_ok-wait
returns-in_ok-wait c =
    added_one c.args.exploration.now _ c.args.spot.now
    (subst (λ (b : Bool). IsInserted c.args.exploration.now.seen c.insert.new.seen c.args.spot.now b) c.if-branch.true
    (subst (λ (s : Spot). IsInserted c.args.exploration.now.seen c.insert.new.seen s c.in_ok-insert.field-0) c.in_ok-seen.ensures c.in_ok-insert.ensures))
    (subst (λ (s : Spot). c.wait.new.waiting.items ≡ c.args.exploration.now.waiting.items ++ s ∷ []) c.in_ok-waiting.ensures c.in_ok-wait.ensures)

pub returns-else-branch : goal.returns-else-branch
returns-else-branch c =
    unchanged c.args.exploration.now _ c.args.spot.now
    (subst (λ (b : Bool). IsInserted c.args.exploration.now.seen c.insert.new.seen c.args.spot.now b) c.if-branch.false
    (subst (λ (s : Spot). IsInserted c.args.exploration.now.seen c.insert.new.seen s c.in_ok-insert.field-0) c.in_ok-seen.ensures c.in_ok-insert.ensures))
    refl
