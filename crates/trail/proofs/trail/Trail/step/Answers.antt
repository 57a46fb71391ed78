use Rattle.std.proofs.Common.{◌≡◌, ◌<◌, ◌∷◌, ◌++◌, length, get_or, reverse, sym, ◌∙◌, ap, arith}
use Rattle.std.proofs.lemmas.List.{get_or_read, length-reverse}
use Rattle.trail.specs.Steps.{TrailValue}
use Rattle.trail.specs.declared.step.Step.{Step}
use Rattle.trail.proofs.Lists.{split_at, reverse-split}
use Rattle.trail.proofs.trail.Trail.step.Goals as goal

pub returns : goal.returns
returns c =
    let e : reverse c.self.inside.steps.items ≡ c.args.self.now.steps = ap (λ (v : TrailValue). v.steps) c.self.view_is in
    let within : c.args.place < length c.self.inside.steps.items = omega (arith, c.requires, ap length e, length-reverse c.self.inside.steps.items) in
    let s = split_at c.self.inside.steps.items c.args.place c.index.result.now within in
    let same : c.index.result.now ≡ get_or c.self.inside.steps.items c.args.place c.index.result.now = get_or_read c.self.inside.steps.items c.args.place _ within c.index.ensures c.index.result.now in
    record {
      newer = reverse s.back;
      older = reverse s.front;
      splits = sym e ∙ ap reverse s.splits ∙ reverse-split s.front s.back _ ∙ ap (λ (x : Step). reverse s.back ++ x ∷ reverse s.front) (sym same);
      count = length-reverse s.front ∙ s.count;
    }
