use Rattle.std.proofs.Common.{arith, ◌≡◌, ◌∙◌, ◌+◌, ◌-◌, take, drop, ap, length, List, ℕ, sym}
use Rattle.std.proofs.lemmas.Grind.{common_steps}
use Rattle.std.proofs.lemmas.List.{drop-take, with_items_is}
use Rattle.token_reader.proofs.Windows.{part-more}
use Rattle.token_reader.proofs.buffer.Buffer.fill.Goals as goal

pub returns-clause-gained : goal.returns-clause-gained
returns-clause-gained g c =
    let from = c.self.inside.from in
    let size = c.self.inside.to - from in
    let held = c.self.inside.bytes.items in
    let read = c.read_behind-result.new.bytes in
    let back : from + size ≡ c.self.inside.to = omega (arith, c.self.invariant.ordered) in
    let kept : take size read ≡ c.args.self.now = c.in_ok-count.ensures.front
    ∙ ap (λ (bytes : List ℕ). take size (drop from bytes)) c.deref_mut.ensures.value
    ∙ sym (drop-take from size held) ∙ ap (λ (to : ℕ). drop from (take to held)) back ∙ c.self.view_is in
    let len = c.in_ok-count.ensures.len ∙ ap length c.deref_mut.ensures.value ∙ sym c.self.inside.bytes.ok.0 in
    record {
      bytes = take c.in_ok-count.count (drop size read);
      length_of = grind (arith, common_steps, c.in_ok-count.ensures.bound);
      gained = ap (take (size + c.in_ok-count.count)) (with_items_is c.self.inside.bytes read len)
          ∙ part-more c.args.self.now read size c.in_ok-count.count kept;
      taken = c.in_ok-count.ensures.taken;
    }
