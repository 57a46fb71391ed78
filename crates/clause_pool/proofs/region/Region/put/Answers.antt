use Rattle.std.proofs.Common.{◌≡◌, inr, length, drop, vec_len, ap, sym, subst, ◌∙◌, arith}
use Rattle.std.proofs.lemmas.List.{take_at}
use Rattle.clause_pool.specs.Blocks.{IsRegion, entry_at, WritesBlock}
use Rattle.clause_pool.specs.declared.region.Entry.TheVariants.{Free}
use Rattle.clause_pool.proofs.Regions.{free_head, IsRegion-put, blocks-put, fresh_block}
use Rattle.clause_pool.proofs.RegionOpen.{all_in_use}
use Rattle.clause_pool.proofs.RegionWrites.{region_with}
use Rattle.clause_pool.proofs.region.Region.put.Goals as goal

pub returns-in_err-clause-clause-full : goal.returns-in_err-clause-clause-full
returns-in_err-clause-clause-full c =
    let f = subst (λ free. IsRegion c.self.inside.words.items c.self.inside.entries.items c.self.inside.used free) c.in_err-clause.was c.self.invariant in
    rw (c.from_residual.ensures, ← c.self.view_is) (inr (all_in_use c.self.inside.words.items c.self.inside.entries.items f.free_list))

pub next_free-next-requires-clause-in_range : goal.next_free-next-requires-clause-in_range
next_free-next-requires-clause-in_range c =
    let f = subst (λ free. IsRegion c.self.inside.words.items c.self.inside.entries.items c.self.inside.used free) c.in_ok-clause.was c.self.invariant in
    let head = free_head c.self.inside.entries.items c.in_ok-clause.clause f.free_list.handles f.free_list.chain in
    rw c.deref.ensures.value head.0

pub next_free-next-requires-clause-free : goal.next_free-next-requires-clause-free
next_free-next-requires-clause-free c =
    let f = subst (λ free. IsRegion c.self.inside.words.items c.self.inside.entries.items c.self.inside.used free) c.in_ok-clause.was c.self.invariant in
    let head = free_head c.self.inside.entries.items c.in_ok-clause.clause f.free_list.handles f.free_list.chain in
    rw c.deref.ensures.value head.1

pub index_mut-requires : goal.index_mut-requires
index_mut-requires c =
    let f = subst (λ free. IsRegion c.self.inside.words.items c.self.inside.entries.items c.self.inside.used free) c.in_ok-clause.was c.self.invariant in
    let head = free_head c.self.inside.entries.items c.in_ok-clause.clause f.free_list.handles f.free_list.chain in
    omega (arith, head.0, c.index.ensures.number, c.self.inside.entries.ok.0)

pub invariant_of-self : goal.invariant_of-self
invariant_of-self c =
    let f = subst (λ free. IsRegion c.self.inside.words.items c.self.inside.entries.items c.self.inside.used free) c.in_ok-clause.was c.self.invariant in
    let head = free_head c.self.inside.entries.items c.in_ok-clause.clause f.free_list.handles f.free_list.chain in
    let a : entry_at c.self.inside.entries.items c.in_ok-clause.clause ≡ Free c.next_free-next.result = ap (λ xs. entry_at xs c.in_ok-clause.clause) (sym c.deref.ensures.value) ∙ c.next_free-next.ensures in
    let w = subst (λ xs. WritesBlock xs c.write_block.new.words c.self.inside.used c.in_ok-clause.clause c.args.literals.now) c.deref_mut.ensures.value c.write_block.ensures in
    let len : length c.write_block.new.words ≡ length c.self.inside.words.items = c.write_block.auto.words ∙ ap length c.deref_mut.ensures.value in
    rw (c.index.ensures.number, take_at c.write_block.new.words (drop (length c.write_block.new.words) c.self.inside.words.items) c.self.inside.words.len (omega (arith, len, c.self.inside.words.ok.0)))
    (IsRegion-put c.self.inside.words.items c.write_block.new.words c.self.inside.entries.items c.self.inside.used c.in_ok-clause.clause c.next_free-next.result c.args.literals.now f len (omega (arith, c.self.invariant.within, c.self.inside.words.ok.0)) a w)

pub returns-clause-fresh : goal.returns-clause-fresh
returns-clause-fresh c =
    let f = subst (λ free. IsRegion c.self.inside.words.items c.self.inside.entries.items c.self.inside.used free) c.in_ok-clause.was c.self.invariant in
    let head = free_head c.self.inside.entries.items c.in_ok-clause.clause f.free_list.handles f.free_list.chain in
    rw (← c.self.view_is) (fresh_block c.self.inside.words.items c.self.inside.entries.items c.in_ok-clause.clause head)

pub returns-clause-put : goal.returns-clause-put
returns-clause-put c =
    let f = subst (λ free. IsRegion c.self.inside.words.items c.self.inside.entries.items c.self.inside.used free) c.in_ok-clause.was c.self.invariant in
    let head = free_head c.self.inside.entries.items c.in_ok-clause.clause f.free_list.handles f.free_list.chain in
    let a : entry_at c.self.inside.entries.items c.in_ok-clause.clause ≡ Free c.next_free-next.result = ap (λ xs. entry_at xs c.in_ok-clause.clause) (sym c.deref.ensures.value) ∙ c.next_free-next.ensures in
    let w = subst (λ xs. WritesBlock xs c.write_block.new.words c.self.inside.used c.in_ok-clause.clause c.args.literals.now) c.deref_mut.ensures.value c.write_block.ensures in
    let len : length c.write_block.new.words ≡ length c.self.inside.words.items = c.write_block.auto.words ∙ ap length c.deref_mut.ensures.value in
    rw (← c.self.view_is, c.index.ensures.number, take_at c.write_block.new.words (drop (length c.write_block.new.words) c.self.inside.words.items) c.self.inside.words.len (omega (arith, len, c.self.inside.words.ok.0)))
    (ap (region_with _ (vec_len c.self.inside.words))
    (blocks-put c.self.inside.words.items c.write_block.new.words c.self.inside.entries.items c.self.inside.used c.in_ok-clause.clause c.self.inside.free c.args.literals.now c.self.invariant len head.0 w))
