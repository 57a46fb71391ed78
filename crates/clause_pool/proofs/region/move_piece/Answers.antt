use Rattle.std.proofs.Common.{◌≡◌, ◌≤◌, ◌<◌, ◌+◌, ◌^◌, length, get_or, sym, ◌∙◌, arith}
use Rattle.std.proofs.lemmas.List.{get_or_read}
use Rattle.clause_pool.specs.Links.{no_link}
use Rattle.clause_pool.proofs.Compaction.{Skips-from_half}
use Rattle.clause_pool.proofs.region.move_piece.Goals as goal

pub index-requires : goal.index-requires
index-requires c =
    let mark : get_or c.args.words.now.items c.args.pass.from 0 ≡ no_link = sym (get_or_read c.args.words.now.items c.args.pass.from _ (omega (arith, c.requires.half.within, c.requires.more)) c.index-first.ensures 0) ∙ c.if-first.true in
    let s = Skips-from_half c.args.words.now.items c.args.entries.now c.args.pass.from c.args.pass.to c.args.pass.end c.requires.half c.requires.more mark in
    let fits = s.fits in
    let within : c.args.pass.end ≤ length c.args.words.now.items = c.requires.half.within in
    let words_fit : length c.args.words.now.items < 2 ^ 32 = c.requires.half.words_fit in
    omega (arith, c.args.words.now.ok.0)

pub overflow_add-result : goal.overflow_add-result
overflow_add-result c =
    let mark : get_or c.args.words.now.items c.args.pass.from 0 ≡ no_link = sym (get_or_read c.args.words.now.items c.args.pass.from _ (omega (arith, c.requires.half.within, c.requires.more)) c.index-first.ensures 0) ∙ c.if-first.true in
    let s = Skips-from_half c.args.words.now.items c.args.entries.now c.args.pass.from c.args.pass.to c.args.pass.end c.requires.half c.requires.more mark in
    let fits = s.fits in
    let within : c.args.pass.end ≤ length c.args.words.now.items = c.requires.half.within in
    let words_fit : length c.args.words.now.items < 2 ^ 32 = c.requires.half.words_fit in
    let size : c.index.result.now ≡ get_or c.args.words.now.items (c.args.pass.from + 1) 0 = get_or_read c.args.words.now.items (c.args.pass.from + 1) _ (omega arith) c.index.ensures 0 in
    omega arith

pub overflow_add-result-then-first : goal.overflow_add-result-then-first
overflow_add-result-then-first c =
    let mark : get_or c.args.words.now.items c.args.pass.from 0 ≡ no_link = sym (get_or_read c.args.words.now.items c.args.pass.from _ (omega (arith, c.requires.half.within, c.requires.more)) c.index-first.ensures 0) ∙ c.if-first.true in
    let s = Skips-from_half c.args.words.now.items c.args.entries.now c.args.pass.from c.args.pass.to c.args.pass.end c.requires.half c.requires.more mark in
    let fits = s.fits in
    let within : c.args.pass.end ≤ length c.args.words.now.items = c.requires.half.within in
    let words_fit : length c.args.words.now.items < 2 ^ 32 = c.requires.half.words_fit in
    let size : c.index.result.now ≡ get_or c.args.words.now.items (c.args.pass.from + 1) 0 = get_or_read c.args.words.now.items (c.args.pass.from + 1) _ (omega arith) c.index.ensures 0 in
    omega arith

pub returns-then-first-clause-half : goal.returns-then-first-clause-half
returns-then-first-clause-half c =
    let mark : get_or c.args.words.now.items c.args.pass.from 0 ≡ no_link = sym (get_or_read c.args.words.now.items c.args.pass.from _ (omega (arith, c.requires.half.within, c.requires.more)) c.index-first.ensures 0) ∙ c.if-first.true in
    let s = Skips-from_half c.args.words.now.items c.args.entries.now c.args.pass.from c.args.pass.to c.args.pass.end c.requires.half c.requires.more mark in
    let fits = s.fits in
    let within : c.args.pass.end ≤ length c.args.words.now.items = c.requires.half.within in
    let words_fit : length c.args.words.now.items < 2 ^ 32 = c.requires.half.words_fit in
    let size : c.index.result.now ≡ get_or c.args.words.now.items (c.args.pass.from + 1) 0 = get_or_read c.args.words.now.items (c.args.pass.from + 1) _ (omega arith) c.index.ensures 0 in
    rw size s.half
