use Rattle.std.proofs.Common.{◌≡◌, ◌<◌, ◌≤◌, length, get_or, inl, inr, refl, sym, ◌∙◌, subst, arith}
use Rattle.clause_pool.specs.PoolValue.{IsIn, list_at, literals_at, without_in}
use Rattle.clause_pool.specs.WatchLists.{clauses_of, watch_lists, IsLinkedAs}
use Rattle.clause_pool.proofs.Linked.{lists_are}
use Rattle.clause_pool.proofs.Swapped.{differ_at, without_in-old}
use Rattle.clause_pool.proofs.PoolLinks.{found_at, literals_of-clauses, out_of_short, map_without-short, map_without-two}
use Rattle.clause_pool.proofs.lists.WatchLists.unwatch.Goals as goal

pub returns-then-literals-lt2-clause-linked : goal.returns-then-literals-lt2-clause-linked
returns-then-literals-lt2-clause-linked c =
    let short = subst (λ xs. length xs < 2) c.literals-literals.ensures c.if-literals-lt2.true in
    subst (IsLinkedAs c.args.self.now) (map_without-short c.args.self.now c.args.clause (out_of_short c.args.self.now c.args.clause c.requires.pool short)) c.requires.pool.linked

pub unlink-requires-clause-inside : goal.unlink-requires-clause-inside
unlink-requires-clause-inside c =
    let C = clauses_of c.args.self.now.region.blocks in
    let ls = literals_at C c.args.clause in
    let found = found_at C c.args.clause c.requires.in_use in
    let same : c.literals-literals.result.now ≡ ls = c.literals-literals.ensures ∙ literals_of-clauses c.args.self.now.region.blocks c.args.clause in
    let two : 2 ≤ length ls = subst (λ xs. 2 ≤ length xs) same c.if-literals-lt2.false in
    let p = c.requires.pool in
    let W = watch_lists c.args.self.now in
    let a = get_or ls 0 0 in
    let b = get_or ls 1 0 in
    let la : a < length W = p.sound.below c.args.clause ls found 0 0 (omega arith) in
    let lb : b < length W = p.sound.below c.args.clause ls found 1 0 (omega arith) in
    let in_a = (p.sound.watching a c.args.clause la).1 (record { literals = ls; found = found; watched = record { two = two; side = inl refl } }) in
    let in_b = (p.sound.watching b c.args.clause lb).1 (record { literals = ls; found = found; watched = record { two = two; side = inr refl } }) in
    subst (λ xs. IsIn c.args.clause (list_at W (get_or xs 0 0))) (sym same) in_a

pub unlink-requires-2-clause-linked : goal.unlink-requires-2-clause-linked
unlink-requires-2-clause-linked c =
    subst (IsLinkedAs c.unlink.new.self) (sym (lists_are c.unlink.new.self _ c.unlink.ensures.linked)) c.unlink.ensures.linked

pub unlink-requires-2-clause-inside : goal.unlink-requires-2-clause-inside
unlink-requires-2-clause-inside c =
    let C = clauses_of c.args.self.now.region.blocks in
    let ls = literals_at C c.args.clause in
    let found = found_at C c.args.clause c.requires.in_use in
    let same : c.literals-literals.result.now ≡ ls = c.literals-literals.ensures ∙ literals_of-clauses c.args.self.now.region.blocks c.args.clause in
    let two : 2 ≤ length ls = subst (λ xs. 2 ≤ length xs) same c.if-literals-lt2.false in
    let p = c.requires.pool in
    let W = watch_lists c.args.self.now in
    let a = get_or ls 0 0 in
    let b = get_or ls 1 0 in
    let la : a < length W = p.sound.below c.args.clause ls found 0 0 (omega arith) in
    let lb : b < length W = p.sound.below c.args.clause ls found 1 0 (omega arith) in
    let in_a = (p.sound.watching a c.args.clause la).1 (record { literals = ls; found = found; watched = record { two = two; side = inl refl } }) in
    let in_b = (p.sound.watching b c.args.clause lb).1 (record { literals = ls; found = found; watched = record { two = two; side = inr refl } }) in
    let ne = differ_at ls 1 0 (p.sound.different c.args.clause ls found) (omega arith) (omega arith) (omega arith) in
    subst (λ V. IsIn c.args.clause (list_at V (get_or c.literals-literals.result.now 1 0))) (sym (lists_are c.unlink.new.self _ c.unlink.ensures.linked))
    (subst (λ xs. IsIn c.args.clause (list_at (without_in W (get_or xs 0 0) c.args.clause) (get_or xs 1 0))) (sym same)
    (without_in-old W a c.args.clause b c.args.clause la in_b (inl ne)))

pub returns-clause-linked : goal.returns-clause-linked
returns-clause-linked c =
    let C = clauses_of c.args.self.now.region.blocks in
    let ls = literals_at C c.args.clause in
    let found = found_at C c.args.clause c.requires.in_use in
    let same : c.literals-literals.result.now ≡ ls = c.literals-literals.ensures ∙ literals_of-clauses c.args.self.now.region.blocks c.args.clause in
    let two : 2 ≤ length ls = subst (λ xs. 2 ≤ length xs) same c.if-literals-lt2.false in
    let p = c.requires.pool in
    let W = watch_lists c.args.self.now in
    let a = get_or ls 0 0 in
    let b = get_or ls 1 0 in
    let la : a < length W = p.sound.below c.args.clause ls found 0 0 (omega arith) in
    let lb : b < length W = p.sound.below c.args.clause ls found 1 0 (omega arith) in
    let in_a = (p.sound.watching a c.args.clause la).1 (record { literals = ls; found = found; watched = record { two = two; side = inl refl } }) in
    let in_b = (p.sound.watching b c.args.clause lb).1 (record { literals = ls; found = found; watched = record { two = two; side = inr refl } }) in
    let xs = c.literals-literals.result.now in
    subst (IsLinkedAs c.unlink-2.new.self) (map_without-two c.args.self.now c.args.clause ls p found two)
    (subst (λ ys. IsLinkedAs c.unlink-2.new.self (without_in (without_in W (get_or ys 0 0) c.args.clause) (get_or ys 1 0) c.args.clause)) same
    (subst (λ V. IsLinkedAs c.unlink-2.new.self (without_in V (get_or xs 1 0) c.args.clause)) (lists_are c.unlink.new.self (without_in W (get_or xs 0 0) c.args.clause) c.unlink.ensures.linked) c.unlink-2.ensures.linked))
