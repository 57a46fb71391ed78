use Rattle.clause_pool.proofs.InUse.{put_in_use, in_use_kept, in_use_after}
use Rattle.search_tests.proofs.pool.puts_until_the_words_are_used.Goals as goal

pub forget-requires : goal.forget-requires
forget-requires g c =
    let first = put_in_use _ _ _ _ c.in_ok-first.ensures.fresh c.in_ok-first.ensures.put in
    let second = in_use_kept _ _ _ _ _ c.in_ok-_second.ensures.fresh c.in_ok-_second.ensures.put first in
    in_use_after _ _ _ _ c.put-3.result c.put-3.ensures.fresh c.put-3.ensures.put c.put-3.ensures.unchanged second
