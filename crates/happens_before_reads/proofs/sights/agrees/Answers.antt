-- By the last write before the read, or nothing is asked.
use Rattle.std.proofs.Common.{length}
use Rattle.happens_before_reads.proofs.Agreeing.{read_within, listed_rising, listed_below, unread, unseen, seen_exactly}
use Rattle.happens_before_reads.proofs.sights.agrees.Goals as goal

pub returns-in_default : goal.returns-in_default
returns-in_default c = unread c.args.orders.now c.args.at c.index-entry.result.now c.number_read.result c.requires.made c.requires.inside c.index-entry.ensures c.in_default.is c.number_read.ensures.none

pub returns-in_default-2 : goal.returns-in_default-2
returns-in_default-2 c = unseen c.args.orders.now c.args.at c.index-entry.result.now c.in_ok-write.field-0 c.requires.made c.requires.inside c.index-entry.ensures c.in_ok-write.ensures c.in_default-2.is

pub places-requires : goal.places-requires
places-requires c = read_within c.args.orders.now (length c.args.orders.now.flat.entries.items) c.in-Some.number c.index-entry.result.now.now.action c.args.writes.now.lists.items c.in-Some.ensures.found c.requires.writes

pub is_recent-requires-clause-rising : goal.is_recent-requires-clause-rising
is_recent-requires-clause-rising c =
    listed_rising c.args.orders.now (length c.args.orders.now.flat.entries.items) c.in-Some.number c.index-entry.result.now.now.action c.args.writes.now.lists.items c.places.result.now c.in-Some.ensures.found c.requires.writes c.places.ensures

pub is_recent-requires-clause-within : goal.is_recent-requires-clause-within
is_recent-requires-clause-within c =
    listed_below c.args.orders.now (length c.args.orders.now.flat.entries.items) c.in-Some.number c.index-entry.result.now.now.action c.args.writes.now.lists.items c.places.result.now c.in-Some.ensures.found c.requires.writes c.places.ensures

pub returns : goal.returns
returns c =
    seen_exactly c.args.orders.now c.args.at c.in-Some.number c.index-entry.result.now c.in_ok-write.field-0 c.in-Some-2.write c.args.writes.now.lists.items c.places.result.now c.is_recent.result c.requires.made c.requires.inside c.index-entry.ensures
    c.in_ok-write.ensures c.in-Some-2.is c.in-Some.ensures.found c.requires.writes c.places.ensures c.is_recent.ensures
