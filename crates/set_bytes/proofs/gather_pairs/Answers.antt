use borrow.Author.Rules.{rules}
use Rattle.set_bytes.proofs.Gathering.{pairs_start, pairs_more, pairs_end, pair_fits, row_room}
use Rattle.set_bytes.proofs.gather_pairs.Goals as goal

ruleset all = (rules, pairs_start, pairs_end, pair_fits, row_room)

pub loop-i-init : goal.loop-i-init
loop-i-init c = search all

pub gather_row-left-requires-clause-room_for : goal.gather_row-left-requires-clause-room_for
gather_row-left-requires-clause-room_for c = search all

pub loop-i-preserved : goal.loop-i-preserved
loop-i-preserved c = (pairs_more _ _ _ _ _ _ _ _ _ _ _ _ _ _ _ c.gather_row-left.ensures c.loop-i.invariant.0, search rules)
