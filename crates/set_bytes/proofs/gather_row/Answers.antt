use borrow.Author.Rules.{rules}
use Rattle.set_bytes.proofs.Gathering.{room_next, row_start, row_more, row_end}
use Rattle.set_bytes.proofs.gather_row.Goals as goal

ruleset all = (rules, room_next, row_start, row_end)

pub loop-j-init : goal.loop-j-init
loop-j-init c = search all

pub loop-j-preserved : goal.loop-j-preserved
loop-j-preserved c = (row_more _ _ _ _ _ _ _ _ _ _ _ _ _ _ _ _ c.gather_pair-left.ensures c.loop-j.invariant.0, search rules)
