use borrow.Author.Rules.{rules}
use Rattle.set_bytes.proofs.Gathering.{room_next, copies_start, copies_more, copies_end}
use Rattle.set_bytes.proofs.gather_copies.Goals as goal

ruleset all = (rules, room_next, copies_start, copies_end)

pub loop-i-init : goal.loop-i-init
loop-i-init c = search all

pub loop-i-preserved : goal.loop-i-preserved
loop-i-preserved c = (copies_more _ _ _ _ _ _ _ _ _ _ _ _ _ _ _ c.gather_copy-left.ensures c.loop-i.invariant.0, search rules)
