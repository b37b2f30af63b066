use borrow.Author.Rules.{rules}
use Rattle.set_bytes.proofs.Gathering.{taken_start, taken_more, taken_end}
use Rattle.set_bytes.proofs.take_copies.Goals as goal

ruleset all = (rules, taken_start, taken_end)

pub loop-i-init : goal.loop-i-init
loop-i-init c = search all

pub loop-i-preserved : goal.loop-i-preserved
loop-i-preserved c = (search (rules, taken_more), search rules)
