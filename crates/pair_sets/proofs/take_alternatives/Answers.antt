use borrow.Author.Rules.{rules}
use Rattle.pair_sets.proofs.Taking.{taking_start, taking_to, taking_from, taking_next, taking_end}
use Rattle.pair_sets.proofs.take_alternatives.Goals as goal

ruleset all = (rules, taking_start, taking_to, taking_from, taking_next, taking_end)

pub loop-j-init : goal.loop-j-init
loop-j-init c = search all

pub loop-j-preserved : goal.loop-j-preserved
loop-j-preserved c = search all
