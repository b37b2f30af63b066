use borrow.Author.Rules.{rules}
use Rattle.set_index.proofs.Ways.{find_start, find_less, find_hit, find_miss, find_end}
use Rattle.set_index.proofs.find.Goals as goal

ruleset all = (rules, find_start, find_less, find_hit, find_miss, find_end)

pub loop-at-init : goal.loop-at-init
loop-at-init c = search all

pub returns-then-same : goal.returns-then-same
returns-then-same c = search all

pub loop-at-smaller : goal.loop-at-smaller
loop-at-smaller c = search all

pub loop-at-preserved : goal.loop-at-preserved
loop-at-preserved c = search all

pub returns : goal.returns
returns c = search all
