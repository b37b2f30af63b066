use borrow.Author.Rules.{rules}
use Rattle.alternative_bytes.proofs.Ways.{filling_start, filling_on, copy_end}
use Rattle.alternative_bytes.proofs.copy.Goals as goal

ruleset all = (rules, filling_start, filling_on, copy_end)

pub loop-k-init : goal.loop-k-init
loop-k-init c = search all

pub loop-k-preserved : goal.loop-k-preserved
loop-k-preserved c = search all

pub returns : goal.returns
returns c = search all
