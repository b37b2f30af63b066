use borrow.Author.Rules.{rules}
use Rattle.book_progression.proofs.Stepping.{node_there}
use Rattle.alternative_bytes.proofs.Ways.{asking_start, asking_end, asking_fails, asking_on, fewer_left}
use Rattle.alternative_bytes.proofs.asks_from.Goals as goal

ruleset all = (rules, asking_start, node_there, asking_end, asking_fails, asking_on, fewer_left)

pub loop-k-init : goal.loop-k-init
loop-k-init c = search all

pub returns-then-not-cell_no_more : goal.returns-then-not-cell_no_more
returns-then-not-cell_no_more c = search all

pub loop-k-preserved : goal.loop-k-preserved
loop-k-preserved c = search all

pub returns : goal.returns
returns c = search all
