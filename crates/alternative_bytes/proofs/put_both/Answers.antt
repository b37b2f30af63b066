use borrow.Author.Rules.{rules}
use Rattle.book_progression.proofs.Stepping.{node_there, fewer_left}
use Rattle.alternative_bytes.proofs.Ways.{merging_start, merging_on, merging_end}
use Rattle.alternative_bytes.proofs.put_both.Goals as goal

ruleset all = (rules, merging_start, node_there, merging_on, fewer_left, merging_end)

pub loop-k-init : goal.loop-k-init
loop-k-init c = search all

pub loop-k-preserved : goal.loop-k-preserved
loop-k-preserved c = search all

pub returns : goal.returns
returns c = search all
