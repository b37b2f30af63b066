-- `pair_sets::begin` meets its contract.
use borrow.Author.Rules.{rules}
use Rattle.pair_sets.proofs.Ways.{begin_first}
use Rattle.pair_sets.proofs.begin.Goals as goal

ruleset all = (rules, begin_first)

pub returns : goal.returns
returns c = search all
