-- `pair_sets::take` meets its contract.
use borrow.Author.Rules.{rules}
use Rattle.pair_sets.proofs.Ways.{take_whole}
use Rattle.pair_sets.proofs.take.Goals as goal

ruleset all = (rules, take_whole)

pub returns : goal.returns
returns c = search all
