-- `pair_sets::copy` meets its contract.
use borrow.Author.Rules.{rules}
use Rattle.pair_sets.proofs.Ways.{copy_some, copy_before, copy_inside, copy_whole}
use Rattle.pair_sets.proofs.copy.Goals as goal

ruleset all = (rules, copy_some, copy_before, copy_inside, copy_whole)

pub copy_alternatives-requires-clause-count_bound : goal.copy_alternatives-requires-clause-count_bound
copy_alternatives-requires-clause-count_bound c = search all

pub copy_alternatives-requires-clause-count_bound_2 : goal.copy_alternatives-requires-clause-count_bound_2
copy_alternatives-requires-clause-count_bound_2 c = search all

pub returns : goal.returns
returns c = search all
