-- `checker_files::for_tower` meets its contract.
use borrow.Author.Rules.{rules}
use Rattle.checker_files.proofs.Ways.{for_counts}
use Rattle.checker_files.proofs.for_tower.Goals as goal

ruleset all = (rules, for_counts)

pub states-s-requires : goal.states-s-requires
states-s-requires c = search all

pub actions-a-requires : goal.actions-a-requires
actions-a-requires c = search all

pub laid_out_for-requires : goal.laid_out_for-requires
laid_out_for-requires c = search all

pub returns : goal.returns
returns c = search all
