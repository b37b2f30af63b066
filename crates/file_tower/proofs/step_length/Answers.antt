-- `file_tower::step_length` meets its contract.
use borrow.Author.Rules.{rules}
use Rattle.file_tower.proofs.Laws.{fit_sized}
use Rattle.file_tower.proofs.Ways.{action_within, step_read}
use Rattle.file_tower.proofs.step_length.Goals as goal

ruleset all = (rules, fit_sized, action_within, step_read)

pub length_of-requires : goal.length_of-requires
length_of-requires c = search all

pub returns : goal.returns
returns c = search all
