-- `file_tower::start` meets its contract.
use borrow.Author.Rules.{rules}
use Rattle.file_tower.proofs.Laws.{fit_headed, tower_start}
use Rattle.file_tower.proofs.start.Goals as goal

ruleset all = (rules, fit_headed, tower_start)

pub start_of-requires : goal.start_of-requires
start_of-requires c = search all

pub returns : goal.returns
returns c = search all
