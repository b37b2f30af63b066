-- `file_tower::actions` meets its contract.
use borrow.Author.Rules.{rules}
use Rattle.file_tower.proofs.Laws.{fit_headed, tower_actions}
use Rattle.file_tower.proofs.actions.Goals as goal

ruleset all = (rules, fit_headed, tower_actions)

pub actions_of-requires : goal.actions_of-requires
actions_of-requires c = search all

pub returns : goal.returns
returns c = search all
