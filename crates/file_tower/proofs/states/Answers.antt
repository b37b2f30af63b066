-- `file_tower::states` meets its contract.
use borrow.Author.Rules.{rules}
use Rattle.file_tower.proofs.Laws.{fit_headed, tower_states}
use Rattle.file_tower.proofs.states.Goals as goal

ruleset all = (rules, fit_headed, tower_states)

pub states_of-requires : goal.states_of-requires
states_of-requires c = search all

pub returns : goal.returns
returns c = search all
