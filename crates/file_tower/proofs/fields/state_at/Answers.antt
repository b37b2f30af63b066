-- `file_tower::fields::state_at` meets its contract.
use borrow.Author.Rules.{rules}
use Rattle.file_tower.proofs.Places.{states_fit, place_fits, state_place}
use Rattle.file_tower.proofs.fields.state_at.Goals as goal

ruleset all = (rules, states_fit, place_fits, state_place)

pub states_at-requires : goal.states_at-requires
states_at-requires c = search all

pub state_size-requires : goal.state_size-requires
state_size-requires c = search all

pub overflow_mul-result : goal.overflow_mul-result
overflow_mul-result c = search all

pub overflow_add-result : goal.overflow_add-result
overflow_add-result c = search all

pub returns : goal.returns
returns c = search all
