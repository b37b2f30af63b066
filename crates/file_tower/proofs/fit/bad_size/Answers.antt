-- `file_tower::fit::bad_size` meets its contract.
use borrow.Author.Rules.{rules}
use Rattle.file_tower.proofs.Ways.{size_offsets, size_end}
use Rattle.file_tower.proofs.fit.bad_size.Goals as goal

ruleset all = (rules, size_offsets, size_end)

pub bad_offsets-requires : goal.bad_offsets-requires
bad_offsets-requires c = search all

pub returns-then-bad_offsets : goal.returns-then-bad_offsets
returns-then-bad_offsets c = search all

pub states_of-states-requires : goal.states_of-states-requires
states_of-states-requires c = search all

pub state_at-requires : goal.state_at-requires
state_at-requires c = search all

pub returns : goal.returns
returns c = search all
