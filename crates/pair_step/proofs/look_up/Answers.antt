-- `pair_step::look_up` meets its contract.
use borrow.Author.Rules.{rules}
use borrow.Author.Tests.{not-true, not-false}
use Rattle.pair_step.proofs.Following.{still_indexed, still_room, still_headed, move_fits, looked_broken, looked_up}
use Rattle.pair_step.proofs.look_up.Goals as goal

pub enter-requires : goal.enter-requires
enter-requires c = record { searching = search rules; a_bound = search rules; a_value = search rules }

pub returns-then-not-enter : goal.returns-then-not-enter
returns-then-not-enter c = search (rules, not-true, looked_broken)

pub note-place-requires : goal.note-place-requires
note-place-requires c = let entered = c.enter.ensures in let asked = c.requires.searching in record { indexed = still_indexed _ _ _ _ _ _ _ _ _ _ entered asked.turning.indexed; headed = still_headed _ _ _ _ _ _ _ _ _ entered (search (rules, not-false)); n_le_most_entries = search rules; entries_size_in_bounds = still_room _ _ _ _ _ _ _ _ _ _ entered asked.turning.filled; index_size_in_bounds = search rules }

pub overflow_add-result : goal.overflow_add-result
overflow_add-result c = search (rules, move_fits)

pub returns : goal.returns
returns c = search (rules, not-false, looked_up)
