-- `pair_sets::note` meets its contract.
use borrow.Author.Rules.{rules}
use Rattle.set_index.proofs.Laws.{not_found_new}
use Rattle.pair_sets.proofs.Ways.{note_old, note_new}
use Rattle.pair_sets.proofs.note.Goals as goal

ruleset all = (rules, note_old, not_found_new)

pub returns-in-Some : goal.returns-in-Some
returns-in-Some c = search all

pub add-requires : goal.add-requires
add-requires c = record { indexed = search all; h_value = search all; new = search all; headed = search all; n_le_most_entries = search all; entries_size_in_bounds = search all; index_size_in_bounds = search all }

pub returns : goal.returns
returns c = note_new _ _ _ c.in_default.ensures (search rules) (search rules) c.add.ensures
