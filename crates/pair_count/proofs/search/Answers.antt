-- `pair_count::search` meets its contract.
use borrow.Author.Rules.{rules}
use Rattle.pair_trial.proofs.Walking.{tower_walkable}
use Rattle.pair_count.proofs.Ways.{met_few}
use Rattle.pair_count.proofs.search.Goals as goal

pub explore-found-requires : goal.explore-found-requires
explore-found-requires c = record { walkable = search tower_walkable; entries_size_in_bounds = search rules; index_size_in_bounds = search rules; graph_size_in_bounds = search rules; sets_size_in_bounds = search rules; room_size_in_bounds = search rules }

pub first-requires : goal.first-requires
first-requires c = record { i_bound = search (met_few, c.explore-found.ensures); entries_size_in_bounds = search (rules, c.explore-found.auto, c.requires) }
