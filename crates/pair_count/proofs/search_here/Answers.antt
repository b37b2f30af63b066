-- The areas are long enough.
use borrow.Author.Rules.{rules}
use Rattle.pair_count.proofs.search_here.Goals as goal

pub search-requires : goal.search-requires
search-requires c = record { tower_with_book = search rules; entries_size_in_bounds = search rules; index_size_in_bounds = search rules; graph_size_in_bounds = search rules; sets_size_in_bounds = search rules; room_size_in_bounds = search rules }
