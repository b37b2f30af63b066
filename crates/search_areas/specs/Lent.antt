-- The six areas that a search for pairs is lent: that they are long enough, and that they are cleared.
use Rattle.std.specs.Prelude.{ℕ, ◌≤◌, ◌≡◌, List, length, replicate}
use Rattle.outcome.specs.Areas.{book_area, pairs_area, index_area, graph_area, sets_area, room_area}

-- The areas are long enough.
pub record Room (nodes pairs index graph sets room : List ℕ) : Type 0 where
  pub nodes_room : book_area ≤ length nodes
  pub pairs_room : pairs_area ≤ length pairs
  pub index_room : index_area ≤ length index
  pub graph_room : graph_area ≤ length graph
  pub sets_room : sets_area ≤ length sets
  pub room_room : room_area ≤ length room

-- The areas hold zeros over their whole length.
pub record LentCleared (nodes pairs index graph sets room nodes_after pairs_after index_after graph_after sets_after room_after : List ℕ) : Type 0 where
  pub nodes_zero : nodes_after ≡ replicate (length nodes) 0
  pub pairs_zero : pairs_after ≡ replicate (length pairs) 0
  pub index_zero : index_after ≡ replicate (length index) 0
  pub graph_zero : graph_after ≡ replicate (length graph) 0
  pub sets_zero : sets_after ≡ replicate (length sets) 0
  pub room_zero : room_after ≡ replicate (length room) 0
