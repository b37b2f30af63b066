-- The eight areas that the maker is lent: that they are long enough, and that they are cleared.
use Rattle.std.specs.Prelude.{ℕ, ◌≤◌, ◌≡◌, List, length, replicate}
use Rattle.outcome.specs.Areas.{flags_area, classes_area}
use Rattle.search_areas.specs.Lent as Lent
use Rattle.search_areas.specs.Lent.{LentCleared}

-- The areas are long enough.
pub record Room (nodes pairs index graph sets room flags classes : List ℕ) : Type 0 where
  pub lent : Lent.Room nodes pairs index graph sets room
  pub flags_room : flags_area ≤ length flags
  pub classes_room : classes_area ≤ length classes

-- Every area is zero over its whole length.
pub record AllCleared (nodes pairs index graph sets room flags classes nodes_after pairs_after index_after graph_after sets_after room_after flags_after classes_after : List ℕ) : Type 0 where
  pub lent : LentCleared nodes pairs index graph sets room nodes_after pairs_after index_after graph_after sets_after room_after
  pub flags_zero : flags_after ≡ replicate (length flags) 0
  pub classes_zero : classes_after ≡ replicate (length classes) 0
