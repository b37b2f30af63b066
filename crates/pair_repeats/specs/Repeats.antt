-- An action that leads from a pair to where an earlier one led: the same set waits of both in the room, and the state is the same.
use Rattle.std.specs.Prelude.{ℕ, ◌+◌, ◌≤◌, ◌<◌, ◌≡◌, List, length}
use Rattle.base.specs.Bytes.{byte_at}
use Rattle.set_index.specs.Entries.{most_entries, entries_size, entry_number}
use Rattle.pair_graph.specs.Graph.{to}
use Rattle.pair_graph.specs.Steps.{action_room, graph_size, move_at}
use Rattle.pair_trial.specs.Trial.{counts_at, places_at, room_size}

-- What is asked before the move of an earlier action of pair i is taken for that of action a: the moves before it are written, and lead to pairs that
-- there may be, if to any.
pub record MovesWritten (area graph room : List ℕ) (i a : ℕ) : Type 0 where
  pub size : entries_size ≤ length area
  pub graph_room : graph_size ≤ length graph
  pub space : room_size ≤ length room
  pub low : i < most_entries
  pub action : a < action_room
  pub inside : (b j : ℕ) → b < a → move_at graph i b ≡ to j → j < most_entries

-- Action b led from pair i to pair j, of state y, and what waits of it is what waits of action a.
pub record LedAlike (j : ℕ) (area graph room : List ℕ) (i a b y : ℕ) : Type 0 where
  pub earlier : b < a
  pub inside : j < most_entries
  pub count : byte_at room (counts_at + b) ≡ byte_at room (counts_at + a)
  pub place : byte_at room (places_at + b) ≡ byte_at room (places_at + a)
  pub leads : move_at graph i b ≡ to j
  pub state : entry_number area j ≡ y

-- So it is with some action. (Where none is found nothing is said: then the pair is looked up, and that costs time and no more.)
pub record LedBefore (j : ℕ) (area graph room : List ℕ) (i a y : ℕ) : Type 0 where
  pub action : ℕ
  pub alike : LedAlike j area graph room i a action y
