-- Pairs as entries of a lent area, and where one action leads from one of them. An entry holds the state and the alternatives.
use Rattle.std.specs.Prelude.{ℕ, ◌+◌, ◌*◌, ◌≤◌, ◌<◌, ◌≡◌, Bool, true, false, List, [], ◌∷◌, ◌++◌, map, length}
use Rattle.std.specs.Prelude.{Option, None, Some}
use Rattle.base.specs.Choice.{pick}
use Rattle.base.specs.Bytes.{byte_at}
use Rattle.base.specs.Lists.{some_of}
use Rattle.logic.specs.Tower.{Tower, tower_of}
use Rattle.logic.specs.Book.{Book}
use Rattle.logic.specs.Sides.{OneSided}
use Rattle.alternatives.specs.Alternatives.{these}
use Rattle.alternatives.specs.Pairs.{Pair, same_pair, alternatives_by, over_full, pair_step}
use Rattle.book_progression.specs.NodeBytes.{IsHeld}
use Rattle.set_index.specs.Entries.{most_entries, most_alternatives, entries_size, index_size, entry_number, entry_first, entry_at, entries_of, Headed, Indexed}
use Rattle.pair_sets.specs.PairSets.{entry_set, Blank, Stays, Entered}
use Rattle.pair_graph.specs.Graph.{Move, not_enabled, broken, to}
use Rattle.pair_graph.specs.Steps.{action_room, graph_size, state_in, move_of, move_at, is_enabled}
use Rattle.pair_trial.specs.Walked.{walked, Walkable}
use Rattle.pair_trial.specs.Trial.{pair_of, pair_in, counts_at, places_at, room_size, Trying}
use Rattle.pair_step.specs.declared.Way.{Way}

-- ---- pairs as entries

-- the first n pairs of an area
unfoldable pub pairs_of : List ℕ → List ℕ → ℕ → List Pair
pairs_of nodes area n = map (pair_of nodes) (entries_of area n)

-- those seen, with the one that is there if it is new
unfoldable pub with_one : {X : Type 0} → (X → X → Bool) → List X → Option X → List X
with_one same seen None = seen
with_one same seen (Some x) = pick (some_of (same x) seen) (λ _. seen) (λ _. seen ++ (x ∷ []))

-- There is room for all entries; the first n have states of the tower, and one alternative or more; where no `|` of the book has two timed sides,
-- one. The rest of every alternative is blank.
pub record PairsFilled (tower : Tower) (nodes : List ℕ) (wide : Bool) (area : List ℕ) (n : ℕ) : Type 0 where
  pub size : entries_size ≤ length area
  pub states : (j : ℕ) → j < n → entry_number area j < tower.states
  pub start : entry_first area 0 ≡ 0
  pub rising : (j : ℕ) → j < n → entry_first area j < entry_first area (j + 1)
  pub single : wide ≡ false → (j : ℕ) → j < n → entry_first area (j + 1) ≡ entry_first area j + 1
  pub blank : Blank nodes area

-- The switch says whether some `|` of the book has two timed sides.
pub record WideRight (wide : Bool) (nodes : List ℕ) : Type 0 where
  pub says : wide ≡ false → (h : IsHeld nodes) → OneSided h.book

-- ---- what is written of the graph

-- What a move says of action a from pair v, where the first n entries are the pairs.
pub data SaysMove (tower : Tower) (book : Book) (nodes area : List ℕ) (n : ℕ) (v : Pair) (a : ℕ) : Move → Type 0 where
  moves_not : tower.target v.state a ≡ None → SaysMove tower book nodes area n v a not_enabled
  moves_broken : (y : ℕ) → tower.target v.state a ≡ Some y → pair_step tower book v a ≡ None → SaysMove tower book nodes area n v a broken
  moves_to : (j : ℕ) → j < n → pair_step tower book v a ≡ Some (pair_in nodes area j) → SaysMove tower book nodes area n v a (to j)

-- The graph is right as far as it is written: the states of the first s pairs, and the moves before number k, 16 for each pair in turn.
pub record RightGraph (tower : Tower) (nodes area : List ℕ) (n : ℕ) (graph : List ℕ) (s k : ℕ) : Type 0 where
  pub states : (j : ℕ) → j < s → state_in graph j ≡ entry_number area j
  pub says : (h : IsHeld nodes) (j a : ℕ) → a < tower.actions → 16 * j + a < k
      → SaysMove tower h.book nodes area n (pair_in nodes area j) a (move_at graph j a)

-- ---- one pair

-- What is asked before more is written of pair i: files and book, n pairs that the index knows, and a graph that is right so far.
pub record Turning (tower table : List ℕ) (rows : Bool) (nodes : List ℕ) (wide : Bool) (area : List ℕ) (n : ℕ) (index graph : List ℕ) (i s k : ℕ) : Type 0 where
  pub world : Walkable tower table rows nodes
  pub width : WideRight wide nodes
  pub filled : PairsFilled (walked tower table rows) nodes wide area n
  pub light : entry_first area n ≤ most_alternatives
  pub indexed : Indexed area index n
  pub right : RightGraph (walked tower table rows) nodes area n graph s k
  pub index_room : index_size ≤ length index
  pub graph_room : graph_size ≤ length graph
  pub low : i < n
  pub most : n ≤ most_entries

-- The same where the pair is not over_full, and what comes of it waits if the book is wide.
pub record Searching (tower table : List ℕ) (rows : Bool) (nodes : List ℕ) (wide : Bool) (area : List ℕ) (n : ℕ) (index graph room : List ℕ) (i s k : ℕ) : Type 0 where
  pub turning : Turning tower table rows nodes wide area n index graph i s k
  pub spare : (h : IsHeld nodes) → over_full (walked tower table rows) h.book (pair_in nodes area i) ≡ false
  pub waiting : wide ≡ true → Trying (walked tower table rows) nodes area i room (walked tower table rows).actions
  pub space : room_size ≤ length room

-- ---- a pair that is over_full

-- the number of its move: broken by an enabled action
unfoldable pub blocked_number : Option ℕ → ℕ
blocked_number None = 0
blocked_number (Some y) = 1

-- Its moves by the first k actions are written. Every other move of a pair before it stays, and so do the states.
pub record Blocked (tower : Tower) (area : List ℕ) (i k : ℕ) (graph after : List ℕ) : Type 0 where
  pub size : length after ≡ length graph
  pub moves : (a : ℕ) → a < k → move_at after i a ≡ move_of (blocked_number (tower.target (entry_number area i) a))
  pub before : (j b : ℕ) → 16 * j + b < 16 * i → move_at after j b ≡ move_at graph j b
  pub states : (j : ℕ) → state_in after j ≡ state_in graph j

-- ---- what is pending behind one step

-- Action b is before a and enabled in pair i, with a step of the same length.
pub record Earlier (b : ℕ) (tower graph : List ℕ) (x i a : ℕ) : Type 0 where
  pub before : b < a
  pub enabled : is_enabled (move_at graph i b) ≡ true
  pub same_length : (tower_of tower).step_length x b ≡ (tower_of tower).step_length x a

-- The move of action b from pair i is written, b is enabled there, and the move leads to one of the first n pairs if to any, with few
-- alternatives.
pub record MoveLeads (graph area : List ℕ) (i b n : ℕ) : Type 0 where
  pub enabled : is_enabled (move_at graph i b) ≡ true
  pub inside : (j : ℕ) → move_at graph i b ≡ to j → j < n
  pub few : (j : ℕ) → move_at graph i b ≡ to j → entry_first area (j + 1) ≤ entry_first area j + 16

-- What was pending behind the step of action b from pair i is taken over: entry n holds it with the number. The step is broken if that is.
pub data TakenOver (nodes graph area : List ℕ) (i b number n : ℕ) (after : List ℕ) : Bool → Type 0 where
  taken_broken : move_at graph i b ≡ broken → after ≡ area → TakenOver nodes graph area i b number n after false
  taken_from : (j : ℕ) → move_at graph i b ≡ to j → Entered true nodes area number n (these (entry_set nodes area j)) after
      → TakenOver nodes graph area i b number n after true

-- What is asked before entry n gets what comes of pair i by action a, where no `|` of the book has two timed sides.
pub record Single (tower table : List ℕ) (rows : Bool) (nodes area : List ℕ) (n : ℕ) (graph : List ℕ) (i a : ℕ) : Type 0 where
  pub world : Walkable tower table rows nodes
  pub sided : (h : IsHeld nodes) → OneSided h.book
  pub filled : PairsFilled (walked tower table rows) nodes false area n
  pub light : entry_first area n ≤ most_alternatives
  pub right : RightGraph (walked tower table rows) nodes area n graph (i + 1) (16 * i + a)
  pub graph_room : graph_size ≤ length graph
  pub low : i < n
  pub most : n ≤ most_entries
  pub listed : a < (walked tower table rows).actions

-- The room has a set for what waits of action a.
pub record RoomFor (room : List ℕ) (a : ℕ) : Type 0 where
  pub few : byte_at room (counts_at + a) ≤ 16
  pub place : byte_at room (places_at + a) ≤ a
  pub low : a < action_room
  pub space : room_size ≤ length room

-- Entry n holds the number, and what comes of pair i by action a. The entries before n stay. Where the answer is false the step is broken, and
-- nothing is said of entry n.
pub record NextEntered (b : Bool) (tower : Tower) (nodes area : List ℕ) (i a number n : ℕ) (after : List ℕ) : Type 0 where
  pub stays : Stays nodes area n after
  pub headed : b ≡ true → Headed after n
  pub says : (h : IsHeld nodes) → Entered b nodes area number n (alternatives_by tower h.book (pair_in nodes area i) a) after

-- ---- one action

-- Action a of pair i is followed: the pair that it leads to is one of the first `met`, and the code is that of its move.
pub record ActionFollowed (way : Way) (tower : Tower) (nodes : List ℕ) (wide : Bool) (area : List ℕ) (i a n : ℕ) (after index : List ℕ) : Type 0 where
  pub least : n ≤ way.met
  pub most : way.met ≤ n + 1
  pub filled : PairsFilled tower nodes wide after way.met
  pub indexed : Indexed after index way.met
  pub kept : (j : ℕ) → j < n → entry_at after j ≡ entry_at area j
  pub small : way.code < 65536
  pub says : (h : IsHeld nodes)
      → SaysMove tower h.book nodes after way.met (pair_in nodes area i) a (move_of way.code)
  pub grown : (h : IsHeld nodes)
      → pairs_of nodes after way.met ≡ with_one same_pair (pairs_of nodes area n) (pair_step tower h.book (pair_in nodes area i) a)

-- Action a of pair i is followed, and its move is written too.
pub record Stepped (m : ℕ) (tower : Tower) (nodes : List ℕ) (wide : Bool) (area : List ℕ) (i a n : ℕ) (after index graph : List ℕ) : Type 0 where
  pub least : n ≤ m
  pub most : m ≤ n + 1
  pub filled : PairsFilled tower nodes wide after m
  pub indexed : Indexed after index m
  pub kept : (j : ℕ) → j < n → entry_at after j ≡ entry_at area j
  pub grown : (h : IsHeld nodes)
      → pairs_of nodes after m ≡ with_one same_pair (pairs_of nodes area n) (pair_step tower h.book (pair_in nodes area i) a)
  pub right : RightGraph tower nodes after m graph (i + 1) (16 * i + a + 1)
