-- A pair is tried by every enabled action (02, item 3). What comes of each waits in the room, since an over_full pair is stepped from by none.
use Rattle.std.specs.Prelude.{ℕ, ◌+◌, ◌*◌, ◌≤◌, ◌<◌, ◌≡◌, ◌⊎◌, Bool, true, false, List, length}
use Rattle.std.specs.Prelude.{Some}
use Rattle.base.specs.Bytes.{byte_at}
use Rattle.base.specs.Lists.{is_there}
use Rattle.logic.specs.Tower.{Tower, FitTower, tower_of, mask_of}
use Rattle.logic.specs.Book.{Book}
use Rattle.pending.specs.Pending.{Pending}
use Rattle.alternatives.specs.Alternatives.{over, these}
use Rattle.alternatives.specs.Progression.{progressed_set}
use Rattle.alternatives.specs.Pairs.{Pair, alternatives_by, over_full}
use Rattle.reading.specs.BookArea.{nodes_in}
use Rattle.book_progression.specs.NodeBytes.{HeldBook, IsHeld, MarkedState}
use Rattle.set_bytes.specs.SetBytes.{alternative_size, set_size, set_in}
use Rattle.book_alternatives.specs.Offers.{joined_at}
use Rattle.set_index.specs.Entries.{most_entries, most_alternatives, entries_size, entry_number, entry_first, Entry, entry_at}
use Rattle.pair_sets.specs.PairSets.{entry_set, held_set}
use Rattle.pair_trial.specs.Walked.{walked, Walkable}

-- the pair that an entry stands for, and that of entry i
unfoldable pub pair_of : List ℕ → Entry → Pair
pair_of nodes entry = record { state = entry.number; pending = held_set nodes entry }

abbrev pub pair_in : List ℕ → List ℕ → ℕ → Pair
pair_in nodes area i = pair_of nodes (entry_at area i)

-- ---- the room: candidates, then a set for each action, where what comes of it waits; for each action how many alternatives it gives, and in
-- which of these sets they are

abbrev pub waiting_at : ℕ
waiting_at = 15360

abbrev pub counts_at : ℕ
counts_at = 30720

abbrev pub places_at : ℕ
places_at = 30736

abbrev pub room_size : ℕ
room_size = 30752

-- what waits of action a
unfoldable pub waiting_set : List ℕ → List ℕ → ℕ → List Pending
waiting_set nodes room a = set_in room (nodes_in nodes) (waiting_at + set_size * byte_at room (places_at + a)) (byte_at room (counts_at + a))

-- What waits of actions before a stays.
pub record OthersWait (a : ℕ) (room after : List ℕ) : Type 0 where
  pub size : length after ≡ length room
  pub sets : (p : ℕ) → waiting_at ≤ p → p < waiting_at + set_size * a → byte_at after p ≡ byte_at room p
  pub counts : (b : ℕ) → b < a → byte_at after (counts_at + b) ≡ byte_at room (counts_at + b)
  pub places : (b : ℕ) → b < a → byte_at after (places_at + b) ≡ byte_at room (places_at + b)

-- The first `left` alternatives of the joined set lie from `to` on, of n bytes each. Every byte beside them stays.
pub record SetAside (n : ℕ) (sets : List ℕ) (left : ℕ) (room : List ℕ) (to : ℕ) (after : List ℕ) : Type 0 where
  pub size : length after ≡ length room
  pub beside : (p : ℕ) → (p < to) ⊎ (to + alternative_size * left ≤ p) → byte_at after p ≡ byte_at room p
  pub is : set_in after n to left ≡ set_in sets n joined_at left

-- They wait in the set of action a.
pub record WaitsFor (nodes sets : List ℕ) (left a : ℕ) (room after : List ℕ) : Type 0 where
  pub others : OthersWait a room after
  pub count : byte_at after (counts_at + a) ≡ left
  pub place : byte_at after (places_at + a) ≡ a
  pub is : waiting_set nodes after a ≡ set_in sets (nodes_in nodes) joined_at left

-- What waits of action b waits of action a too.
pub record Shared (a b : ℕ) (room after : List ℕ) : Type 0 where
  pub others : OthersWait a room after
  pub count : byte_at after (counts_at + a) ≡ byte_at room (counts_at + b)
  pub place : byte_at after (places_at + a) ≡ byte_at room (places_at + b)

-- ---- one action

-- What is asked before pair i is tried.
pub record Trial (tower table : List ℕ) (by_rows : Bool) (nodes area : List ℕ) (i : ℕ) : Type 0 where
  pub world : Walkable tower table by_rows nodes
  pub size : entries_size ≤ length area
  pub state : entry_number area i < (walked tower table by_rows).states
  pub rising : entry_first area i < entry_first area (i + 1)
  pub inside : entry_first area (i + 1) ≤ most_alternatives
  pub low : i < most_entries

-- The same for action a, which is enabled at its state x.
pub record ActionTrial (tower table : List ℕ) (by_rows : Bool) (nodes area : List ℕ) (i x a : ℕ) : Type 0 where
  pub trial : Trial tower table by_rows nodes area i
  pub listed : a < (walked tower table by_rows).actions
  pub at : x ≡ entry_number area i
  pub enabled : is_there ((walked tower table by_rows).target x a) ≡ true

-- Action b is before a and enabled at x, with a step of the same length.
pub record TriedBefore (b : ℕ) (tower : Tower) (x a : ℕ) : Type 0 where
  pub earlier : b < a
  pub enabled : (y : ℕ) × (tower.target x b ≡ Some y)
  pub same_length : tower.step_length x b ≡ tower.step_length x a

-- What is asked before the alternatives of entry i are tried by the step of action a from state z of the tower.
pub record StepTrial (tower nodes area : List ℕ) (i z a : ℕ) : Type 0 where
  pub fit : FitTower tower
  pub state : z < (tower_of tower).states
  pub action : a < (tower_of tower).actions
  pub held : IsHeld nodes
  pub size : entries_size ≤ length area
  pub rising : entry_first area i < entry_first area (i + 1)
  pub inside : entry_first area (i + 1) ≤ most_alternatives
  pub low : i < most_entries

-- State z of the tower is left by action a: the alternatives of entry i give over 16, or what comes of them waits.
pub record StepTried (full : Bool) (tower nodes area : List ℕ) (i z a : ℕ) (room after : List ℕ) : Type 0 where
  pub over_16 : full ≡ true → (book : Book) → HeldBook nodes book → (at : MarkedState (mask_of tower z))
      → progressed_set at.tower book at.state ((tower_of tower).step_length z a) (entry_set nodes area i) ≡ over
  pub others : full ≡ false → OthersWait a room after
  pub few : full ≡ false → byte_at after (counts_at + a) ≤ 16
  pub place : full ≡ false → byte_at after (places_at + a) ≡ a
  pub waits : full ≡ false → (book : Book) → HeldBook nodes book → (at : MarkedState (mask_of tower z))
      → progressed_set at.tower book at.state ((tower_of tower).step_length z a) (entry_set nodes area i) ≡ these (waiting_set nodes after a)

-- What comes of pair i by action a waits, at most 16 alternatives.
pub record Waits (tower : Tower) (nodes area : List ℕ) (i : ℕ) (room : List ℕ) (a : ℕ) : Type 0 where
  pub few : byte_at room (counts_at + a) ≤ 16
  pub place : byte_at room (places_at + a) ≤ a
  pub is : (h : IsHeld nodes) → alternatives_by tower h.book (pair_in nodes area i) a ≡ these (waiting_set nodes room a)

-- So it is of each enabled action below k.
pub record Trying (tower : Tower) (nodes area : List ℕ) (i : ℕ) (room : List ℕ) (k : ℕ) : Type 0 where
  pub waits : (a y : ℕ) → a < k → tower.target (entry_number area i) a ≡ Some y → Waits tower nodes area i room a

-- Pair i is tried by action a: it is enabled and gives over 16 alternatives, or what comes of it waits too.
pub record Tried (full : Bool) (tower : Tower) (nodes area : List ℕ) (i a : ℕ) (room after : List ℕ) : Type 0 where
  pub enabled : full ≡ true → (y : ℕ) × (tower.target (entry_number area i) a ≡ Some y)
  pub over_16 : full ≡ true → (h : IsHeld nodes) → alternatives_by tower h.book (pair_in nodes area i) a ≡ over
  pub waiting : full ≡ false → Trying tower nodes area i room a → Trying tower nodes area i after (a + 1)

-- ---- all actions

-- Pair i is tried by every action: it is over_full, or what comes of each waits.
pub record AllTried (full : Bool) (tower : Tower) (nodes area : List ℕ) (i : ℕ) (after : List ℕ) : Type 0 where
  pub says : (h : IsHeld nodes) → full ≡ over_full tower h.book (pair_in nodes area i)
  pub waiting : full ≡ false → Trying tower nodes area i after tower.actions
