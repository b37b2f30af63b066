-- Removal: which pairs are fine among the safe ones, as a test, and what the phase and its parts leave in their area. The area has a flag for
-- each pair, behind the flags the lists of predecessors (pair_graph/specs/Predecessors.antt), and behind them the worklist. A flag is 1 for
-- a safe pair, 2 for a removed pair on the worklist, and 0 for a removed pair whose predecessors have been looked at.
use Rattle.std.specs.Prelude.{ℕ, ◌+◌, ◌*◌, ◌≤◌, ◌<◌, ◌≡◌, Bool, true, false, ◌&&◌, ◌||◌, not, List, length, eqb}
use Rattle.base.specs.Lists.{every, some_of, below}
use Rattle.base.specs.Bytes.{byte_at, number_at}
use Rattle.logic.specs.Tower.{Tower, FitTower, tower_of, controllable, goes_on}
use Rattle.pair_graph.specs.Graph.{Move, not_enabled, broken, to, Largest}
use Rattle.pair_graph.specs.Steps.{action_room, move_at, graph_of, safe_in, HoldsGraph, FlaggedGraph}
use Rattle.pair_graph.specs.Predecessors.{lists_end, Listed}
use Rattle.pair_graph.specs.Counting.{count}

-- ---- Pairs that are fine among the safe

-- the move leads to a safe pair
unfoldable pub leads_inside : (ℕ → Bool) → Move → Bool
leads_inside safe not_enabled = false
leads_inside safe broken = false
leads_inside safe (to j) = safe j

-- the move does not leave the safe pairs: it is not enabled, or leads to one of them
unfoldable pub stays_inside : (ℕ → Bool) → Move → Bool
stays_inside safe not_enabled = true
stays_inside safe broken = false
stays_inside safe (to j) = safe j

-- action a cannot force a way out of the safe pairs from pair i: it may be withheld, or stays inside
unfoldable pub not_forced_at : Tower → List ℕ → (ℕ → Bool) → ℕ → ℕ → Bool
not_forced_at tower graph safe i a = controllable (tower.kind a) || stays_inside safe (move_at graph i a)

-- action a goes on from pair i inside the safe pairs
unfoldable pub goes_at : Tower → List ℕ → (ℕ → Bool) → ℕ → ℕ → Bool
goes_at tower graph safe i a = goes_on (tower.kind a) && leads_inside safe (move_at graph i a)

-- no action can force a way out from pair i
unfoldable pub none_forced : Tower → List ℕ → (ℕ → Bool) → ℕ → Bool
none_forced tower graph safe i = every (not_forced_at tower graph safe i) (below tower.actions)

-- some action goes on from pair i inside the safe pairs
unfoldable pub some_goes : Tower → List ℕ → (ℕ → Bool) → ℕ → Bool
some_goes tower graph safe i = some_of (goes_at tower graph safe i) (below tower.actions)

-- pair i is fine among the safe
unfoldable pub fine_at : Tower → List ℕ → (ℕ → Bool) → ℕ → Bool
fine_at tower graph safe i = none_forced tower graph safe i && some_goes tower graph safe i

-- ---- What the functions are given

-- where the worklist begins, and where the area ends
abbrev pub worklist_at : ℕ
worklist_at = lists_end

abbrev pub removal_size : ℕ
removal_size = 37000

-- What removal works on: a tower, a graph of n pairs, and an area.
pub record RemovalInput (tower : List ℕ) (n : ℕ) (graph area : List ℕ) : Type 0 where
  pub fit : FitTower tower
  pub held : HoldsGraph n (tower_of tower).actions graph
  pub room : removal_size ≤ length area

-- A tower, a graph of n pairs with their flags, and pair i one of them.
pub record PairInput (tower : List ℕ) (n : ℕ) (graph flags : List ℕ) (i : ℕ) : Type 0 where
  pub fit : FitTower tower
  pub flagged : FlaggedGraph n (tower_of tower).actions graph flags
  pub there : i < n

-- ---- The area

-- pair i is safe, or removed with its predecessors still to be looked at
unfoldable pub live_in : List ℕ → ℕ → Bool
live_in area i = not (eqb (byte_at area i) 0)

-- entry k of the worklist: the number of a pair
unfoldable pub entry_in : List ℕ → ℕ → ℕ
entry_in area k = number_at 2 area (worklist_at + 2 * k)

-- Pair i is among the first entries of the worklist.
pub record OnList (area : List ℕ) (height i : ℕ) : Type 0 where
  pub place : ℕ
  pub within : place < height
  pub is : entry_in area place ≡ i

-- The worklist has so many entries: pairs that are removed, and all of those that are still live. Each safe pair has room on it.
pub record Worklist (n : ℕ) (area : List ℕ) (height : ℕ) : Type 0 where
  pub pairs : (k : ℕ) → k < height → entry_in area k < n
  pub removed : (k : ℕ) → k < height → safe_in area (entry_in area k) ≡ false
  pub waiting : (i : ℕ) → i < n → live_in area i ≡ true → safe_in area i ≡ false → OnList area height i
  pub room : count (safe_in area) n + height ≤ n

-- Whatever pairs are fine among themselves are all safe.
pub record HoldsAll (tower : Tower) (n : ℕ) (graph area : List ℕ) : Type 0 where
  pub all : (other : ℕ → Bool) → ((i : ℕ) → i < n → other i ≡ true → fine_at tower graph other i ≡ true) → (i : ℕ) → i < n
      → other i ≡ true → safe_in area i ≡ true

-- Removal under way: every safe pair is fine among the live, but for some that are still to be looked at.
pub record Removing (tower : Tower) (n : ℕ) (graph : List ℕ) (Ahead : ℕ → Type 0) (area : List ℕ) (height : ℕ) : Type 0 where
  pub listed : Listed n tower.actions graph (action_room * n) area
  pub worklist : Worklist n area height
  pub holds : HoldsAll tower n graph area
  pub fine : (i : ℕ) → i < n → safe_in area i ≡ true → (Ahead i → ⊥) → fine_at tower graph (live_in area) i ≡ true

-- no pair is ahead
unfoldable pub none_ahead : ℕ → Type 0
none_ahead i = ⊥

-- the pairs from k on are ahead
unfoldable pub from : ℕ → ℕ → Type 0
from k i = k ≤ i

-- A move from pair i to pair j has its cell below `at`: ahead are the pairs that a walk through the list of j has still to come to.
pub record CellAhead (actions : ℕ) (graph : List ℕ) (j at i : ℕ) : Type 0 where
  pub action : ℕ
  pub listed : action < actions
  pub below : action_room * i + action < at
  pub leads : move_at graph i action ≡ to j

-- ---- What the functions leave

-- All pairs are safe, and the lists are as they were.
pub record AllSafe (n : ℕ) (area after : List ℕ) : Type 0 where
  pub safe : (i : ℕ) → i < n → safe_in after i ≡ true
  pub behind : (p : ℕ) → n ≤ p → byte_at after p ≡ byte_at area p

-- Pair i is removed and put on top of the worklist.
pub record Pushed (i height : ℕ) (area after : List ℕ) : Type 0 where
  pub flag : byte_at after i ≡ 2
  pub before : (p : ℕ) → p < worklist_at → (p ≡ i → ⊥) → byte_at after p ≡ byte_at area p
  pub entry : entry_in after height ≡ i
  pub below : (k : ℕ) → k < height → entry_in after k ≡ entry_in area k

-- pair i has to go: it is safe so far, and not fine among the safe
unfoldable pub has_to_go : Tower → List ℕ → List ℕ → ℕ → Bool
has_to_go tower graph area i = safe_in area i && not (fine_at tower graph (safe_in area) i)

-- Pair i was looked at: if it has to go it is put on the worklist, which has r entries then.
pub record Visited (tower : Tower) (graph : List ℕ) (i height : ℕ) (area after : List ℕ) (r : ℕ) : Type 0 where
  pub goes : Bool
  pub answer : goes ≡ has_to_go tower graph area i
  pub same : goes ≡ false → after ≡ area
  pub entries_same : goes ≡ false → r ≡ height
  pub pushed : goes ≡ true → Pushed i height area after
  pub one_more : goes ≡ true → r ≡ height + 1

-- A part of the work has left the worklist at this height, with less to do than before or as much.
pub record Worked (tower : Tower) (n : ℕ) (graph : List ℕ) (most : ℕ) (after : List ℕ) (height : ℕ) : Type 0 where
  pub state : Removing tower n graph none_ahead after height
  pub less : count (safe_in after) n + height ≤ most

-- What removal leaves: the largest set of pairs that are fine among themselves, and the lists of predecessors.
pub record Removed (tower : Tower) (n : ℕ) (graph after : List ℕ) : Type 0 where
  pub largest : Largest (graph_of tower n graph) (safe_in after)
  pub listed : Listed n tower.actions graph (action_room * n) after
