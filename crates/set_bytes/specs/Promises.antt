-- What the functions of this crate promise. Where the nodes matter, the promise is for the formulas that the book's bytes hold.
use Rattle.std.specs.Prelude.{ℕ, ◌+◌, ◌*◌, ◌≤◌, ◌<◌, ◌≡◌, Bool, true, false, List, length, get_or, take, drop}
use Rattle.base.specs.Lists.{some_of}
use Rattle.logic.specs.Book.{Formula}
use Rattle.pending.specs.Pending.{Pending}
use Rattle.alternatives.specs.Least.{without, placed, with_one_more, with_more}
use Rattle.alternatives.specs.Alternatives.{Alternatives, broken, asks_no_more, earlier, counted, combined, joined_with}
use Rattle.book_progression.specs.Promises.{AreNodes, Beside}
use Rattle.alternative_bytes.specs.declared.Relation.{Relation}
use Rattle.alternative_bytes.specs.declared.Relation.TheVariants as Told
use Rattle.set_bytes.specs.SetBytes.{alternative_size, set_size, candidates_size, set_in, answered, candidate, chosen}

-- ---- the chosen candidates

-- The first m bytes of the order number candidates below c.
pub record Below (order : List ℕ) (m c : ℕ) : Type 0 where
  pub low : (i : ℕ) → i < m → get_or order i 0 < c

-- Some chosen candidate asks no more than candidate c.
pub record IsCovered (answer : Bool) (bytes : List ℕ) (n : ℕ) (room order : List ℕ) (m c : ℕ) : Type 0 where
  pub says : (fs : List Formula) → AreNodes bytes n fs
      → answer ≡ some_of (λ y. asks_no_more fs y (candidate room n c)) (chosen room n order m)

-- Those are dropped of which candidate c asks no more.
pub record Without (r : ℕ) (bytes : List ℕ) (n : ℕ) (room order : List ℕ) (m c : ℕ) (after : List ℕ) : Type 0 where
  pub size : length after ≡ length order
  pub most : r ≤ m
  pub below : (limit : ℕ) → Below order m limit → Below after r limit
  pub says : (fs : List Formula) → AreNodes bytes n fs
      → chosen room n after r ≡ without (asks_no_more fs) earlier (candidate room n c) (chosen room n order m)

-- How the chosen are related to candidate c: NoMore exactly if it is covered; Apart only if all stay beside it. NoLess leaves that open.
pub record LookedOver (answer : Relation) (bytes : List ℕ) (n : ℕ) (room order : List ℕ) (m c : ℕ) : Type 0 where
  pub covered : answer ≡ Told.NoMore → IsCovered true bytes n room order m c
  pub needed : (answer ≡ Told.NoMore → ⊥) → IsCovered false bytes n room order m c
  pub apart : answer ≡ Told.Apart → Without m bytes n room order m c order

-- Candidate c belongs at place r among the chosen: before the first that it is earlier than.
pub record IsPlace (r n : ℕ) (room order : List ℕ) (m c : ℕ) : Type 0 where
  pub most : r ≤ m
  pub before : (j : ℕ) → j < r → earlier (candidate room n c) (candidate room n (get_or order j 0)) ≡ false
  pub at : r < m → earlier (candidate room n c) (candidate room n (get_or order r 0)) ≡ true

-- The numbers from place p on, up to the m-th, are one place on.
pub record Moved (order : List ℕ) (m p : ℕ) (after : List ℕ) : Type 0 where
  pub size : length after ≡ length order
  pub before : (j : ℕ) → j < p → get_or after j 0 ≡ get_or order j 0
  pub behind : (j : ℕ) → p ≤ j → j < m → get_or after (j + 1) 0 ≡ get_or order j 0

-- Candidate c takes its place among the chosen. (The test is of no use to `placed`; any will do.)
pub record Placed (n : ℕ) (room order : List ℕ) (m c : ℕ) (after : List ℕ) : Type 0 where
  pub size : length after ≡ length order
  pub below : Below order m c → Below after (m + 1) (c + 1)
  pub says : (fs : List Formula)
      → chosen room n after (m + 1) ≡ placed (asks_no_more fs) earlier (candidate room n c) (chosen room n order m)

-- Candidate c takes its place among those that are not dropped.
pub record Replaced (r : ℕ) (bytes : List ℕ) (n : ℕ) (room order : List ℕ) (m c : ℕ) (after : List ℕ) : Type 0 where
  pub size : length after ≡ length order
  pub most : r ≤ m + 1
  pub below : Below order m c → Below after r (c + 1)
  pub says : (fs : List Formula) → AreNodes bytes n fs
      → chosen room n after r
      ≡ placed (asks_no_more fs) earlier (candidate room n c) (without (asks_no_more fs) earlier (candidate room n c) (chosen room n order m))

-- One more candidate.
pub record Added (r : ℕ) (bytes : List ℕ) (n : ℕ) (room order : List ℕ) (m c : ℕ) (after : List ℕ) : Type 0 where
  pub size : length after ≡ length order
  pub most : r ≤ m + 1
  pub below : Below order m c → Below after r (c + 1)
  pub says : (fs : List Formula) → AreNodes bytes n fs
      → chosen room n after r ≡ with_one_more (asks_no_more fs) earlier (candidate room n c) (chosen room n order m)

-- ---- sets

-- Only the bytes of candidates have changed, from number c on.
pub record Candidates (room : List ℕ) (c : ℕ) (after : List ℕ) : Type 0 where
  pub size : length after ≡ length room
  pub before : take (alternative_size * c) after ≡ take (alternative_size * c) room
  pub behind : drop candidates_size after ≡ drop candidates_size room

-- Of m chosen candidates, all below c, and k more, which the nodes say, r are left, all below c + k.
pub record Gathered (r : ℕ) (bytes : List ℕ) (n : ℕ) (more : List Formula → List Pending) (room order : List ℕ) (m c k : ℕ) (after_room after : List ℕ) : Type 0 where
  pub size : length after ≡ length order
  pub most : r ≤ m + k
  pub below : Below order m c → Below after r (c + k)
  pub candidates : Candidates room c after_room
  pub says : Below order m c → (fs : List Formula) → AreNodes bytes n fs
      → chosen after_room n after r ≡ with_more (asks_no_more fs) earlier (chosen room n order m) (more fs)

-- The a alternatives from p on are the first a candidates, all chosen, in their order.
pub record AllTaken (n : ℕ) (sets : List ℕ) (p a : ℕ) (room order after_room after : List ℕ) : Type 0 where
  pub size : length after ≡ length order
  pub below : Below after a a
  pub candidates : Candidates room 0 after_room
  pub is : chosen after_room n after a ≡ set_in sets n p a

-- Beside those of one set, as they are, the b alternatives of the other are gathered one after the other.
pub record EitherGathered (r : ℕ) (bytes : List ℕ) (n : ℕ) (sets : List ℕ) (p a q b : ℕ) (room order after_room after : List ℕ) : Type 0 where
  pub size : length after ≡ length order
  pub most : r ≤ a + b
  pub candidates : Candidates room 0 after_room
  pub says : (fs : List Formula) → AreNodes bytes n fs
      → chosen after_room n after r ≡ with_more (asks_no_more fs) earlier (set_in sets n p a) (set_in sets n q b)

-- The r chosen candidates, written to the set at `to`. Every byte beside it stays.
pub record PutOut (n : ℕ) (room order : List ℕ) (r : ℕ) (sets : List ℕ) (to : ℕ) (after : List ℕ) : Type 0 where
  pub beside : Beside sets to set_size after
  pub is : set_in after n to r ≡ chosen room n order r

-- The candidates that are left are counted and, if they are at most 16, written to the set at `to`.
pub record Finished (r n : ℕ) (room order : List ℕ) (left : ℕ) (sets : List ℕ) (to : ℕ) (after : List ℕ) : Type 0 where
  pub most : r ≤ 17
  pub beside : Beside sets to set_size after
  pub is : answered after n to r ≡ counted (chosen room n order left)

-- What a combination leaves: the set at `to` changes, and of the room only the candidates.
pub record Leaves (r : ℕ) (sets : List ℕ) (to : ℕ) (room after after_room : List ℕ) : Type 0 where
  pub most : r ≤ 17
  pub beside : Beside sets to set_size after
  pub candidates : Candidates room 0 after_room

-- Two sets that are both to be met.
pub record Combines (r : ℕ) (bytes : List ℕ) (n : ℕ) (sets : List ℕ) (p a q b to : ℕ) (room after after_room : List ℕ) : Type 0 where
  pub leaves : Leaves r sets to room after after_room
  pub says : (fs : List Formula) → AreNodes bytes n fs → answered after n to r ≡ combined fs (answered sets n p a) (answered sets n q b)

-- A set has nothing to drop: joined with none, it is itself.
abbrev pub NothingToDrop : List Formula → Alternatives → Type 0
NothingToDrop fs s = joined_with fs broken s ≡ s

-- Two sets of which either is to be met, where the first has nothing to drop.
pub record JoinsSets (r : ℕ) (bytes : List ℕ) (n : ℕ) (sets : List ℕ) (p a q b to : ℕ) (room after after_room : List ℕ) : Type 0 where
  pub leaves : Leaves r sets to room after after_room
  pub says : (fs : List Formula) → AreNodes bytes n fs → NothingToDrop fs (answered sets n p a)
      → answered after n to r ≡ joined_with fs (answered sets n p a) (answered sets n q b)

-- ---- what is asked

-- Room for two sets in an area, for a third, and for candidates.
pub record SetsReady (n : ℕ) (sets : List ℕ) (p q to : ℕ) (room : List ℕ) : Type 0 where
  pub nodes : n ≤ 60
  pub first : p + set_size ≤ length sets
  pub second : q + set_size ≤ length sets
  pub target : to + set_size ≤ length sets
  pub candidates : candidates_size ≤ length room

-- Room for k more candidates from number c on, and for their numbers behind m.
pub record RoomFor (k n : ℕ) (room order : List ℕ) (m c : ℕ) : Type 0 where
  pub nodes : n ≤ 60
  pub candidates : candidates_size ≤ length room
  pub numbers : 256 ≤ length order
  pub few : m ≤ c
  pub limit : c + k ≤ 256
