-- What the functions of this crate promise. Each promise is for every formula that the book's bytes hold, and for every state with the given
-- marks. The sets of the nodes lie in one area, that of node k at 960 k; behind them the set that is combined so far, and the set that is joined
-- so far.
use Rattle.std.specs.Prelude.{ℕ, ◌+◌, ◌*◌, ◌≤◌, ◌<◌, ◌≡◌, Bool, true, false, ◌&&◌, List, length, take, drop}
use Rattle.std.specs.Prelude.{Option, None, Some}
use Rattle.logic.specs.Tower.{Tower}
use Rattle.logic.specs.Book.{Formula, timed, size, nodes, root, Rule, Book, constant, proposition, and, or, next, always_for, until}
use Rattle.logic.specs.Sides.{one_sided, OneSided}
use Rattle.logic.specs.declared.Tick.{Tick}
use Rattle.pending.specs.Pending.{put}
use Rattle.alternatives.specs.Alternatives.{Alternatives, combined, joined_with}
use Rattle.alternatives.specs.Progression.{nothing_pending, alone_pending, if_so, alternatives_of, combined_nodes, combined_rule, combined_rules, alternatives_behind, progressed_set}
use Rattle.reading.specs.BookArea.{nodes_in}
use Rattle.book_progression.specs.PendingBytes.{cell_of}
use Rattle.book_progression.specs.NodeBytes.{code_of, Stored, HeldBook, IsHeld, MarkedState}
use Rattle.book_progression.specs.Promises.{AreNodes, HasNodes, Beside, LineIs}
use Rattle.alternative_bytes.specs.AlternativeBytes.{alternative_in}
use Rattle.set_bytes.specs.SetBytes.{set_size, candidates_size, set_in, answered}
use Rattle.set_bytes.specs.Promises.{Candidates, Leaves, NothingToDrop}
use Rattle.book_alternatives.specs.Looking.{staying, of_two, has_part, has_first, looked_at}
use Rattle.book_alternatives.specs.declared.Look.{Look}
use Rattle.book_alternatives.specs.declared.Look.TheVariants as Seen
use Rattle.book_alternatives.specs.declared.SetAt.{SetAt}

-- where the set that is combined so far begins, where the set that is joined so far, and where the sets end
abbrev pub combined_at : ℕ
combined_at = 57600

abbrev pub joined_at : ℕ
joined_at = 58560

abbrev pub sets_size : ℕ
sets_size = 59520

-- The answer says whether node k is timed.
pub record TimedAt (answer : Bool) (bytes : List ℕ) (k : ℕ) : Type 0 where
  pub says : (f : Formula) → Stored bytes f k → answer ≡ timed f

-- ---- the set of a node

-- What is asked before node k of n gets a set of its own.
pub record OwnReady (n k : ℕ) (sets : List ℕ) : Type 0 where
  pub few : n ≤ 60
  pub node : k < n
  pub sets_room : sets_size ≤ length sets

-- The set is that of node k, and no other bytes have changed.
pub record OwnSet (out : SetAt) (k : ℕ) (sets after : List ℕ) : Type 0 where
  pub place : out.at ≡ set_size * k
  pub most : out.count ≤ 1
  pub beside : Beside sets (set_size * k) set_size after

-- In the set of node k nothing is pending in the one alternative, if the test holds; else it has none.
pub record Tested (out : SetAt) (test : Bool) (n k : ℕ) (sets after : List ℕ) : Type 0 where
  pub own : OwnSet out k sets after
  pub says : (fs : List Formula) → length fs ≡ n → answered after n out.at out.count ≡ if_so test (nothing_pending fs)

-- In the set of node k one node alone is pending, with r ticks.
pub record Alone (out : SetAt) (n k part : ℕ) (r : Tick) (sets after : List ℕ) : Type 0 where
  pub own : OwnSet out k sets after
  pub says : (fs : List Formula) → length fs ≡ n → answered after n out.at out.count ≡ alone_pending fs part r

-- What is looked at of node k with r ticks left. What has a part to be looked at has it: its code says so.
pub record Looked (look : Look) (bytes : List ℕ) (k : ℕ) (r : Tick) (mask : ℕ) (d : Tick) : Type 0 where
  pub second : has_part look ≡ true → 3 < code_of bytes k
  pub first : has_first look ≡ true → 6 < code_of bytes k → code_of bytes k ≡ 12
  pub both : look ≡ Seen.Both → code_of bytes k < 7
  pub says : (f : Formula) → Stored bytes f k → (fs : List Formula) → (at : MarkedState mask)
      → alternatives_of at.tower fs at.state d f k r ≡ looked_at look at.tower fs at.state d f k r

-- Only the bytes from place `low` to place `high` have changed.
pub record ChangedIn (area : List ℕ) (low high : ℕ) (after : List ℕ) : Type 0 where
  pub size : length after ≡ length area
  pub before : take low after ≡ take low area
  pub behind : drop high after ≡ drop high area

-- Node k is a formula whose nodes have the numbers from `low` on.
pub record Rooted (bytes : List ℕ) (low k : ℕ) : Type 0 where
  pub formula : Formula
  pub stored : Stored bytes formula k
  pub numbers : low + size formula ≤ k + 1

-- Node k becomes pending with r ticks in the alternative at this place.
pub record PutIn (bytes : List ℕ) (k : ℕ) (r : Tick) (at : ℕ) (sets after : List ℕ) : Type 0 where
  pub beside : Beside sets at (k + 1) after
  pub says : (f : Formula) → Stored bytes f k → (n : ℕ) → k < n → alternative_in after n at ≡ put f k r (alternative_in sets n at)

-- What is asked before node k takes the set of its part, which ends below its own.
pub record StayReady (bytes : List ℕ) (n k : ℕ) (r : Tick) (one : SetAt) (sets room : List ℕ) : Type 0 where
  pub nodes : HasNodes bytes n
  pub few : n ≤ 60
  pub node : k < n
  pub left : r.0 ≤ 254
  pub rooted : Rooted bytes 0 k
  pub below : one.at + set_size ≤ set_size * k
  pub sets_room : sets_size ≤ length sets
  pub candidates_room : candidates_size ≤ length room

-- The set of its part with node k, if it stays pending. Only the sets from that of the part to that of node k have changed, and candidates.
pub record Stayed (out : SetAt) (bytes : List ℕ) (n k : ℕ) (r d : Tick) (one : SetAt) (sets room after after_room : List ℕ) : Type 0 where
  pub most : one.count ≤ 17 → out.count ≤ 17
  pub low : one.at ≤ out.at
  pub high : out.at + set_size ≤ set_size * (k + 1)
  pub changed : ChangedIn sets one.at (set_size * (k + 1)) after
  pub candidates : Candidates room 0 after_room
  pub says : (f : Formula) → Stored bytes f k → (fs : List Formula) → AreNodes bytes n fs
      → answered after n out.at out.count ≡ staying fs d f k r (answered sets n one.at one.count)

-- The same for two parts.
pub record TwoReady (bytes : List ℕ) (n k : ℕ) (one two : SetAt) (sets room : List ℕ) : Type 0 where
  pub nodes : HasNodes bytes n
  pub few : n ≤ 60
  pub node : k < n
  pub first : one.at + set_size ≤ set_size * k
  pub second : two.at + set_size ≤ set_size * k
  pub sets_room : sets_size ≤ length sets
  pub candidates_room : candidates_size ≤ length room

-- The sets of its two sides as that of node k, where the first has nothing to drop. Only that of node k has changed, and candidates.
pub record OfTwo (out : SetAt) (bytes : List ℕ) (n k : ℕ) (one two : SetAt) (sets room after after_room : List ℕ) : Type 0 where
  pub place : out.at ≡ set_size * k
  pub leaves : Leaves out.count sets (set_size * k) room after after_room
  pub says : (f : Formula) → Stored bytes f k → (fs : List Formula) → AreNodes bytes n fs
      → NothingToDrop fs (answered sets n one.at one.count)
      → answered after n out.at out.count
      ≡ of_two fs f (answered sets n one.at one.count) (answered sets n two.at two.count)

-- What is asked before node k with r ticks is looked at.
pub record OfferReady (bytes : List ℕ) (n k : ℕ) (r : Tick) (sets room : List ℕ) : Type 0 where
  pub nodes : HasNodes bytes n
  pub few : n ≤ 60
  pub node : k < n
  pub left : r.0 ≤ 254
  pub rooted : Rooted bytes 0 k
  pub sets_room : sets_size ≤ length sets
  pub candidates_room : candidates_size ≤ length room

-- the formula is itself a `|` with two timed sides
unfoldable pub two_sided : Formula → Bool
two_sided (constant b) = false
two_sided (proposition w k) = false
two_sided (and f g) = false
two_sided (or f g) = timed f && timed g
two_sided (next c t g) = false
two_sided (always_for t g) = false
two_sided (until t f g) = false

-- The answer says whether node k is a `|` with two timed sides.
pub record TwoSidedAt (answer : Bool) (bytes : List ℕ) (k : ℕ) : Type 0 where
  pub says : (f : Formula) → Stored bytes f k → answer ≡ two_sided f

-- Where the answer is yes, no `|` in node k has two timed sides.
pub record OneSidedAt (answer : Bool) (bytes : List ℕ) (k : ℕ) : Type 0 where
  pub says : answer ≡ true → (f : Formula) → Stored bytes f k → one_sided f ≡ true

-- Where the answer is no, no `|` of the book has two timed sides.
pub record TwoTimed (answer : Bool) (bytes : List ℕ) : Type 0 where
  pub says : answer ≡ false → (book : Book) → HeldBook bytes book → OneSided book

-- What looking at node k leaves: its set lies among those of the formula's own nodes, and only those have changed, and candidates.
pub record OfferLeaves (out : SetAt) (bytes : List ℕ) (k : ℕ) (sets room after after_room : List ℕ) : Type 0 where
  pub most : out.count ≤ 17
  pub high : out.at + set_size ≤ set_size * (k + 1)
  pub low : (low : ℕ) → Rooted bytes low k → set_size * low ≤ out.at
  pub changed : (low : ℕ) → Rooted bytes low k → ChangedIn sets (set_size * low) (set_size * (k + 1)) after
  pub candidates : Candidates room 0 after_room

-- The set is what comes of node k with r ticks left, as a state with these marks is left by a step of length d.
pub record Offered (out : SetAt) (bytes : List ℕ) (n k : ℕ) (r : Tick) (mask : ℕ) (d : Tick) (sets room after after_room : List ℕ) : Type 0 where
  pub leaves : OfferLeaves out bytes k sets room after after_room
  pub says : (f : Formula) → Stored bytes f k → (fs : List Formula) → AreNodes bytes n fs → (at : MarkedState mask)
      → answered after n out.at out.count ≡ alternatives_of at.tower fs at.state d f k r

-- What is asked before node k progresses in one alternative: no `|` in it has two timed sides.
pub record InPlaceReady (bytes : List ℕ) (n k : ℕ) (r : Tick) (sets : List ℕ) : Type 0 where
  pub nodes : HasNodes bytes n
  pub few : n ≤ 60
  pub node : k < n
  pub left : r.0 ≤ 254
  pub rooted : Rooted bytes 0 k
  pub sided : OneSidedAt true bytes k
  pub sets_room : sets_size ≤ length sets

-- The own set of node k is the one alternative that comes of it, or none.
pub record OfferedOne (out : SetAt) (bytes : List ℕ) (n k : ℕ) (r : Tick) (mask : ℕ) (d : Tick) (sets after : List ℕ) : Type 0 where
  pub own : OwnSet out k sets after
  pub says : (f : Formula) → Stored bytes f k → (fs : List Formula) → AreNodes bytes n fs → (at : MarkedState mask)
      → answered after n out.at out.count ≡ alternatives_of at.tower fs at.state d f k r

-- ---- a step

-- What is combined so far stays as it is where nothing more comes.
pub record CombinedStands (bytes : List ℕ) (n mask count : ℕ) (sets : List ℕ) : Type 0 where
  pub says : (fs : List Formula) → AreNodes bytes n fs → MarkedState mask
      → combined fs (answered sets n combined_at count) (nothing_pending fs) ≡ answered sets n combined_at count

-- What is asked before something is combined with what stands so far.
pub record StepReady (bytes : List ℕ) (n mask count : ℕ) (sets room : List ℕ) : Type 0 where
  pub nodes : HasNodes bytes n
  pub few : n ≤ 60
  pub most : count ≤ 17
  pub stands : CombinedStands bytes n mask count sets
  pub rooted : (k : ℕ) → k < n → Rooted bytes 0 k
  pub sets_room : sets_size ≤ length sets
  pub candidates_room : candidates_size ≤ length room

-- The same of node k with r ticks.
pub record CombineReady (bytes : List ℕ) (n k : ℕ) (r : Tick) (mask count : ℕ) (sets room : List ℕ) : Type 0 where
  pub offer : OfferReady bytes n k r sets room
  pub most : count ≤ 17
  pub stands : CombinedStands bytes n mask count sets

-- What combining leaves: the set that is joined so far stays.
pub record StepLeaves (r : ℕ) (sets room after after_room : List ℕ) : Type 0 where
  pub most : r ≤ 17
  pub changed : ChangedIn sets 0 joined_at after
  pub candidates : Candidates room 0 after_room

-- The set of node k with r ticks left is combined with what stands so far.
pub record NodeCombined (out : ℕ) (bytes : List ℕ) (n k : ℕ) (r : Tick) (mask : ℕ) (d : Tick) (count : ℕ) (sets room after after_room : List ℕ) : Type 0 where
  pub leaves : StepLeaves out sets room after after_room
  pub says : (f : Formula) → Stored bytes f k → (fs : List Formula) → AreNodes bytes n fs → (at : MarkedState mask)
      → answered after n combined_at out
      ≡ combined fs (answered sets n combined_at count) (alternatives_of at.tower fs at.state d f k r)

-- The set of node k with r ticks left is combined with the one alternative that stands so far.
pub record CombinedInPlace (out : ℕ) (bytes : List ℕ) (n k : ℕ) (r : Tick) (mask : ℕ) (d : Tick) (sets after : List ℕ) : Type 0 where
  pub most : out ≤ 1
  pub beside : Beside sets combined_at n after
  pub says : (f : Formula) → Stored bytes f k → (fs : List Formula) → AreNodes bytes n fs → (at : MarkedState mask)
      → answered after n combined_at out
      ≡ combined fs (answered sets n combined_at 1) (alternatives_of at.tower fs at.state d f k r)

-- a node by its cell: it is combined with what stands so far if it is pending
unfoldable pub combined_cell : Tower → List Formula → ℕ → Tick → Formula → ℕ → Option Tick → Alternatives → Alternatives
combined_cell tower fs x d f k None s = s
combined_cell tower fs x d f k (Some r) s = combined fs s (alternatives_of tower fs x d f k r)

-- Node k is combined with what stands so far if its cell says that it is pending.
pub record CellCombined (out : ℕ) (bytes : List ℕ) (n k cell mask : ℕ) (d : Tick) (count : ℕ) (sets room after after_room : List ℕ) : Type 0 where
  pub leaves : StepLeaves out sets room after after_room
  pub stands : CombinedStands bytes n mask out after
  pub says : (f : Formula) → Stored bytes f k → (fs : List Formula) → AreNodes bytes n fs → (at : MarkedState mask)
      → answered after n combined_at out
      ≡ combined_cell at.tower fs at.state d f k (cell_of cell) (answered sets n combined_at count)

-- Every pending node of the alternative at `from` of another area is combined with what stands so far.
pub record NodesCombined (r : ℕ) (bytes : List ℕ) (n mask : ℕ) (d : Tick) (old : List ℕ) (from count : ℕ) (sets room after after_room : List ℕ) : Type 0 where
  pub leaves : StepLeaves r sets room after after_room
  pub stands : CombinedStands bytes n mask r after
  pub says : (fs : List Formula) → AreNodes bytes n fs → (at : MarkedState mask)
      → answered after n combined_at r
      ≡ combined_nodes at.tower fs at.state d fs 0 (alternative_in old n from) (answered sets n combined_at count)

-- Line i is combined with what stands so far if it is an `always` line.
pub record LineCombined (r : ℕ) (bytes : List ℕ) (n i mask : ℕ) (d : Tick) (count : ℕ) (sets room after after_room : List ℕ) : Type 0 where
  pub leaves : StepLeaves r sets room after after_room
  pub stands : CombinedStands bytes n mask r after
  pub says : (rule : Rule) (first : ℕ) → LineIs bytes i rule first → (fs : List Formula) → AreNodes bytes n fs → (at : MarkedState mask)
      → answered after n combined_at r
      ≡ combined_rule at.tower fs at.state d rule.form rule.formula (root first rule.formula) (answered sets n combined_at count)

-- Every line in turn.
pub record LinesCombined (r : ℕ) (bytes : List ℕ) (n mask : ℕ) (d : Tick) (count : ℕ) (sets room after after_room : List ℕ) : Type 0 where
  pub leaves : StepLeaves r sets room after after_room
  pub says : (book : Book) → HeldBook bytes book → (fs : List Formula) → AreNodes bytes n fs → (at : MarkedState mask)
      → answered after n combined_at r ≡ combined_rules at.tower fs at.state d book 0 (answered sets n combined_at count)

-- Nothing is pending in the one alternative of the set that is combined so far.
pub record NoneCombined (n : ℕ) (sets after : List ℕ) : Type 0 where
  pub beside : Beside sets combined_at set_size after
  pub says : (fs : List Formula) → length fs ≡ n → answered after n combined_at 1 ≡ nothing_pending fs

-- What is asked before an old alternative is looked at.
pub record AlternativeReady (bytes : List ℕ) (n : ℕ) (old : List ℕ) (from : ℕ) (sets room : List ℕ) : Type 0 where
  pub held : IsHeld bytes
  pub all : n ≡ nodes_in bytes
  pub old_room : from + n ≤ length old
  pub sets_room : sets_size ≤ length sets
  pub candidates_room : candidates_size ≤ length room

-- What comes of one old alternative.
pub record Behind (r : ℕ) (bytes : List ℕ) (n mask : ℕ) (d : Tick) (old : List ℕ) (from : ℕ) (sets room after after_room : List ℕ) : Type 0 where
  pub leaves : StepLeaves r sets room after after_room
  pub says : (book : Book) → HeldBook bytes book → (at : MarkedState mask)
      → answered after n combined_at r ≡ alternatives_behind at.tower book at.state d (alternative_in old n from)

-- What is joined so far has nothing to drop.
pub record JoinedStands (bytes : List ℕ) (n mask count : ℕ) (sets : List ℕ) : Type 0 where
  pub says : (book : Book) → HeldBook bytes book → MarkedState mask → NothingToDrop (nodes book) (answered sets n joined_at count)

-- The set that is joined so far is the one that was combined.
pub record CombinedCopied (next : ℕ) (sets after : List ℕ) : Type 0 where
  pub size : length after ≡ length sets
  pub says : (n : ℕ) → n ≤ 60 → answered after n joined_at next ≡ answered sets n combined_at next

-- It is joined with what stands so far.
pub record BehindJoined (r : ℕ) (bytes : List ℕ) (n mask : ℕ) (d : Tick) (old : List ℕ) (from count : ℕ) (sets room after after_room : List ℕ) : Type 0 where
  pub most : r ≤ 17
  pub size : length after ≡ length sets
  pub candidates : Candidates room 0 after_room
  pub stands : JoinedStands bytes n mask r after
  pub says : (book : Book) → HeldBook bytes book → (at : MarkedState mask)
      → answered after n joined_at r
      ≡ joined_with (nodes book) (answered sets n joined_at count) (alternatives_behind at.tower book at.state d (alternative_in old n from))

-- A state with these marks is left by a step of length d: what comes of the old alternatives, those from place `from` on in another area. Of the
-- room only candidates have changed.
pub record Progressed (r : ℕ) (bytes : List ℕ) (mask : ℕ) (d : Tick) (old : List ℕ) (from count : ℕ) (room after after_room : List ℕ) : Type 0 where
  pub most : r ≤ 17
  pub candidates : Candidates room 0 after_room
  pub says : (book : Book) → HeldBook bytes book → (at : MarkedState mask)
      → answered after (nodes_in bytes) joined_at r
      ≡ progressed_set at.tower book at.state d (set_in old (nodes_in bytes) from count)
