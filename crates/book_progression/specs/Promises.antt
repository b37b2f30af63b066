-- What the functions of this crate promise. Each promise is for every formula that the bytes hold, and for every state with the given marks.
use Rattle.std.specs.Prelude.{ℕ, ◌+◌, ◌*◌, ◌≤◌, ◌<◌, ◌≡◌, Bool, true, false, ◌⊎◌, List, length, get_or, take, drop}
use Rattle.std.specs.Prelude.{Option, None, Some}
use Rattle.base.specs.Choice.{pick}
use Rattle.base.specs.Bytes.{byte_at}
use Rattle.logic.specs.Time.{at_most, minus}
use Rattle.logic.specs.Tower.{Tower}
use Rattle.logic.specs.Book.{Formula, constant, Comparison, compares, root, Rule, Book}
use Rattle.logic.specs.declared.Tick.{Tick}
use Rattle.pending.specs.Pending.{Pending, holds, coming, put, progress, progress_nodes, progress_rule, progress_rules, none_pending, progressed, begin_rule, begin_rules, first_pending}
use Rattle.reading.specs.BookArea.{lines_at, line_size, nodes_in, comparison_code, form_code}
use Rattle.book_progression.specs.declared.Nested.{Nested}
use Rattle.book_progression.specs.PendingBytes.{cell_of, pending_of, part, outcome}
use Rattle.book_progression.specs.NodeBytes.{code_of, first_of, form_of, formula_of, Stored, IsNode, HeldBook, MarkedState}

-- The answer says whether node k holds at a state with these marks.
pub record HoldsAt (answer : Bool) (bytes : List ℕ) (k mask : ℕ) : Type 0 where
  pub says : (f : Formula) → Stored bytes f k → (at : MarkedState mask) → answer ≡ holds at.tower at.state f

-- The ticks are those that node k has, where it comes up with r and its cell is this.
pub record Merged (result : Tick) (bytes : List ℕ) (k : ℕ) (r : Tick) (cell : ℕ) : Type 0 where
  pub says : (f : Formula) → Stored bytes f k → result ≡ coming f r (cell_of cell)
  pub small : result.0 ≤ 254

-- The answer is the comparison that has this code.
pub record Compares (answer : Bool) (code : ℕ) (d t : Tick) : Type 0 where
  pub says : (c : Comparison) → code ≡ comparison_code c → answer ≡ compares c d t

-- Node k is put among the cells with r ticks.
pub record PutsNode (bytes : List ℕ) (k : ℕ) (r : Tick) (cells after : List ℕ) : Type 0 where
  pub says : (f : Formula) → Stored bytes f k → pending_of after ≡ put f k r (pending_of cells)

-- Node k stays among the cells with r - d ticks if d is at most r.
pub record Stays (bytes : List ℕ) (k : ℕ) (r d : Tick) (cells after : List ℕ) : Type 0 where
  pub says : (f : Formula) → Stored bytes f k
      → pending_of after ≡ pick (at_most d r) (λ _. put f k (minus r d) (pending_of cells)) (λ _. pending_of cells)

-- What is asked before node k with r ticks is put among the cells or progresses.
pub record NodeReady (bytes : List ℕ) (k : ℕ) (r : Tick) (cells : List ℕ) : Type 0 where
  pub node : IsNode bytes k
  pub cell : k < length cells
  pub left : r.0 ≤ 254

-- What is asked of a next before it progresses.
pub record NextReady (bytes : List ℕ) (k : ℕ) (cells : List ℕ) : Type 0 where
  pub node : IsNode bytes k
  pub cell : k < length cells
  pub low : 6 < code_of bytes k
  pub high : code_of bytes k < 11

-- A next progresses, whatever its ticks and the state.
pub record Nexts (answer : Bool) (bytes : List ℕ) (k : ℕ) (d : Tick) (cells after : List ℕ) : Type 0 where
  pub says : (f : Formula) → Stored bytes f k → (tower : Tower) (x : ℕ) (r : Tick)
      → progress tower x d f k r (pending_of cells) ≡ outcome answer after

-- Node k with r ticks left progresses, as a state with these marks is left by a step of length d.
pub record Progresses (answer : Bool) (bytes : List ℕ) (k : ℕ) (r : Tick) (mask : ℕ) (d : Tick) (cells after : List ℕ) : Type 0 where
  pub says : (f : Formula) → Stored bytes f k → (at : MarkedState mask)
      → progress at.tower at.state d f k r (pending_of cells) ≡ outcome answer after

-- Where node k with r ticks is an A, it stays among the cells, and so does each A that is the part of the one before, down to a node that is no A:
-- what that node leaves as it progresses is what node k leaves.
pub record StaysNested (n : Nested) (bytes : List ℕ) (k : ℕ) (r d : Tick) (cells after : List ℕ) : Type 0 where
  pub low : n.node ≤ k
  pub ready : NodeReady bytes n.node n.left after
  pub other : code_of bytes n.node ≡ 11 → ⊥
  pub says : (answer : Bool) (mask : ℕ) (last : List ℕ) → Progresses answer bytes n.node n.left mask d after last
      → Progresses answer bytes k r mask d cells last

-- Where the answer is yes, node k is an or whose first side is untimed, and that side holds.
pub record Passes (answer : Bool) (bytes : List ℕ) (k mask : ℕ) : Type 0 where
  pub code : answer ≡ true → code_of bytes k ≡ 6
  pub first : answer ≡ true → HoldsAt answer bytes (first_of bytes k) mask

-- ---- all nodes

-- a node by its cell: it progresses if it is pending
unfoldable pub cell_step : Tower → ℕ → Tick → Formula → ℕ → Option Tick → Pending → Option Pending
cell_step tower x d f k None p = Some p
cell_step tower x d f k (Some r) p = progress tower x d f k r p

-- Node k progresses if its cell says that it is pending.
pub record CellSteps (answer : Bool) (bytes : List ℕ) (k cell mask : ℕ) (d : Tick) (cells after : List ℕ) : Type 0 where
  pub says : (f : Formula) → Stored bytes f k → (at : MarkedState mask)
      → cell_step at.tower at.state d f k (cell_of cell) (pending_of cells) ≡ outcome answer after

-- The formulas are the nodes that the bytes hold.
pub record AreNodes (bytes : List ℕ) (count : ℕ) (fs : List Formula) : Type 0 where
  pub all : length fs ≡ count
  pub stored : (k : ℕ) → k < count → Stored bytes (get_or fs k (constant false)) k

-- The bytes hold so many nodes.
pub record HasNodes (bytes : List ℕ) (count : ℕ) : Type 0 where
  pub nodes : (k : ℕ) → k < count → IsNode bytes k

-- Two parts of an area of this size, of n bytes each, that do not meet.
pub record Parts (size n from to : ℕ) : Type 0 where
  pub from_fits : from + n ≤ size
  pub to_fits : to + n ≤ size
  pub apart : (from + n ≤ to) ⊎ (to + n ≤ from)

-- Only the n bytes from `to` on have changed.
pub record Beside (area : List ℕ) (to n : ℕ) (after : List ℕ) : Type 0 where
  pub size : length after ≡ length area
  pub before : take to after ≡ take to area
  pub behind : drop (to + n) after ≡ drop (to + n) area

-- The cells from number k to r are empty, in the part that starts at `from`.
pub record EmptyTo (area : List ℕ) (from count k r : ℕ) : Type 0 where
  pub least : k ≤ r
  pub most : r ≤ count
  pub empty : (j : ℕ) → k ≤ j → j < r → byte_at area (from + j) ≡ 0

-- Every pending node of one part progresses into the other.
pub record NodesProgress (answer : Bool) (bytes : List ℕ) (count mask : ℕ) (d : Tick) (area : List ℕ) (from to : ℕ) (after : List ℕ) : Type 0 where
  pub beside : Beside area to count after
  pub says : (fs : List Formula) → AreNodes bytes count fs → (at : MarkedState mask)
      → progress_nodes at.tower at.state d fs 0 (pending_of (part area from count)) (pending_of (part area to count))
      ≡ outcome answer (part after to count)

-- ---- all lines

-- Line i is this rule, and its nodes begin with number n.
pub record LineIs (bytes : List ℕ) (i : ℕ) (rule : Rule) (n : ℕ) : Type 0 where
  pub room : lines_at + line_size * i + 1 < length bytes
  pub form : form_of bytes i ≡ form_code rule.form
  pub place : formula_of bytes i ≡ root n rule.formula
  pub low : root n rule.formula < nodes_in bytes
  pub stored : Stored bytes rule.formula (root n rule.formula)

-- Line i is some rule.
pub record IsLine (bytes : List ℕ) (i : ℕ) : Type 0 where
  pub rule : Rule
  pub first : ℕ
  pub room : lines_at + line_size * i + 1 < length bytes
  pub is : LineIs bytes i rule first

-- Line i progresses if it is an `always` line.
pub record LineSteps (answer : Bool) (bytes : List ℕ) (i mask : ℕ) (d : Tick) (cells after : List ℕ) : Type 0 where
  pub says : (rule : Rule) (n : ℕ) → LineIs bytes i rule n → (at : MarkedState mask)
      → progress_rule at.tower at.state d rule.form rule.formula (root n rule.formula) (pending_of cells) ≡ outcome answer after

-- Every line progresses in turn.
pub record LinesProgress (answer : Bool) (bytes : List ℕ) (mask : ℕ) (d : Tick) (cells after : List ℕ) : Type 0 where
  pub says : (book : Book) → HeldBook bytes book → (at : MarkedState mask)
      → progress_rules at.tower at.state d book 0 (pending_of cells) ≡ outcome answer after

-- Line i begins: it is pending if it is a `start` line.
pub record LineBegins (bytes : List ℕ) (i : ℕ) (cells after : List ℕ) : Type 0 where
  pub says : (rule : Rule) (n : ℕ) → LineIs bytes i rule n
      → pending_of after ≡ begin_rule rule.form rule.formula (root n rule.formula) (pending_of cells)

-- Every line begins in turn.
pub record LinesBegin (bytes cells after : List ℕ) : Type 0 where
  pub says : (book : Book) → HeldBook bytes book → pending_of after ≡ begin_rules book 0 (pending_of cells)

-- ---- the whole step

-- Nothing is pending in the part. Every other byte of the area stays.
pub record Emptied (bytes area : List ℕ) (to : ℕ) (after : List ℕ) : Type 0 where
  pub beside : Beside area to (nodes_in bytes) after
  pub says : (book : Book) → HeldBook bytes book → pending_of (part after to (nodes_in bytes)) ≡ none_pending book

-- A state with these marks is left by a step of length d: what is pending in one part progresses into the other. Every other byte of the
-- area stays. Where the answer is false nothing is said of the part that is written.
pub record Progressed (answer : Bool) (bytes : List ℕ) (mask : ℕ) (d : Tick) (area : List ℕ) (from to : ℕ) (after : List ℕ) : Type 0 where
  pub beside : Beside area to (nodes_in bytes) after
  pub says : (book : Book) → HeldBook bytes book → (at : MarkedState mask)
      → progressed at.tower book at.state d (pending_of (part area from (nodes_in bytes))) ≡ outcome answer (part after to (nodes_in bytes))

-- The run begins.
pub record PendingBegun (bytes area : List ℕ) (to : ℕ) (after : List ℕ) : Type 0 where
  pub beside : Beside area to (nodes_in bytes) after
  pub says : (book : Book) → HeldBook bytes book → pending_of (part after to (nodes_in bytes)) ≡ first_pending book
