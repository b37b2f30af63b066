-- All pending nodes progress, and then all lines: the ways through `progress_cell`, `progress_nodes`, `progressed` and `begin`.
use Prim.Native.Nat.{ℕ, zero, suc, ◌+◌, ◌-◌, ◌≤◌, ◌<◌}
use native.Mathlib.Decide.{dec_lt}
use native.Mathlib.Omega.{arith}
use native.Mathlib.Numerals.{add-one}
use mathlib.Core.Path.{◌≡◌, refl, sym, ◌∙◌, ap}
use mathlib.Core.Bool.{Bool, true, false, not}
use Rattle.std.specs.Prelude.{Option, None, Some}
use Rattle.base.specs.Options.{bind}
use mathlib.Core.List.{List, ◌∷◌}
use lib.ListN.{length, get_or, take, drop, replicate, length-replicate, drop_of_length-le}
use lib.Seq.{drop-cons}
use borrow.Author.Tests.{not-true, not-false}
use borrow.Rule.Slice.PartMut.{put_mid}
use Rattle.base.specs.Bytes.{number_at}
use Rattle.area_bytes.proofs.Numbers.{zero_bytes}
use Rattle.logic.specs.Tower.{Tower}
use Rattle.logic.specs.Book.{Formula, constant, nodes, Book}
use Rattle.logic.specs.declared.Tick.{Tick}
use Rattle.pending.specs.Pending.{Pending, progress_nodes, none_pending, progressed, first_pending}
use Rattle.reading.specs.BookArea.{nodes_in}
use Rattle.book_progression.specs.PendingBytes.{cell_of, pending_of, part, outcome}
use Rattle.book_progression.specs.NodeBytes.{IsNode, HeldBook, MarkedState}
use Rattle.book_progression.specs.Promises.{NodeReady, Progresses, cell_step, CellSteps, AreNodes, HasNodes, Parts, EmptyTo, Beside, NodesProgress, LinesProgress, LinesBegin, Emptied, Progressed, PendingBegun}
use Rattle.book_progression.proofs.Cells.{cell_low, pending_at, pending_length, pending_none}
use Rattle.book_progression.proofs.Areas.{lent, lent_length, part_length, part_at, part_back, beside_back, beside_none, beside_both, apart_at, apart_part}
use Rattle.book_progression.proofs.BookHeld.{held_nodes}

-- ---- one cell

module _ (bytes : List ℕ) (k cell mask : ℕ) (d : Tick) (cells : List ℕ) where
  pub cell_none : None ≡ cell_of cell → CellSteps true bytes k cell mask d cells cells
  unfolding cell_step outcome
  cell_none e = record { says = λ f s at. rw (← e) }

  pub cell_progresses : (r : Tick) (b : Bool) (after : List ℕ) → Some r ≡ cell_of cell → Progresses b bytes k r mask d cells after
      → CellSteps b bytes k cell mask d cells after
  unfolding cell_step
  cell_progresses r b after there call = record { says = λ f s at. rw (← there) (call.says f s at) }

pub cell_ready : (bytes : List ℕ) (k cell : ℕ) (r : Tick) (cells : List ℕ) → Some r ≡ cell_of cell → cell < 256 → IsNode bytes k → k < length cells
    → NodeReady bytes k r cells
cell_ready bytes k cell r cells there byte node low = record { node = node; cell = low; left = cell_low cell r there byte }

-- ---- all nodes

-- a node and its cell, and those behind them
nodes_cons : (tower : Tower) (x : ℕ) (d : Tick) (f : Formula) (fs : List Formula) (k : ℕ) (o : Option Tick) (cells p : Pending)
    → progress_nodes tower x d (f ∷ fs) k (o ∷ cells) p ≡ bind (cell_step tower x d f k o p) (λ q. progress_nodes tower x d fs (suc k) cells q)
unfolding progress_nodes cell_step bind
nodes_cons tower x d f fs k None cells p = refl
nodes_cons tower x d f fs k (Some r) cells p = refl

-- How far the nodes have progressed: those from number k on are left to do.
pub record NodesGoing (bytes : List ℕ) (count mask : ℕ) (d : Tick) (first : List ℕ) (from to : ℕ) (area : List ℕ) (k : ℕ) : Type 0 where
  pub low : k ≤ count
  pub size : length area ≡ length first
  pub beside : Beside first to count area
  pub left : (fs : List Formula) → AreNodes bytes count fs → (at : MarkedState mask)
      → progress_nodes at.tower at.state d fs 0 (pending_of (part first from count)) (pending_of (part first to count))
      ≡ progress_nodes at.tower at.state d (drop k fs) k (drop k (pending_of (part first from count))) (pending_of (part area to count))

pub nodes_first : (bytes : List ℕ) (count mask : ℕ) (d : Tick) (area : List ℕ) (from to : ℕ) → NodesGoing bytes count mask d area from to area 0
nodes_first bytes count mask d area from to =
    record { low = omega arith; size = refl; beside = beside_none area to count; left = λ fs are at. refl }

module _ (bytes : List ℕ) (count mask : ℕ) (d : Tick) (first : List ℕ) (from to : ℕ) (area : List ℕ) (k : ℕ)
    (going : NodesGoing bytes count mask d first from to area k) where
  pub nodes_end : count ≤ k → NodesProgress true bytes count mask d first from to area
  unfolding progress_nodes outcome
  nodes_end over =
      record {
        beside = going.beside;
        says = λ fs are at.
            let done : length fs ≤ k = omega (arith, are.all) in
            going.left fs are at ∙ rw (drop_of_length-le fs done);
      }

  module _ (parts : Parts (length first) count from to) (low : k < count) where
    -- the cell is the one of the part that is read
    cell : cell_of (get_or area (from + k) 0) ≡ get_or (pending_of (part first from count)) k None
    cell =
        ap cell_of (apart_at first from to count area parts going.beside k low ∙ sym (part_at first from count k low))
        ∙ sym (pending_at (part first from count) k)

    -- node k, and then those behind it
    unrolled : (fs : List Formula) → AreNodes bytes count fs → (at : MarkedState mask)
        → progress_nodes at.tower at.state d fs 0 (pending_of (part first from count)) (pending_of (part first to count))
        ≡ bind (cell_step at.tower at.state d (get_or fs k (constant false)) k (cell_of (get_or area (from + k) 0)) (pending_of (part area to count)))
        (λ q. progress_nodes at.tower at.state d (drop (k + 1) fs) (k + 1) (drop (k + 1) (pending_of (part first from count))) q)
    unrolled fs are at =
        let many : k < length fs = omega (arith, are.all) in
        let more : k < length (pending_of (part first from count)) =
        omega (arith, pending_length (part first from count), part_length first from count parts.from_fits) in
        going.left fs are at
        ∙ ap (λ l. progress_nodes at.tower at.state d l k (drop k (pending_of (part first from count))) (pending_of (part area to count)))
        (drop-cons fs k (constant false) many)
        ∙ ap (λ l. progress_nodes at.tower at.state d (get_or fs k (constant false) ∷ drop (suc k) fs) k l (pending_of (part area to count)))
        (drop-cons (pending_of (part first from count)) k None more)
        ∙ nodes_cons at.tower at.state d (get_or fs k (constant false)) (drop (suc k) fs) k (get_or (pending_of (part first from count)) k None)
        (drop (suc k) (pending_of (part first from count))) (pending_of (part area to count))
        ∙ rw (cell, add-one)

    -- An empty cell is passed over.
    pub nodes_over : get_or area (from + k) 0 ≡ 0 → NodesGoing bytes count mask d first from to area (k + 1)
    unfolding cell_of cell_step bind
    nodes_over empty =
        record { low = omega arith; size = going.size; beside = going.beside; left = λ fs are at. unrolled fs are at ∙ rw empty }

  module _ (parts : Parts (length first) count from to) (low : k < count) (b : Bool) (z : List ℕ)
      (size : length z ≡ length (take (to + count - to) (drop to area)))
      (step : CellSteps b bytes k (get_or area (from + k) 0) mask d (take (to + count - to) (drop to area)) z) where
    fits : to + count ≤ length area
    fits = omega (arith, parts.to_fits, going.size)

    whole : length z ≡ count
    whole = size ∙ lent_length area to count fits

    back : Beside first to count (put_mid to (to + count - to) area z)
    back = beside_both first to count area (put_mid to (to + count - to) area z) going.beside (beside_back area to count z fits whole)

    stepped : (fs : List Formula) → AreNodes bytes count fs → (at : MarkedState mask)
        → progress_nodes at.tower at.state d fs 0 (pending_of (part first from count)) (pending_of (part first to count))
        ≡ bind (outcome b z) (λ q. progress_nodes at.tower at.state d (drop (k + 1) fs) (k + 1) (drop (k + 1) (pending_of (part first from count))) q)
    stepped fs are at =
        unrolled parts low fs are at
        ∙ ap (λ o. bind o (λ q. progress_nodes at.tower at.state d (drop (k + 1) fs) (k + 1) (drop (k + 1) (pending_of (part first from count))) q))
        (rw (← lent area to count) (step.says (get_or fs k (constant false)) (are.stored k low) at))

    pub nodes_broken : not b ≡ true → NodesProgress false bytes count mask d first from to (put_mid to (to + count - to) area z)
    unfolding outcome bind
    nodes_broken fails = record { beside = back; says = λ fs are at. stepped fs are at ∙ rw (not-true b fails) }

    nodes_next : not b ≡ false → NodesGoing bytes count mask d first from to (put_mid to (to + count - to) area z) (k + 1)
    unfolding outcome bind
    nodes_next passes =
        record {
          low = omega arith;
          size = back.size;
          beside = back;
          left = λ fs are at. stepped fs are at ∙ rw (not-false b passes, part_back area to count z fits whole);
        }

-- Empty cells are passed over.
nodes_past : (bytes : List ℕ) (count mask : ℕ) (d : Tick) (first : List ℕ) (from to : ℕ) (area : List ℕ) (k r : ℕ)
    → NodesGoing bytes count mask d first from to area k → Parts (length first) count from to → EmptyTo area from count k r
    → NodesGoing bytes count mask d first from to area r
nodes_past bytes count mask d first from to area k r going parts over =
    let all : k + (r - k) ≡ r = omega (arith, over.least) in
    rw all at (go (r - k) (omega arith))
  where
    go : (m : ℕ) → k + m ≤ r → NodesGoing bytes count mask d first from to area (k + m)
    go zero l = let here : k + 0 ≡ k = omega arith in rw here going
    go (suc m) l =
        let next : k + m + 1 ≡ k + suc m = omega arith in
        rw (← next)
        (nodes_over bytes count mask d first from to area (k + m) (go m (omega arith)) parts (omega (arith, over.most))
        (over.empty (k + m) (omega arith) (omega arith)))

-- Node k has progressed, and empty cells behind it are passed over.
pub nodes_on : (bytes : List ℕ) (count mask : ℕ) (d : Tick) (first : List ℕ) (from to : ℕ) (area : List ℕ) (k r : ℕ) (b : Bool) (z : List ℕ)
    → EmptyTo (put_mid to (to + count - to) area z) from count (k + 1) r → NodesGoing bytes count mask d first from to area k
    → Parts (length first) count from to → k < count → length z ≡ length (take (to + count - to) (drop to area))
    → CellSteps b bytes k (get_or area (from + k) 0) mask d (take (to + count - to) (drop to area)) z → not b ≡ false
    → NodesGoing bytes count mask d first from to (put_mid to (to + count - to) area z) r
nodes_on bytes count mask d first from to area k r b z over going parts low size step passes =
    nodes_past bytes count mask d first from to (put_mid to (to + count - to) area z) (k + 1) r
    (nodes_next bytes count mask d first from to area k going parts low b z size step passes) parts over

pub fewer_left : (area : List ℕ) (from count k r : ℕ) → EmptyTo area from count (k + 1) r → k < count → count - r < count - k
fewer_left area from count k r over low = omega (arith, over.least)

-- ---- empty cells

pub empty_none : (area : List ℕ) (from count k : ℕ) → k ≤ count → EmptyTo area from count k k
empty_none area from count k l = record { least = omega arith; most = l; empty = λ j m n. absurd (omega arith) }

pub empty_four : (area : List ℕ) (from count k i w : ℕ) → EmptyTo area from count k i → w ≡ number_at 4 area (from + i) → w ≡ 0
    → 4 ≤ count - i → EmptyTo area from count k (i + 4)
empty_four area from count k i w e is-w none_set l =
    record {
      least = omega (arith, e.least);
      most = omega (arith, e.most);
      empty = λ j m n. elim (dec_lt j i) [
        | yes before ↦ e.empty j m before
        | no here ↦
            let place : from + i + (j - i) ≡ from + j = omega arith in
            rw (← place) (zero_bytes 4 area (from + i) (sym is-w ∙ none_set) (j - i) (omega arith))
      ];
    }

-- what is asked of a cell that lies in a part
pub cell_inside : (area first : List ℕ) (k count from to : ℕ) → Parts (length first) count from to → length area ≡ length first → k < count
    → k < length (take (to + count - to) (drop to area))
cell_inside area first k count from to parts same low = omega (arith, lent_length area to count (omega (arith, parts.to_fits)))

pub node_there : (bytes : List ℕ) (count k : ℕ) → HasNodes bytes count → k < count → IsNode bytes k
node_there bytes count k has low = has.nodes k low

-- ---- the whole step

-- The part is cleared.
pub emptied : (bytes : List ℕ) (count : ℕ) (area : List ℕ) (to : ℕ) (zeros : List ℕ) → count ≡ nodes_in bytes
    → zeros ≡ replicate (length (take (to + count - to) (drop to area))) 0 → to + nodes_in bytes ≤ length area
    → Emptied bytes area to (put_mid to (to + count - to) area zeros)
unfolding none_pending
emptied bytes count area to zeros all cleared low =
    record {
      beside = rw (← all) (beside_back area to count zeros fits many);
      says = λ book held.
          rw (← all) (ap pending_of (part_back area to count zeros fits many ∙ are) ∙ pending_none count
          ∙ ap (λ n. replicate n None) (all ∙ held.holds.node_count));
    }
  where
    fits : to + count ≤ length area
    fits = omega arith

    are : zeros ≡ replicate count 0
    are = cleared ∙ ap (λ n. replicate n 0) (lent_length area to count fits)

    many : length zeros ≡ count
    many = ap length are ∙ length-replicate {A = ℕ} count 0

module _ (bytes : List ℕ) (count mask : ℕ) (d : Tick) (area : List ℕ) (from to : ℕ) (clean : List ℕ) (a : Bool) (mid : List ℕ)
    (all : count ≡ nodes_in bytes) (run : NodesProgress a bytes count mask d clean from to mid) (empty : Emptied bytes area to clean)
    (parts : Parts (length area) (nodes_in bytes) from to) where
  so_far : Beside area to (nodes_in bytes) mid
  so_far = beside_both area to (nodes_in bytes) clean mid empty.beside (rw (← all) run.beside)

  -- the nodes of the book, from nothing pending
  nodes_said : (book : Book) → HeldBook bytes book → (at : MarkedState mask)
      → progress_nodes at.tower at.state d (nodes book) 0 (pending_of (part area from (nodes_in bytes))) (none_pending book)
      ≡ outcome a (part mid to (nodes_in bytes))
  nodes_said book held at =
      rw (← empty.says book held, ← apart_part area from to (nodes_in bytes) clean parts empty.beside, ← all)
      (run.says (nodes book) (held_nodes bytes book held count all) at)

  pub progressed_broken : not a ≡ true → Progressed false bytes mask d area from to mid
  unfolding progressed outcome bind
  progressed_broken fails = record { beside = so_far; says = λ book held at. rw (nodes_said book held at, not-true a fails) }

  pub progressed_whole : (b : Bool) (z : List ℕ) → not a ≡ false → length z ≡ length (take (to + count - to) (drop to mid))
      → LinesProgress b bytes mask d (take (to + count - to) (drop to mid)) z
      → Progressed b bytes mask d area from to (put_mid to (to + count - to) mid z)
  unfolding progressed outcome bind
  progressed_whole b z passes size go_on =
      record {
        beside = beside_both area to (nodes_in bytes) mid (put_mid to (to + count - to) mid z) so_far (rw (← all) (beside_back mid to count z room many));
        says = λ book held at.
            rw (nodes_said book held at, not-false a passes, ← all, part_back mid to count z room many, ← lent mid to count)
            (go_on.says book held at);
      }
    where
      room : to + count ≤ length mid
      room = omega (arith, parts.to_fits, so_far.size)

      many : length z ≡ count
      many = size ∙ lent_length mid to count room

-- ---- the beginning

pub begun_whole : (bytes : List ℕ) (count : ℕ) (area : List ℕ) (to : ℕ) (clean z : List ℕ) → count ≡ nodes_in bytes
    → LinesBegin bytes (take (to + count - to) (drop to clean)) z → length z ≡ length (take (to + count - to) (drop to clean))
    → Emptied bytes area to clean → to + nodes_in bytes ≤ length area → PendingBegun bytes area to (put_mid to (to + count - to) clean z)
unfolding first_pending
begun_whole bytes count area to clean z all begins size empty low =
    record {
      beside = beside_both area to (nodes_in bytes) clean (put_mid to (to + count - to) clean z) empty.beside
          (rw (← all) (beside_back clean to count z room many));
      says = λ book held.
          rw (← empty.says book held, ← all, part_back clean to count z room many, ← lent clean to count) (begins.says book held);
    }
  where
    room : to + count ≤ length clean
    room = omega (arith, empty.beside.size)

    many : length z ≡ count
    many = size ∙ lent_length clean to count room
