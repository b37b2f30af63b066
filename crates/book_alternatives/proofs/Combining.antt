-- The sets of nodes and lines, one after the other, combined with what stands so far: the ways through `combine_node` to `combine_lines`.
use Prim.Native.Nat.{ℕ, zero, suc, ◌+◌, ◌-◌, ◌*◌, ◌≤◌, ◌<◌}
use native.Mathlib.Omega.{arith}
use native.Mathlib.Numerals.{add-one}
use mathlib.Core.Path.{◌≡◌, refl, sym, ◌∙◌, ap₂}
use mathlib.Core.Bool.{Bool, true, false}
use Rattle.std.specs.Prelude.{Option, None, Some}
use mathlib.Core.List.{List, ◌∷◌}
use lib.ListN.{length, get_or, drop, drop_of_length-le}
use lib.Seq.{drop-cons}
use Rattle.logic.specs.Time.{ticks}
use Rattle.logic.specs.Tower.{Tower}
use Rattle.logic.specs.Book.{Formula, constant, root, Book}
use Rattle.logic.specs.declared.Tick.{Tick}
use Rattle.pending.specs.Pending.{Pending, fresh}
use Rattle.reading.specs.BookArea.{nodes_in, lines_in}
use Rattle.alternatives.specs.Alternatives.{Alternatives, combined}
use Rattle.alternatives.specs.Progression.{if_so, alternatives_of, combined_nodes, combined_rule, combined_rules}
use Rattle.alternatives.proofs.Sized.{combined_stands}
use Rattle.book_progression.specs.PendingBytes.{cell_of}
use Rattle.book_progression.specs.NodeBytes.{code_of, first_of, form_of, formula_of, fresh_of, Stored, HeldBook, MarkedState}
use Rattle.book_progression.specs.Promises.{AreNodes, EmptyTo, IsLine, Passes}
use Rattle.book_progression.proofs.Cells.{cell_empty, cell_low}
use Rattle.book_progression.proofs.Nodes.{fresh_is, fresh_low}
use Rattle.book_progression.proofs.Lines.{starts, is_everywhere, line_node, book_from, before_next}
use Rattle.book_progression.proofs.BookHeld.{rule_at, nodes_before, held_line}
use Rattle.alternative_bytes.specs.AlternativeBytes.{alternative_in}
use Rattle.alternative_bytes.proofs.Laws.{alternative_length, alternative_cell}
use Rattle.set_bytes.specs.SetBytes.{answered}
use Rattle.set_bytes.specs.Promises.{Combines}
use Rattle.book_alternatives.specs.declared.SetAt.{SetAt}
use Rattle.book_alternatives.specs.declared.Look.{Look}
use Rattle.book_alternatives.specs.declared.Look.TheVariants as Seen
use Rattle.book_alternatives.specs.Looking.{looked_at}
use Rattle.book_alternatives.specs.Offers.{combined_at, joined_at, Rooted, OfferReady, Offered, Looked, CombinedStands, StepReady, CombineReady, StepLeaves, NodeCombined, combined_cell, CellCombined, NodesCombined, LineCombined, LinesCombined}
use Rattle.book_alternatives.proofs.Looking.{looks_or_first_holds}
use Rattle.book_alternatives.proofs.Sets.{changed_none, changed_both, changed_wider, changed_beside, candidates_none, candidates_both, kept_behind}

-- ---- what is left

pub leaves_none : (count : ℕ) (sets room : List ℕ) → count ≤ 17 → StepLeaves count sets room sets room
leaves_none count sets room few = record { most = few; changed = changed_none sets 0 joined_at; candidates = candidates_none room }

pub leaves_both : (one two : ℕ) (sets room mid mid_room after after_room : List ℕ) → StepLeaves one sets room mid mid_room
    → StepLeaves two mid mid_room after after_room → StepLeaves two sets room after after_room
leaves_both one two sets room mid mid_room after after_room first then =
    record {
      most = then.most;
      changed = changed_both sets 0 joined_at mid after first.changed then.changed;
      candidates = candidates_both room mid_room after_room first.candidates then.candidates;
    }

-- The areas may have changed meanwhile.
pub still_ready : (bytes : List ℕ) (n mask count : ℕ) (sets room : List ℕ) (left : ℕ) (after after_room : List ℕ)
    → StepLeaves left sets room after after_room → CombinedStands bytes n mask left after → StepReady bytes n mask count sets room
    → StepReady bytes n mask left after after_room
still_ready bytes n mask count sets room left after after_room leaves stands ready =
    record {
      nodes = ready.nodes;
      few = ready.few;
      most = leaves.most;
      stands = stands;
      rooted = ready.rooted;
      sets_room = omega (arith, ready.sets_room, leaves.changed.size);
      candidates_room = omega (arith, ready.candidates_room, leaves.candidates.size);
    }

pub combine_ready : (bytes : List ℕ) (n k : ℕ) (r : Tick) (mask count : ℕ) (sets room : List ℕ) → k < n → r.0 ≤ 254
    → StepReady bytes n mask count sets room → CombineReady bytes n k r mask count sets room
combine_ready bytes n k r mask count sets room low left ready =
    record {
      offer = record {
        nodes = ready.nodes;
        few = ready.few;
        node = low;
        left = left;
        rooted = ready.rooted k low;
        sets_room = ready.sets_room;
        candidates_room = ready.candidates_room;
      };
      most = ready.most;
      stands = ready.stands;
    }

-- ---- one node

module _ (bytes : List ℕ) (n k : ℕ) (r : Tick) (mask : ℕ) (d : Tick) (sets room : List ℕ) (one : SetAt) (mid mid_room : List ℕ)
    (offered : Offered one bytes n k r mask d sets room mid mid_room) (ready : OfferReady bytes n k r sets room) where
  pub node_combined : (out count : ℕ) (after after_room : List ℕ)
      → Combines out bytes n mid combined_at count one.at one.count combined_at mid_room after after_room
      → NodeCombined out bytes n k r mask d count sets room after after_room
  node_combined out count after after_room comb =
      record {
        leaves = record {
          most = comb.leaves.most;
          changed = changed_both sets 0 joined_at mid after
              (changed_wider sets (960 * 0) (960 * (k + 1)) mid 0 joined_at (offered.leaves.changed 0 ready.rooted) (omega arith)
              (omega (arith, ready.few, ready.node)))
              (changed_beside mid combined_at 960 after 0 joined_at comb.leaves.beside (omega arith) (omega arith));
          candidates = candidates_both room mid_room after_room offered.leaves.candidates comb.leaves.candidates;
        };
        says = λ f s fs are at. comb.says fs are ∙ ap₂ (combined fs)
            (kept_behind sets (960 * 0) (960 * (k + 1)) mid n combined_at count (offered.leaves.changed 0 ready.rooted) (omega (arith, ready.few, ready.node)))
            (offered.says f s fs are at);
      }

-- What a node was combined with stands,
pub node_stands : (out : ℕ) (bytes : List ℕ) (n k : ℕ) (r : Tick) (mask : ℕ) (d : Tick) (count : ℕ) (sets room after after_room : List ℕ)
    → NodeCombined out bytes n k r mask d count sets room after after_room → Rooted bytes 0 k → CombinedStands bytes n mask out after
node_stands out bytes n k r mask d count sets room after after_room node root =
    record {
      says = λ fs are at.
          rw (node.says root.formula root.stored fs are at)
          (combined_stands fs (answered sets n combined_at count) (alternatives_of at.tower fs at.state d root.formula k r));
    }

-- and stays where nothing comes of the next.
pub node_passes : (bytes : List ℕ) (n k : ℕ) (r : Tick) (mask : ℕ) (d : Tick) (count : ℕ) (sets room : List ℕ) (look : Look)
    → Looked look bytes k r mask d → look ≡ Seen.Passes → CombineReady bytes n k r mask count sets room
    → NodeCombined count bytes n k r mask d count sets room sets room
unfolding looked_at if_so
node_passes bytes n k r mask d count sets room look looked one ready =
    record {
      leaves = leaves_none count sets room ready.most;
      says = λ f s fs are at. sym (rw (looked.says f s fs at, one) (ready.stands.says fs are at));
    }

-- ---- a node by its cell

module _ (bytes : List ℕ) (n k cell mask : ℕ) (d : Tick) (count : ℕ) (sets room : List ℕ) where
  pub cell_none : None ≡ cell_of cell → StepReady bytes n mask count sets room → CellCombined count bytes n k cell mask d count sets room sets room
  unfolding combined_cell
  cell_none e ready = record { leaves = leaves_none count sets room ready.most; stands = ready.stands; says = λ f s fs are at. rw (← e) refl }

  module _ (r : Tick) (there : Some r ≡ cell_of cell) where
    pub cell_combined : (out : ℕ) (after after_room : List ℕ) → NodeCombined out bytes n k r mask d count sets room after after_room
        → k < n → StepReady bytes n mask count sets room → CellCombined out bytes n k cell mask d count sets room after after_room
    unfolding combined_cell
    cell_combined out after after_room node low ready =
        record {
          leaves = node.leaves;
          stands = node_stands out bytes n k r mask d count sets room after after_room node (ready.rooted k low);
          says = λ f s fs are at. rw (← there) (node.says f s fs are at);
        }

    pub cell_ready : cell < 256 → StepReady bytes n mask count sets room → k < n → CombineReady bytes n k r mask count sets room
    cell_ready byte ready low = combine_ready bytes n k r mask count sets room low (cell_low cell r there byte) ready

-- ---- all nodes

-- a node and its cell, and those behind them
nodes_cons : (tower : Tower) (fs : List Formula) (x : ℕ) (d : Tick) (g : Formula) (gs : List Formula) (k : ℕ) (o : Option Tick) (cells : Pending)
    (s : Alternatives)
    → combined_nodes tower fs x d (g ∷ gs) k (o ∷ cells) s ≡ combined_nodes tower fs x d gs (suc k) cells (combined_cell tower fs x d g k o s)
unfolding combined_nodes combined_cell
nodes_cons tower fs x d g gs k None cells s = refl
nodes_cons tower fs x d g gs k (Some r) cells s = refl

-- How far the nodes are combined: those from number k on are left to do.
pub record NodesGoing (bytes : List ℕ) (n mask : ℕ) (d : Tick) (old : List ℕ) (from count : ℕ) (first first_room : List ℕ) (left k : ℕ) (sets room : List ℕ) : Type 0 where
  pub low : k ≤ n
  pub leaves : StepLeaves left first first_room sets room
  pub stands : CombinedStands bytes n mask left sets
  pub says : (fs : List Formula) → AreNodes bytes n fs → (at : MarkedState mask)
      → combined_nodes at.tower fs at.state d fs 0 (alternative_in old n from) (answered first n combined_at count)
      ≡ combined_nodes at.tower fs at.state d (drop k fs) k (drop k (alternative_in old n from)) (answered sets n combined_at left)

pub nodes_first : (bytes : List ℕ) (n mask : ℕ) (d : Tick) (old : List ℕ) (from count : ℕ) (sets room : List ℕ) → StepReady bytes n mask count sets room
    → NodesGoing bytes n mask d old from count sets room count 0 sets room
nodes_first bytes n mask d old from count sets room ready =
    record { low = omega arith; leaves = leaves_none count sets room ready.most; stands = ready.stands; says = λ fs are at. refl }

module _ (bytes : List ℕ) (n mask : ℕ) (d : Tick) (old : List ℕ) (from count : ℕ) (first first_room : List ℕ) (left k : ℕ) (sets room : List ℕ)
    (going : NodesGoing bytes n mask d old from count first first_room left k sets room) where
  pub nodes_end : n ≤ k → NodesCombined left bytes n mask d old from count first first_room sets room
  unfolding combined_nodes
  nodes_end over =
      record {
        leaves = going.leaves;
        stands = going.stands;
        says = λ fs are at.
            let done : length fs ≤ k = omega (arith, are.all) in
            sym (going.says fs are at ∙ rw (drop_of_length-le fs done) refl);
      }

  nodes_next : (out : ℕ) (after after_room : List ℕ) → CellCombined out bytes n k (get_or old (from + k) 0) mask d left sets room after after_room
      → k < n → from + n ≤ length old → NodesGoing bytes n mask d old from count first first_room out (k + 1) after after_room
  nodes_next out after after_room cell low fits =
      record {
        low = omega arith;
        leaves = leaves_both left out first first_room sets room after after_room going.leaves cell.leaves;
        stands = cell.stands;
        says = λ fs are at. going.says fs are at ∙ step fs are at;
      }
    where
      step : (fs : List Formula) → AreNodes bytes n fs → (at : MarkedState mask)
          → combined_nodes at.tower fs at.state d (drop k fs) k (drop k (alternative_in old n from)) (answered sets n combined_at left)
          ≡ combined_nodes at.tower fs at.state d (drop (k + 1) fs) (k + 1) (drop (k + 1) (alternative_in old n from)) (answered after n combined_at out)
      step fs are at =
          let many : k < length fs = omega (arith, are.all) in
          let more : k < length (alternative_in old n from) = omega (arith, alternative_length old n from fits) in
          rw (drop-cons fs k (constant false) many, drop-cons (alternative_in old n from) k None more, add-one)
          (nodes_cons at.tower fs at.state d (get_or fs k (constant false)) (drop (suc k) fs) k (get_or (alternative_in old n from) k None)
          (drop (suc k) (alternative_in old n from)) (answered sets n combined_at left)
          ∙ rw (alternative_cell old n from k low, ← cell.says (get_or fs k (constant false)) (are.stored k low) fs are at) refl)

  pub nodes_ready : StepReady bytes n mask count first first_room → StepReady bytes n mask left sets room
  nodes_ready ready = still_ready bytes n mask count first first_room left sets room going.leaves going.stands ready

-- Empty cells are passed over.
nodes_past : (bytes : List ℕ) (n mask : ℕ) (d : Tick) (old : List ℕ) (from count : ℕ) (first first_room : List ℕ) (left k : ℕ) (sets room : List ℕ) (r : ℕ)
    → NodesGoing bytes n mask d old from count first first_room left k sets room → StepReady bytes n mask count first first_room → from + n ≤ length old
    → EmptyTo old from n k r → NodesGoing bytes n mask d old from count first first_room left r sets room
nodes_past bytes n mask d old from count first first_room left k sets room r going ready fits over =
    let all : k + (r - k) ≡ r = omega (arith, over.least) in
    rw all at (go (r - k) (omega arith))
  where
    go : (m : ℕ) → k + m ≤ r → NodesGoing bytes n mask d old from count first first_room left (k + m) sets room
    go zero l = let here : k + 0 ≡ k = omega arith in rw here going
    go (suc m) l =
        let next : k + m + 1 ≡ k + suc m = omega arith in
        let now = go m (omega arith) in
        rw (← next)
        (nodes_next bytes n mask d old from count first first_room left (k + m) sets room now left sets room
        (cell_none bytes n (k + m) (get_or old (from + (k + m)) 0) mask d left sets room (cell_empty _ (over.empty (k + m) (omega arith) (omega arith)))
        (nodes_ready bytes n mask d old from count first first_room left (k + m) sets room now ready))
        (omega (arith, over.most)) fits)

-- Node k is combined, and empty cells behind it are passed over.
pub nodes_on : (bytes : List ℕ) (n mask : ℕ) (d : Tick) (old : List ℕ) (from count : ℕ) (first first_room : List ℕ) (left k : ℕ) (sets room : List ℕ) (r : ℕ)
    (out : ℕ) (after after_room : List ℕ) → EmptyTo old from n (k + 1) r
    → NodesGoing bytes n mask d old from count first first_room left k sets room
    → CellCombined out bytes n k (get_or old (from + k) 0) mask d left sets room after after_room
    → k < n → from + n ≤ length old → StepReady bytes n mask count first first_room
    → NodesGoing bytes n mask d old from count first first_room out r after after_room
nodes_on bytes n mask d old from count first first_room left k sets room r out after after_room over going cell low fits ready =
    nodes_past bytes n mask d old from count first first_room out (k + 1) after after_room r
    (nodes_next bytes n mask d old from count first first_room left k sets room going out after after_room cell low fits) ready fits over

-- ---- one line

module _ (bytes : List ℕ) (n i mask : ℕ) (d : Tick) (count : ℕ) (sets room : List ℕ) (form : ℕ) (at_form : form ≡ form_of bytes i) where
  pub line_passed : (form ≡ 1 → ⊥) → StepReady bytes n mask count sets room → LineCombined count bytes n i mask d count sets room sets room
  unfolding combined_rule
  line_passed not_one ready =
      record {
        leaves = leaves_none count sets room ready.most;
        stands = ready.stands;
        says = λ rule m line fs are at. rw (starts rule.form (λ e. not_one (at_form ∙ line.form ∙ e))) refl;
      }

  pub line_combined : (k : ℕ) (q : Tick) (out : ℕ) (after after_room : List ℕ) → NodeCombined out bytes n k q mask d count sets room after after_room
      → k ≡ formula_of bytes i → q ≡ ticks (fresh_of bytes k) → form ≡ 1 → IsLine bytes i → n ≡ nodes_in bytes
      → StepReady bytes n mask count sets room → LineCombined out bytes n i mask d count sets room after after_room
  unfolding combined_rule
  line_combined k q out after after_room node place new one is all ready =
      record {
        leaves = node.leaves;
        stands = node_stands out bytes n k q mask d count sets room after after_room node
            (ready.rooted k (omega (arith, place ∙ is.is.place, is.is.low)));
        says = λ rule m line fs are at.
            rw (is_everywhere rule.form (sym (at_form ∙ line.form) ∙ one))
            (said rule.formula (root m rule.formula) (place ∙ line.place) (rw (place ∙ line.place) line.stored) fs are at);
      }
    where
      said : (f : Formula) (p : ℕ) → k ≡ p → Stored bytes f k → (fs : List Formula) → AreNodes bytes n fs → (at : MarkedState mask)
          → answered after n combined_at out ≡ combined fs (answered sets n combined_at count) (alternatives_of at.tower fs at.state d f p (fresh f))
      said f p same stored fs are at = rw (← same, ← fresh_is bytes k f stored, ← new) (node.says f stored fs are at)

pub line_ready : (bytes : List ℕ) (n i k : ℕ) (q : Tick) (mask count : ℕ) (sets room : List ℕ) → k ≡ formula_of bytes i
    → q ≡ ticks (fresh_of bytes k) → IsLine bytes i → n ≡ nodes_in bytes → StepReady bytes n mask count sets room
    → CombineReady bytes n k q mask count sets room
line_ready bytes n i k q mask count sets room place new line all ready =
    combine_ready bytes n k q mask count sets room (omega (arith, place ∙ line.is.place, line.is.low))
    (rw new (fresh_low bytes k (line_node bytes i k place line))) ready

-- Nothing comes of a line that passes.
pub line_passes : (bytes : List ℕ) (n i mask : ℕ) (d : Tick) (count : ℕ) (sets room : List ℕ) (form k : ℕ) (b : Bool) → Passes b bytes k mask → b ≡ true
    → form ≡ form_of bytes i → k ≡ formula_of bytes i → form ≡ 1 → IsLine bytes i → n ≡ nodes_in bytes → StepReady bytes n mask count sets room
    → LineCombined count bytes n i mask d count sets room sets room
line_passes bytes n i mask d count sets room form k b pass is-so at_form place one line all ready =
    let q = ticks (fresh_of bytes k) in
    let six = pass.code is-so in
    let looked = looks_or_first_holds bytes k q mask d (code_of bytes k) refl (omega arith) (omega arith) (λ four. omega arith) (λ five. omega arith)
    (first_of bytes k) b refl (pass.first is-so) is-so in
    line_combined bytes n i mask d count sets room form at_form k q count sets room
    (node_passes bytes n k q mask d count sets room Seen.Passes looked refl (line_ready bytes n i k q mask count sets room place refl line all ready))
    place refl one line all ready

-- ---- all lines

-- How far the lines are combined: those from number i on are left to do.
pub record LinesGoing (bytes : List ℕ) (n mask : ℕ) (d : Tick) (count : ℕ) (first first_room : List ℕ) (lines left i : ℕ) (sets room : List ℕ) : Type 0 where
  pub low : i ≤ lines
  pub leaves : StepLeaves left first first_room sets room
  pub stands : CombinedStands bytes n mask left sets
  pub says : (book : Book) → HeldBook bytes book → (fs : List Formula) → AreNodes bytes n fs → (at : MarkedState mask)
      → combined_rules at.tower fs at.state d book 0 (answered first n combined_at count)
      ≡ combined_rules at.tower fs at.state d (drop i book) (nodes_before book i) (answered sets n combined_at left)

pub lines_first : (bytes : List ℕ) (n mask : ℕ) (d : Tick) (count : ℕ) (sets room : List ℕ) (lines : ℕ) → StepReady bytes n mask count sets room
    → LinesGoing bytes n mask d count sets room lines count 0 sets room
unfolding nodes_before
lines_first bytes n mask d count sets room lines ready =
    record { low = omega arith; leaves = leaves_none count sets room ready.most; stands = ready.stands; says = λ book held fs are at. refl }

module _ (bytes : List ℕ) (n mask : ℕ) (d : Tick) (count : ℕ) (first first_room : List ℕ) (lines left i : ℕ) (sets room : List ℕ)
    (going : LinesGoing bytes n mask d count first first_room lines left i sets room) where
  pub lines_end : lines ≡ lines_in bytes → lines ≤ i → LinesCombined left bytes n mask d count first first_room sets room
  unfolding combined_rules
  lines_end all over =
      record {
        leaves = going.leaves;
        says = λ book held fs are at.
            let done : length book ≤ i = omega (arith, held.holds.line_count) in
            sym (going.says book held fs are at ∙ rw (drop_of_length-le book done) refl);
      }

  pub lines_next : (out : ℕ) (after after_room : List ℕ) → LineCombined out bytes n i mask d left sets room after after_room → lines ≡ lines_in bytes
      → i < lines → LinesGoing bytes n mask d count first first_room lines out (i + 1) after after_room
  unfolding combined_rules
  lines_next out after after_room line all low =
      record {
        low = omega arith;
        leaves = leaves_both left out first first_room sets room after after_room going.leaves line.leaves;
        stands = line.stands;
        says = λ book held fs are at.
            let within : i < length book = omega (arith, held.holds.line_count) in
            going.says book held fs are at
            ∙ rw (
              book_from book i within,
              before_next book i within,
              line.says (rule_at book i) (nodes_before book i) (held_line bytes book held i (omega arith)) fs are at,
            ) refl;
      }

  pub lines_ready : StepReady bytes n mask count first first_room → StepReady bytes n mask left sets room
  lines_ready ready = still_ready bytes n mask count first first_room left sets room going.leaves going.stands ready
