-- The lines of a book progress, or begin, one after the other: the ways through `progress_line`, `progress_lines`, `begin_line`, `begin_lines`.
use Prim.Native.Nat.{ℕ, ◌+◌, ◌≤◌, ◌<◌}
use native.Mathlib.Omega.{arith}
use native.Mathlib.Numerals.{add-one}
use mathlib.Core.Path.{◌≡◌, refl, sym, ◌∙◌}
use mathlib.Core.Bool.{Bool, true, false, not}
use Rattle.base.specs.Options.{bind}
use mathlib.Core.List.{List, ◌∷◌}
use lib.ListN.{length, drop, drop_of_length-le}
use lib.Seq.{drop-cons}
use borrow.Author.Tests.{not-true, not-false}
use Rattle.logic.specs.Time.{ticks}
use Rattle.logic.specs.Book.{constant, size, root, Form, at_start, everywhere, Rule, Book}
use Rattle.logic.specs.declared.Tick.{Tick}
use Rattle.pending.specs.Pending.{progress_rule, progress_rules, begin_rule, begin_rules}
use Rattle.reading.specs.BookArea.{form_code, nodes_in, lines_in}
use Rattle.book_progression.specs.PendingBytes.{pending_of, outcome}
use Rattle.book_progression.specs.NodeBytes.{form_of, formula_of, fresh_of, Stored, IsNode, HeldBook, MarkedState}
use Rattle.book_progression.specs.Promises.{NodeReady, PutsNode, Progresses, Passes, LineIs, IsLine, LineSteps, LinesProgress, LineBegins, LinesBegin}
use Rattle.book_progression.proofs.Nodes.{is_node, fresh_is, fresh_low}
use Rattle.book_progression.proofs.Progressing.{child, passed}
use Rattle.book_progression.proofs.BookHeld.{rule_at, nodes_before, nodes_before_next, held_line}

-- ---- one line

-- a line whose code is not 1 is a `start` line, and else an `always` line
pub starts : (form : Form) → (form_code form ≡ 1 → ⊥) → form ≡ at_start
unfolding form_code
starts at_start not_one = refl
starts everywhere not_one = absurd (not_one refl)

pub is_everywhere : (form : Form) → form_code form ≡ 1 → form ≡ everywhere
unfolding form_code
is_everywhere at_start one = absurd (omega arith)
is_everywhere everywhere one = refl

module _ (bytes : List ℕ) (i : ℕ) (cells : List ℕ) (form : ℕ) (at_form : form ≡ form_of bytes i) where
  pub line_starts : (mask : ℕ) (d : Tick) → (form ≡ 1 → ⊥) → LineSteps true bytes i mask d cells cells
  unfolding progress_rule outcome
  line_starts mask d not_one =
      record { says = λ rule n line at. rw (starts rule.form (λ e. not_one (at_form ∙ line.form ∙ e))) }

  pub line_progresses : (mask : ℕ) (d : Tick) (k : ℕ) (q : Tick) (b : Bool) (after : List ℕ) → form ≡ 1
      → k ≡ formula_of bytes i → q ≡ ticks (fresh_of bytes k) → Progresses b bytes k q mask d cells after
      → LineSteps b bytes i mask d cells after
  unfolding progress_rule
  line_progresses mask d k q b after one place new call =
      record {
        says = λ rule n line at. rw (is_everywhere rule.form (sym (at_form ∙ line.form) ∙ one))
            (child bytes mask d k (root n rule.formula) q b cells after rule.formula (place ∙ line.place)
            (rw (place ∙ line.place) line.stored) new call at);
      }

  pub line_passes : (mask : ℕ) (d : Tick) (k : ℕ) (b : Bool) → form ≡ 1 → k ≡ formula_of bytes i → Passes b bytes k mask → b ≡ true
      → LineSteps true bytes i mask d cells cells
  line_passes mask d k b one place pass is-so =
      line_progresses mask d k (ticks (fresh_of bytes k)) true cells one place refl (passed bytes k mask b pass is-so (ticks (fresh_of bytes k)) d cells)

  pub line_waits : form ≡ 1 → LineBegins bytes i cells cells
  unfolding begin_rule
  line_waits one = record { says = λ rule n line. rw (is_everywhere rule.form (sym (at_form ∙ line.form) ∙ one)) }

  pub line_begins : (k : ℕ) (q : Tick) (after : List ℕ) → (form ≡ 1 → ⊥) → k ≡ formula_of bytes i
      → q ≡ ticks (fresh_of bytes k) → PutsNode bytes k q cells after → LineBegins bytes i cells after
  unfolding begin_rule
  line_begins k q after not_one place new call = record { says = λ rule n line. go rule n line (rw (place ∙ line.place) line.stored) }
    where
      go : (rule : Rule) (n : ℕ) → LineIs bytes i rule n → Stored bytes rule.formula k
          → pending_of after ≡ begin_rule rule.form rule.formula (root n rule.formula) (pending_of cells)
      go rule n line stored =
          rw (starts rule.form (λ e. not_one (at_form ∙ line.form ∙ e)), ← place ∙ line.place, ← fresh_is bytes k rule.formula stored, ← new)
          (call.says rule.formula stored)

-- what is asked of the line's formula
pub line_node : (bytes : List ℕ) (i k : ℕ) → k ≡ formula_of bytes i → IsLine bytes i → IsNode bytes k
line_node bytes i k place line =
    is_node bytes k line.rule.formula (rw (place ∙ line.is.place) line.is.stored)

pub line_ready : (bytes : List ℕ) (i k : ℕ) (q : Tick) (cells : List ℕ) → k ≡ formula_of bytes i → q ≡ ticks (fresh_of bytes k)
    → IsLine bytes i → length cells ≡ nodes_in bytes → NodeReady bytes k q cells
line_ready bytes i k q cells place new line all =
    record {
      node = line_node bytes i k place line;
      cell = omega (arith, place ∙ line.is.place, line.is.low);
      left = rw new (fresh_low bytes k (line_node bytes i k place line));
    }

-- ---- all lines

-- line i of the book, with the lines behind it
pub book_from : (book : Book) (i : ℕ) → i < length book → drop i book ≡ rule_at book i ∷ drop (i + 1) book
unfolding rule_at
book_from book i low = rw add-one (drop-cons book i (record { form = at_start; formula = constant false }) low)

pub before_next : (book : Book) (i : ℕ) → i < length book → nodes_before book (i + 1) ≡ nodes_before book i + size (rule_at book i).formula
before_next book i low = rw add-one (nodes_before_next book i low)

-- How far the lines have progressed: the lines from i on are left to do.
pub record LinesGoing (bytes : List ℕ) (lines mask : ℕ) (d : Tick) (first cells : List ℕ) (i : ℕ) : Type 0 where
  pub low : i ≤ lines
  pub size : length cells ≡ length first
  pub left : (book : Book) → HeldBook bytes book → (at : MarkedState mask)
      → progress_rules at.tower at.state d book 0 (pending_of first)
      ≡ progress_rules at.tower at.state d (drop i book) (nodes_before book i) (pending_of cells)

pub lines_first : (bytes : List ℕ) (lines mask : ℕ) (d : Tick) (cells : List ℕ) → LinesGoing bytes lines mask d cells cells 0
unfolding nodes_before
lines_first bytes lines mask d cells = record { low = omega arith; size = refl; left = λ book held at. refl }

module _ (bytes : List ℕ) (lines mask : ℕ) (d : Tick) (first cells : List ℕ) (i : ℕ) (all : lines ≡ lines_in bytes)
    (going : LinesGoing bytes lines mask d first cells i) where
  pub lines_end : lines ≤ i → LinesProgress true bytes mask d first cells
  unfolding progress_rules outcome
  lines_end done =
      record {
        says = λ book held at.
            let over : length book ≤ i = omega (arith, held.holds.line_count) in
            going.left book held at ∙ rw (drop_of_length-le book over);
      }

  module _ (b : Bool) (after : List ℕ) (low : i < lines) (same : length after ≡ length cells) (step : LineSteps b bytes i mask d cells after) where
    -- the rule of line i
    stepped : (book : Book) → HeldBook bytes book → (at : MarkedState mask)
        → progress_rules at.tower at.state d book 0 (pending_of first)
        ≡ bind (outcome b after) (λ q. progress_rules at.tower at.state d (drop (i + 1) book) (nodes_before book (i + 1)) q)
    unfolding progress_rules
    stepped book held at =
        let within : i < length book = omega (arith, held.holds.line_count) in
        going.left book held at
        ∙ rw (
          book_from book i within,
          before_next book i within,
          step.says (rule_at book i) (nodes_before book i) (held_line bytes book held i (omega arith)) at,
        )

    pub lines_broken : not b ≡ true → LinesProgress false bytes mask d first after
    unfolding outcome bind
    lines_broken fails = record { says = λ book held at. stepped book held at ∙ rw (not-true b fails) }

    pub lines_next : not b ≡ false → LinesGoing bytes lines mask d first after (i + 1)
    unfolding outcome bind
    lines_next passes =
        record {
          low = omega arith;
          size = same ∙ going.size;
          left = λ book held at. stepped book held at ∙ rw (not-false b passes);
        }

-- How far the lines have begun.
pub record LinesBeginning (bytes : List ℕ) (lines : ℕ) (first cells : List ℕ) (i : ℕ) : Type 0 where
  pub low : i ≤ lines
  pub size : length cells ≡ length first
  pub left : (book : Book) → HeldBook bytes book
      → begin_rules book 0 (pending_of first) ≡ begin_rules (drop i book) (nodes_before book i) (pending_of cells)

pub begin_first : (bytes : List ℕ) (lines : ℕ) (cells : List ℕ) → LinesBeginning bytes lines cells cells 0
unfolding nodes_before
begin_first bytes lines cells = record { low = omega arith; size = refl; left = λ book held. refl }

module _ (bytes : List ℕ) (lines : ℕ) (first cells : List ℕ) (i : ℕ) (all : lines ≡ lines_in bytes)
    (going : LinesBeginning bytes lines first cells i) where
  pub begin_end : lines ≤ i → LinesBegin bytes first cells
  unfolding begin_rules
  begin_end done =
      record {
        says = λ book held.
            let over : length book ≤ i = omega (arith, held.holds.line_count) in
            sym (going.left book held ∙ rw (drop_of_length-le book over));
      }

  pub begin_next : (after : List ℕ) → i < lines → length after ≡ length cells → LineBegins bytes i cells after
      → LinesBeginning bytes lines first after (i + 1)
  unfolding begin_rules
  begin_next after low same step =
      record {
        low = omega arith;
        size = same ∙ going.size;
        left = λ book held.
            let within : i < length book = omega (arith, held.holds.line_count) in
            going.left book held
            ∙ rw (
              book_from book i within,
              before_next book i within,
              step.says (rule_at book i) (nodes_before book i) (held_line bytes book held i (omega arith)),
            );
      }
