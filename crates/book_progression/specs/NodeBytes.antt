-- The nodes and lines of a book, read out of the bytes that hold it (crates/reading/specs/BookArea.antt).
use Rattle.std.specs.Prelude.{ℕ, ◌+◌, ◌*◌, ◌≤◌, ◌<◌, ◌≡◌, false, length, ltb}
use mathlib.Core.List.{List, Memᴰ}
use Rattle.base.specs.Choice.{pick}
use Rattle.base.specs.Bytes.{byte_at}
use Rattle.logic.specs.Tower.{Tower, most_marks, bit}
use Rattle.logic.specs.Book.{Formula, constant, proposition, and, or, next, always_for, until, first_part, second_part, FitBook, Rule, Book}
use Rattle.reading.specs.BookArea.{lines_at, line_size, line_count_at, node_code, node_number, node_first, node_second, nodes_in, HoldsBook}
use Rattle.reading.specs.BookReading.{over_number, over_mark}

-- the four bytes of node k
abbrev pub code_of : List ℕ → ℕ → ℕ
code_of bytes k = byte_at bytes (4 * k)

abbrev pub number_of : List ℕ → ℕ → ℕ
number_of bytes k = byte_at bytes (4 * k + 1)

abbrev pub first_of : List ℕ → ℕ → ℕ
first_of bytes k = byte_at bytes (4 * k + 2)

abbrev pub second_of : List ℕ → ℕ → ℕ
second_of bytes k = byte_at bytes (4 * k + 3)

-- the form of line i, and the node of its formula
abbrev pub form_of : List ℕ → ℕ → ℕ
form_of bytes i = byte_at bytes (lines_at + line_size * i)

abbrev pub formula_of : List ℕ → ℕ → ℕ
formula_of bytes i = byte_at bytes (lines_at + line_size * i + 1)

-- the ticks that node k starts with: its bound, if it has one
unfoldable pub fresh_of : List ℕ → ℕ → ℕ
fresh_of bytes k = pick (ltb (code_of bytes k) 7) (λ _. 0) (λ _. number_of bytes k)

-- The bytes of node k are those of f. Its bound leaves room for one tick more in a byte, and its mark is one that a tower may have.
pub record NodeIs (bytes : List ℕ) (k : ℕ) (f : Formula) : Type 0 where
  pub room : 4 * k + 3 < length bytes
  pub code : code_of bytes k ≡ node_code f
  pub number : number_of bytes k ≡ node_number f
  pub first : first_of bytes k ≡ node_first k f
  pub second : second_of bytes k ≡ node_second k f
  pub bound : node_number f ≤ 254
  pub mark : node_code f ≤ 3 → node_number f < 16

-- Node k is f, and so on for its parts, which have lower numbers.
unfoldable pub Stored : List ℕ → Formula → ℕ → Type 0
Stored bytes (constant b) k = NodeIs bytes k (constant b)
Stored bytes (proposition w m) k = NodeIs bytes k (proposition w m)
Stored bytes (and f g) k =
    NodeIs bytes k (and f g) × Stored bytes f (first_part k g) × Stored bytes g (second_part k) × (first_part k g < k) × (second_part k < k)
Stored bytes (or f g) k =
    NodeIs bytes k (or f g) × Stored bytes f (first_part k g) × Stored bytes g (second_part k) × (first_part k g < k) × (second_part k < k)
Stored bytes (next c t g) k = NodeIs bytes k (next c t g) × Stored bytes g (second_part k) × (second_part k < k)
Stored bytes (always_for t g) k = NodeIs bytes k (always_for t g) × Stored bytes g (second_part k) × (second_part k < k)
Stored bytes (until t f g) k =
    NodeIs bytes k (until t f g) × Stored bytes f (first_part k g) × Stored bytes g (second_part k) × (first_part k g < k) × (second_part k < k)

-- Node k is some formula.
pub record IsNode (bytes : List ℕ) (k : ℕ) : Type 0 where
  pub room : 4 * k + 3 < length bytes
  pub formula : Formula
  pub stored : Stored bytes formula k

-- The area holds the book, within the limits that a book is read under.
pub record HeldBook (bytes : List ℕ) (book : Book) : Type 0 where
  pub holds : HoldsBook bytes book
  pub fit : FitBook book
  pub numbers : (rule : Rule) → Memᴰ rule book → over_number rule.formula ≡ false
  pub marks : (rule : Rule) → Memᴰ rule book → over_mark most_marks rule.formula ≡ false

-- The area holds a book, with the numbers of its nodes and lines, and at most 60 nodes.
pub record IsHeld (bytes : List ℕ) : Type 0 where
  pub book : Book
  pub held : HeldBook bytes book
  pub room : line_count_at < length bytes
  pub few : nodes_in bytes ≤ 60

-- A state of a tower whose marks are the bits of the mask.
pub record MarkedState (mask : ℕ) : Type 0 where
  pub tower : Tower
  pub state : ℕ
  pub marks : (k : ℕ) → tower.marked state k ≡ bit k mask
