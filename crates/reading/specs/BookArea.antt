-- A book that was read, as bytes in a lent area: its nodes, its lines, and how many there are of each. The crates above read them there and
-- need no text.
use Rattle.std.specs.Prelude.{ℕ, suc, ◌+◌, ◌*◌, ◌≡◌, List, [], ◌∷◌, ◌++◌, length, take, drop}
use Rattle.base.specs.Choice.{pick}
use Rattle.base.specs.Bytes.{byte_at}
use Rattle.logic.specs.Book.{Comparison, no_more, less, no_less, more, Formula, constant, proposition, and, or, next, always_for, until, timed, size, nodes, root, first_part, second_part, Form, at_start, everywhere, Rule, Book}

-- bytes of a node and of a line, where the lines begin, and where the numbers of nodes and of lines stand
abbrev pub node_size : ℕ
node_size = 4

abbrev pub line_size : ℕ
line_size = 4

abbrev pub lines_at : ℕ
lines_at = 240

abbrev pub node_count_at : ℕ
node_count_at = 480

abbrev pub line_count_at : ℕ
line_count_at = 481

-- which connective a node is: its code
unfoldable pub comparison_code : Comparison → ℕ
comparison_code no_more = 7
comparison_code less = 8
comparison_code no_less = 9
comparison_code more = 10

unfoldable pub node_code : Formula → ℕ
node_code (constant b) = pick b (λ _. 1) (λ _. 0)
node_code (proposition wanted k) = pick wanted (λ _. 3) (λ _. 2)
node_code (and f g) = 4
-- 5 where the first side is timed, so that the second, where it is untimed, is tested first
node_code (or f g) = pick (timed f) (λ _. 5) (λ _. 6)
node_code (next c t g) = comparison_code c
node_code (always_for t g) = 11
node_code (until t f g) = 12

-- its bound, or the number of its mark
unfoldable pub node_number : Formula → ℕ
node_number (constant b) = 0
node_number (proposition w k) = k
node_number (and f g) = 0
node_number (or f g) = 0
node_number (next c t g) = t.0
node_number (always_for t g) = t.0
node_number (until t f g) = t.0

-- the numbers of its parts, if it is node k; 0 where there is none
unfoldable pub node_first : ℕ → Formula → ℕ
node_first k (constant b) = 0
node_first k (proposition w m) = 0
node_first k (and f g) = first_part k g
node_first k (or f g) = first_part k g
node_first k (next c t g) = 0
node_first k (always_for t g) = 0
node_first k (until t f g) = first_part k g

unfoldable pub node_second : ℕ → Formula → ℕ
node_second k (constant b) = 0
node_second k (proposition w m) = 0
node_second k (and f g) = second_part k
node_second k (or f g) = second_part k
node_second k (next c t g) = second_part k
node_second k (always_for t g) = second_part k
node_second k (until t f g) = second_part k

-- the four bytes of node k
unfoldable pub node_bytes : ℕ → Formula → List ℕ
node_bytes k f = node_code f ∷ node_number f ∷ node_first k f ∷ node_second k f ∷ []

-- the bytes of the nodes from number k on
unfoldable pub nodes_bytes : ℕ → List Formula → List ℕ
nodes_bytes k [] = []
nodes_bytes k (f ∷ fs) = node_bytes k f ++ nodes_bytes (suc k) fs

-- a line's form: 1 for `always` and 0 for `start`
unfoldable pub form_code : Form → ℕ
form_code at_start = 0
form_code everywhere = 1

-- its traits: 1 if its formula is timed
unfoldable pub traits_code : Formula → ℕ
traits_code f = pick (timed f) (λ _. 1) (λ _. 0)

-- the four bytes of line i, whose nodes begin with number n: its form, the node of its formula, its own number and its traits
unfoldable pub line_bytes : ℕ → ℕ → Rule → List ℕ
line_bytes i n rule = form_code rule.form ∷ root n rule.formula ∷ i ∷ traits_code rule.formula ∷ []

-- the bytes of the lines from number i on, whose nodes begin with number n
unfoldable pub lines_bytes : ℕ → ℕ → Book → List ℕ
lines_bytes i n [] = []
lines_bytes i n (rule ∷ rules) = line_bytes i n rule ++ lines_bytes (suc i) (n + size rule.formula) rules

-- how many nodes and how many lines an area says it holds
abbrev pub nodes_in : List ℕ → ℕ
nodes_in area = byte_at area node_count_at

abbrev pub lines_in : List ℕ → ℕ
lines_in area = byte_at area line_count_at

-- The area holds the book.
pub record HoldsBook (area : List ℕ) (book : Book) : Type 0 where
  pub node_part : take (node_size * length (nodes book)) area ≡ nodes_bytes 0 (nodes book)
  pub line_part : take (line_size * length book) (drop lines_at area) ≡ lines_bytes 0 0 book
  pub node_count : nodes_in area ≡ length (nodes book)
  pub line_count : lines_in area ≡ length book
