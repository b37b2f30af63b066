-- What the book reader keeps in its lent area while it reads: nodes and lines (reading/specs/BookArea), and behind them bytes of its own.
use Rattle.std.specs.Prelude.{ℕ, ◌+◌, ◌-◌, ◌*◌, ◌%◌, min, ◌≡◌, Bool, not, List, [], ◌∷◌, take, eqb, leb, ltb}
use Rattle.std.proofs.lemmas.List.Edits.{sets}
use Rattle.base.specs.Choice.{pick}
use Rattle.base.specs.Bytes.{byte_at}
use Rattle.logic.specs.Book.{Formula, timed, timed_right, parts}
use Rattle.reading.specs.BookArea.{node_size, node_count_at, node_code, node_number, node_first, node_second}
use Rattle.reading.specs.BookReading.{most_nodes, most_ticks, over_number, over_mark}

-- where the reader's own bytes stand, behind the numbers of nodes and lines
abbrev pub fault_at : ℕ
fault_at = 482

abbrev pub timed_at : ℕ
timed_at = 483

abbrev pub marks_at : ℕ
marks_at = 484

abbrev pub usual_at : ℕ
usual_at = 485

-- The bytes of nodes and lines, and how many nodes were read; 61 stands for more than there may be.
pub record Nodes : Type 0 where
  pub kept : List ℕ
  pub count : ℕ

-- Beside them the least number of a refusal met so far, whether the formula read last is timed, how many marks there are, and the bound
-- where a number is left out.
pub record State : Type 0 where
  pub nodes : Nodes
  pub fault : ℕ
  pub is_timed : ℕ
  pub marks : ℕ
  pub usual : ℕ

-- the state that an area holds
unfoldable pub state_of : List ℕ → State
state_of a =
    record {
      nodes = record { kept = take node_count_at a; count = byte_at a node_count_at };
      fault = byte_at a fault_at;
      is_timed = byte_at a timed_at;
      marks = byte_at a marks_at;
      usual = byte_at a usual_at;
    }

-- the bound that an area says is meant where a number is left out
abbrev pub usual_in : List ℕ → ℕ
usual_in area = (state_of area).usual

-- one more node, of these bytes; where there is no room it is only counted
unfoldable pub put_bytes : List ℕ → Nodes → Nodes
put_bytes bytes n =
    pick (ltb n.count most_nodes)
    (λ _. record { kept = sets n.kept (node_size * n.count) bytes; count = n.count + 1 })
    (λ _. record { kept = n.kept; count = most_nodes + 1 })

unfoldable pub stored : List ℕ → State → State
stored bytes st = record { nodes = put_bytes bytes st.nodes; fault = st.fault; is_timed = st.is_timed; marks = st.marks; usual = st.usual }

-- the number of a refusal noted, if it is less than what was noted before
unfoldable pub noted : ℕ → State → State
noted k st = record { nodes = st.nodes; fault = min k st.fault; is_timed = st.is_timed; marks = st.marks; usual = st.usual }

unfoldable pub noted_if : Bool → ℕ → State → State
noted_if b k st = pick b (λ _. noted k st) (λ _. st)

-- said of the formula read last: 1 if it is timed, and else 0
unfoldable pub told_timed : ℕ → State → State
told_timed t st = record { nodes = st.nodes; fault = st.fault; is_timed = t; marks = st.marks; usual = st.usual }

-- the number of the node read last
unfoldable pub last_node : State → ℕ
last_node st = st.nodes.count - 1

-- a node without parts
unfoldable pub leaf : ℕ → ℕ → State → State
leaf code number st = told_timed 0 (stored (code ∷ number ∷ 0 ∷ 0 ∷ []) st)

-- a node of a mark: 8 is noted if there is no such mark
unfoldable pub mark_node : ℕ → ℕ → State → State
mark_node code k st = leaf code (k % 256) (noted_if (leb st.marks k) 8 st)

-- an opening bracket where there is room for so many: 9 is noted if there is none
unfoldable pub opened : ℕ → State → State
opened room st = noted_if (eqb room 0) 9 st

-- a node of `&`, its second part read last: the first part's number, and whether that is timed
unfoldable pub and_node : ℕ → ℕ → State → State
and_node first t st =
    told_timed (pick (eqb t 0) (λ _. st.is_timed) (λ _. 1)) (stored (4 ∷ 0 ∷ first ∷ last_node st ∷ []) st)

-- the same of `|`, with another code where the first part is timed
unfoldable pub or_node : ℕ → ℕ → State → State
or_node first t st =
    pick (eqb t 0)
    (λ _. stored (6 ∷ 0 ∷ first ∷ last_node st ∷ []) st)
    (λ _. told_timed 1 (stored (5 ∷ 0 ∷ first ∷ last_node st ∷ []) st))

-- a node with a bound, its last part read last
unfoldable pub bounded_node : ℕ → ℕ → ℕ → State → State
bounded_node code amount first st =
    told_timed 1 (stored (code ∷ amount % 256 ∷ first ∷ last_node st ∷ []) (noted_if (ltb most_ticks amount) 7 st))

-- a node of `U`, whose second part may not be timed
unfoldable pub until_node : ℕ → ℕ → State → State
until_node amount first st = bounded_node 12 amount first (noted_if (not (eqb st.is_timed 0)) 10 st)

-- ---- a whole formula

-- one more node
unfoldable pub put_one : Formula → Nodes → Nodes
put_one f n =
    put_bytes (node_code f ∷ node_number f % 256 ∷ node_first n.count f ∷ node_second n.count f ∷ []) n

unfoldable pub put_all : List Formula → Nodes → Nodes
put_all [] n = n
put_all (f ∷ fs) n = put_all fs (put_one f n)

unfoldable pub one_if : Bool → ℕ
one_if b = pick b (λ _. 1) (λ _. 0)

-- the number of a refusal where it is due
unfoldable pub due : Bool → ℕ → ℕ
due b k = pick b (λ _. k) (λ _. 255)

-- the least number of a refusal due for a formula with so many open brackets, where there is room for so many: 7, 8, 9 or 10
unfoldable pub fault_of : ℕ → ℕ → ℕ → Formula → ℕ
fault_of marks room brackets f =
    min (due (over_number f) 7) (min (due (over_mark marks f) 8) (min (due (ltb room brackets) 9) (due (not (timed_right f)) 10)))

-- the state after a formula was read
unfoldable pub absorb : ℕ → ℕ → Formula → State → State
absorb room brackets f st =
    record {
      nodes = put_all (parts f) st.nodes;
      fault = min (fault_of st.marks room brackets f) st.fault;
      is_timed = one_if (timed f);
      marks = st.marks;
      usual = st.usual;
    }

-- What opening a bracket answers and does: the room that is left, and the note.
pub record Opens (r room : ℕ) (a z : List ℕ) : Type 0 where
  pub inner : r ≡ room - 1
  pub state : state_of z ≡ opened room (state_of a)
