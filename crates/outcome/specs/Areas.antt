-- 01, 'Why a call is turned down', 'Work areas': the length of every area that an entry borrows, in the order of its parameters.
-- docs/WORK-AREAS.md says what lies where.
use Rattle.std.specs.Prelude.{ℕ, List, [], ◌∷◌}

-- the nodes and lines of a book
abbrev pub book_area : ℕ
book_area = 512

-- pairs, or rows with what is pending: 1,000 alternatives and those of the pair that is being looked up, of 60 bytes each, and a head of 4 bytes
-- for each pair
abbrev pub pairs_area : ℕ
pairs_area = 64968

-- where to find one of them again
abbrev pub index_area : ℕ
index_area = 8192

-- the graph of pairs: where each action leads from each pair, and the state of each
abbrev pub graph_area : ℕ
graph_area = 34000

-- the sets of alternatives of nodes, and those of a whole step
abbrev pub sets_area : ℕ
sets_area = 59520

-- candidates for a set, and what waits to be entered as pairs
abbrev pub room_area : ℕ
room_area = 30752

-- whether each pair is safe, which steps lead to each pair, and the pairs that removal has still to look at
abbrev pub flags_area : ℕ
flags_area = 37000

-- the classes of pairs, and the order of rows
abbrev pub classes_area : ℕ
classes_area = 8192

-- what the book reader, the checker and the maker borrow; the follower borrows nothing
unfoldable pub book_areas : List ℕ
book_areas = book_area ∷ []

unfoldable pub check_areas : List ℕ
check_areas = book_area ∷ pairs_area ∷ index_area ∷ graph_area ∷ sets_area ∷ room_area ∷ []

unfoldable pub make_areas : List ℕ
make_areas = book_area ∷ pairs_area ∷ index_area ∷ graph_area ∷ sets_area ∷ room_area ∷ flags_area ∷ classes_area ∷ []
