-- 01, 'Why a call is turned down': the examples of the table of refusals, and at the limits the nearest neighbour that is let pass. 11 has no
-- example here: a search for 1,001 pairs is run in tests.
use Rattle.std.specs.Prelude.{ℕ, ◌≤◌, ◌≡◌, true, List, [], ◌∷◌, ◌++◌, length, take, set, replicate}
use Rattle.base.specs.Lists.{joined}
use Rattle.base.specs.Text.{byte, ascii}
use Rattle.base.specs.Bytes.{long_enough}
use Rattle.base.specs.Answers.{Said, answered, refused, book_said, make_said, follow_said}
use Rattle.outcome.specs.Areas.{book_areas, make_areas}
use Rattle.outcome.specs.ReadBook.{read_outcome}
use Rattle.outcome.specs.Make.{make_outcome}
use Rattle.outcome.specs.Follow.{follow_outcome}
use Rattle.outcome.specs.SmallTower.{small_tower, book_1, table_1}
use Rattle.outcome.specs.TinyTowers.{Judges}

-- what the maker says of a tower and no rules, with any output of 50 bytes or more and any areas that are long enough
unfoldable pub TowerSays : List ℕ → Said → Type 0
TowerSays tower said =
    (output : List ℕ) (areas : List (List ℕ)) → 50 ≤ length output → long_enough make_areas areas ≡ true
    → make_said (make_outcome tower [] output areas).answer ≡ said

-- what the book reader says of a book under three marks, with any area that is long enough
unfoldable pub BookSays : List ℕ → Said → Type 0
BookSays text said = (areas : List (List ℕ)) → long_enough book_areas areas ≡ true → book_said (read_outcome 3 text areas).answer ≡ said

-- the small tower with one byte changed
unfoldable pub with_byte : ℕ → ℕ → List ℕ
with_byte p b = set small_tower p b

-- n lines `start T`
unfoldable pub true_lines : ℕ → List ℕ
true_lines n = joined (replicate n (ascii "start T\n"))

-- `start T` with n spaces between, n + 7 bytes with the end of the line
unfoldable pub spaced : ℕ → List ℕ
spaced n = ascii "start" ++ (replicate n (byte " ") ++ ascii "T\n")

-- n brackets around T
unfoldable pub in_brackets : ℕ → List ℕ
in_brackets n = ascii "start " ++ (replicate n (byte "(") ++ (byte "T" ∷ (replicate n (byte ")") ++ (byte "\n" ∷ []))))

-- a table of one row, of state 0 with no step
unfoldable pub no_step : List ℕ
no_step = 1 ∷ 0 ∷ 0 ∷ 0 ∷ 12 ∷ 0 ∷ 16 ∷ 0 ∷ 3 ∷ 0 ∷ 4 ∷ 0 ∷ 0 ∷ 0 ∷ 0 ∷ 0 ∷ []

-- the table of outcome 1 with the target of its first step changed
unfoldable pub with_target : ℕ → List ℕ
with_target row = set table_1 33 row

-- the small tower's table under no rules, 36 bytes
abbrev pub let_pass : Said
let_pass = answered (36 ∷ [])

-- The examples, by number.
pub record RefusalTable : Type 0 where
  -- 1: header offset or length wrong; 7 bytes, a byte more or less at the end
  pub no_1 : TowerSays (take 7 small_tower) (refused 1 0 [])
  pub no_1_shorter : TowerSays (take 33 small_tower) (refused 1 0 [])
  pub no_1_longer : TowerSays (small_tower ++ (0 ∷ [])) (refused 1 0 [])
  pub no_1_offset : TowerSays (with_byte 4 9) (refused 1 0 [])
  pub fit_tower : TowerSays small_tower let_pass
  -- 2: count or start out of range; S = 0, start = S. 200 states and 16 actions are in range: the refusal is then for the length.
  pub no_2 : TowerSays (with_byte 0 0) (refused 2 0 [])
  pub no_2_states : TowerSays (with_byte 0 201) (refused 2 0 [])
  pub in_range_states : TowerSays (with_byte 0 200) (refused 1 0 [])
  pub no_2_actions : TowerSays (with_byte 1 17) (refused 2 0 [])
  pub in_range_actions : TowerSays (with_byte 1 16) (refused 1 0 [])
  pub no_2_start : TowerSays (with_byte 3 3) (refused 2 0 [])
  pub no_2_marks : TowerSays (with_byte 2 17) (refused 2 0 [])
  pub fit_marks : TowerSays (with_byte 2 16) let_pass
  -- 3: length 0, kind above 2
  pub no_3 : TowerSays (with_byte 8 0) (refused 3 0 [])
  pub no_3_kind : TowerSays (with_byte 9 3) (refused 3 0 [])
  pub fit_kind : TowerSays (with_byte 9 2) let_pass
  pub fit_length : TowerSays (with_byte 8 255) let_pass
  -- 4: target neither below S nor 255
  pub no_4 : TowerSays (with_byte 20 3) (refused 4 0 [])
  pub no_4_high : TowerSays (with_byte 20 254) (refused 4 0 [])
  -- 5: mask bit at or above P
  pub no_5 : TowerSays (with_byte 16 8) (refused 5 0 [])
  pub fit_mask : TowerSays (with_byte 16 7) let_pass
  -- 6: not of the grammar
  pub no_6 : BookSays (ascii "always &\n") (refused 6 0 [])
  pub no_6_next_line : BookSays (ascii "start T\nalways T\n&\n") (refused 6 2 [])
  pub no_6_not_ended : BookSays (ascii "start T") (refused 6 0 [])
  -- 7: number above 254
  pub no_7 : BookSays (ascii "start A 255 T\n") (refused 7 0 [])
  pub fit_number : BookSays (ascii "start A 254 T\n") (answered (1 ∷ 2 ∷ []))
  -- 8: mark at or above P
  pub no_8 : BookSays (ascii "start p3\n") (refused 8 0 [])
  pub fit_mark : BookSays (ascii "start p2\n") (answered (1 ∷ 1 ∷ []))
  -- 9: over 4,096 bytes, 60 nodes or 16 open brackets
  pub no_9_bytes : BookSays (spaced 4090) (refused 9 0 [])
  pub fit_bytes : BookSays (spaced 4089) (answered (1 ∷ 1 ∷ []))
  pub no_9 : BookSays (true_lines 61) (refused 9 60 [])
  pub fit_nodes : BookSays (true_lines 60) (answered (60 ∷ 60 ∷ []))
  pub no_9_brackets : BookSays (in_brackets 17) (refused 9 0 [])
  pub fit_brackets : BookSays (in_brackets 16) (answered (1 ∷ 1 ∷ []))
  -- 10: timed where it may not be; the second part of U may not, and so what stands behind E. Both sides of `|` may.
  pub no_10 : BookSays (ascii "start U 1 (T, E 1 p0)\n") (refused 10 0 [])
  pub fit_until : BookSays (ascii "start U 1 (A 1 p0, T)\n") (answered (1 ∷ 4 ∷ []))
  pub no_10_within : BookSays (ascii "start E 1 (p0 | A 1 p1)\n") (refused 10 0 [])
  pub fit_timed : BookSays (ascii "start E 1 p0 | E 1 p1\n") (answered (1 ∷ 7 ∷ []))
  -- 12: no good table
  pub no_12 : (output : List ℕ) (areas : List (List ℕ)) → long_enough make_areas areas ≡ true
      → make_said (make_outcome small_tower (ascii "start F\n") output areas).answer ≡ refused 12 0 []
  -- 13: table not laid out so; target row = rows
  pub no_13 : Judges small_tower [] (with_target 5) (refused 13 0 [])
  pub no_13_followed : follow_said (follow_outcome (with_target 5) 0 0) ≡ refused 13 0 []
  -- 14: not good; a row of state 0 with no step
  pub no_14 : Judges small_tower [] no_step (refused 14 0 (byte "d" ∷ []))
  -- 15: work area too short; length 0
  pub no_15 : (output : List ℕ) (areas : List (List ℕ)) → make_said (make_outcome small_tower (ascii book_1) output ([] ∷ areas)).answer ≡ refused 15 0 []
  -- 16: output too short; 49 bytes for 50
  pub no_16 : (output : List ℕ) (areas : List (List ℕ)) → length output ≡ 49 → long_enough make_areas areas ≡ true
      → make_said (make_outcome small_tower (ascii book_1) output areas).answer ≡ refused 16 0 []
  pub fit_output : (output : List ℕ) (areas : List (List ℕ)) → length output ≡ 50 → long_enough make_areas areas ≡ true
      → make_said (make_outcome small_tower (ascii book_1) output areas).answer ≡ answered (50 ∷ [])
  -- 17: row or action outside the table; row 5 of 5
  pub no_17 : follow_said (follow_outcome table_1 5 0) ≡ refused 17 0 []
  pub no_17_action : follow_said (follow_outcome table_1 0 4) ≡ refused 17 0 []
  pub fit_row : follow_said (follow_outcome table_1 4 0) ≡ answered (1 ∷ [])
  -- 18: action not allowed there; action 0 in row 3
  pub no_18 : follow_said (follow_outcome table_1 3 0) ≡ refused 18 0 []
