-- Outcomes on towers of one action, some of which change if a definition slips: a comparison at equality, the bound that is left out, a mask bit
-- at P, `&` and `|` without brackets.
use Rattle.std.specs.Prelude.{ℕ, ◌≤◌, ◌≡◌, true, List, [], ◌∷◌, length}
use Prim.Native.String.{String}
use Rattle.base.specs.Text.{ascii}
use Rattle.base.specs.Bytes.{long_enough}
use Rattle.base.specs.Answers.{Said, answered, refused, make_said, verdict_said}
use Rattle.outcome.specs.Areas.{make_areas, check_areas}
use Rattle.outcome.specs.Make.{make_outcome}
use Rattle.outcome.specs.Check.{check_outcome}

-- one state with this mask, under three marks, and one action of ours of length 5 that leads back to it
unfoldable pub one_state : ℕ → List ℕ
one_state mask = 1 ∷ 1 ∷ 3 ∷ 0 ∷ 8 ∷ 0 ∷ 10 ∷ 0 ∷ 5 ∷ 1 ∷ mask ∷ 0 ∷ 0 ∷ []

-- two states with these masks, under one mark, and one action of ours of length d that leads to the second state from both
unfoldable pub two_states : ℕ → ℕ → ℕ → List ℕ
two_states d first second = 2 ∷ 1 ∷ 1 ∷ 0 ∷ 8 ∷ 0 ∷ 10 ∷ 0 ∷ d ∷ 1 ∷ first ∷ 0 ∷ 1 ∷ second ∷ 0 ∷ 1 ∷ []

-- p0 holds in the first state alone, or in the second alone
abbrev pub leaves_p0 : ℕ → List ℕ
leaves_p0 d = two_states d 1 0

abbrev pub enters_p0 : ℕ → List ℕ
enters_p0 d = two_states d 0 1

-- What the maker says of this tower and book, with any output of 26 bytes or more and any areas that are long enough.
unfoldable pub Makes : List ℕ → List ℕ → Said → Type 0
Makes tower text said =
    (output : List ℕ) (areas : List (List ℕ)) → 26 ≤ length output → long_enough make_areas areas ≡ true
    → make_said (make_outcome tower text output areas).answer ≡ said

abbrev pub Says : List ℕ → String → Said → Type 0
Says tower book said = Makes tower (ascii book) said

-- What the checker says of this tower, text and table, with any areas that are long enough.
unfoldable pub Judges : List ℕ → List ℕ → List ℕ → Said → Type 0
Judges tower text file said =
    (areas : List (List ℕ)) → long_enough check_areas areas ≡ true → verdict_said (check_outcome tower text file areas).answer ≡ said

-- a table of one row with one step, or of two rows with one step each
abbrev pub one_row : Said
one_row = answered (19 ∷ [])

abbrev pub two_rows : Said
two_rows = answered (26 ∷ [])

-- no good table
abbrev pub no_table : Said
no_table = refused 12 0 []

-- The answers, by what they would meet.
pub record TinyTowerTable : Type 0 where
  -- the action's length is 5: the comparisons at equality, and next to it
  pub less_at : Says (one_state 0) "always N < 5 T\n" no_table
  pub less_below : Says (one_state 0) "always N < 6 T\n" one_row
  pub no_more_at : Says (one_state 0) "always N <= 5 T\n" one_row
  pub no_more_above : Says (one_state 0) "always N <= 4 T\n" no_table
  pub no_less_at : Says (one_state 0) "always N >= 5 T\n" one_row
  pub no_less_below : Says (one_state 0) "always N >= 6 T\n" no_table
  pub more_at : Says (one_state 0) "always N > 5 T\n" no_table
  pub more_above : Says (one_state 0) "always N > 4 T\n" one_row
  -- p0 holds for d ticks: A with no number forbids 20 as 20 does and 19 does not, and allows 21 as 20 does and 21 does not
  pub always_20 : Says (leaves_p0 20) "start A p0\n" no_table
  pub always_20_by_19 : Says (leaves_p0 20) "start A 19 p0\n" two_rows
  pub always_21 : Says (leaves_p0 21) "start A p0\n" two_rows
  pub always_21_by_21 : Says (leaves_p0 21) "start A 21 p0\n" no_table
  -- p0 holds after d ticks: E and U with no number allow 20 as 20 does and 19 does not, and forbid 21 as 20 does and 21 does not
  pub within_20 : Says (enters_p0 20) "start E p0\n" two_rows
  pub within_20_by_19 : Says (enters_p0 20) "start E 19 p0\n" no_table
  pub within_21 : Says (enters_p0 21) "start E p0\n" no_table
  pub within_21_by_21 : Says (enters_p0 21) "start E 21 p0\n" two_rows
  pub until_20 : Says (enters_p0 20) "start U (T, p0)\n" two_rows
  pub until_20_by_19 : Says (enters_p0 20) "start U 19 (T, p0)\n" no_table
  pub until_21 : Says (enters_p0 21) "start U (T, p0)\n" no_table
  pub until_21_by_21 : Says (enters_p0 21) "start U 21 (T, p0)\n" two_rows
  -- P is 3: bit 3 of a mask is refused with 5, bit 2 is mark 2 and no other
  pub bit_3 : Says (one_state 8) "" (refused 5 0 [])
  pub bit_2 : Says (one_state 4) "always p2\n" one_row
  pub bit_2_not_1 : Says (one_state 4) "always p1\n" no_table
  -- `&` joins before `|`: only p0 holds, then only p2
  pub or_and : Says (one_state 1) "always p0 | p1 & p2\n" one_row
  pub or_and_in_brackets : Says (one_state 1) "always (p0 | p1) & p2\n" no_table
  pub and_or : Says (one_state 4) "always p0 & p1 | p2\n" one_row
  pub and_or_in_brackets : Says (one_state 4) "always p0 & (p1 | p2)\n" no_table
