-- 02, item 3: what a `|` with two timed sides means, in outcomes on towers of one action. Some of them change if a definition slips: a side that
-- is passed over, 16 alternatives or 17, a part that is looked at or not, 20 before 12 and 14 e. The action of `one_state` takes 5 ticks.
use Rattle.std.specs.Prelude.{ℕ, ◌-◌, List, [], ◌∷◌, ◌++◌, replicate}
use Prim.Native.String.{String}
use Rattle.base.specs.Lists.{joined}
use Rattle.base.specs.Text.{byte, ascii}
use Rattle.base.specs.Answers.{Said, answered, refused}
use Rattle.outcome.specs.TinyTowers.{one_state, leaves_p0, enters_p0, Makes, Says, Judges, one_row, two_rows, no_table}

-- `A 9 T | A 9 T | ..`, with n sides: n alternatives, of which none asks no more than another
unfoldable pub sides : ℕ → List ℕ
sides n = ascii "A 9 T" ++ joined (replicate (n - 1) (ascii " | A 9 T"))

-- a text with them in it
unfoldable pub around : String → ℕ → String → List ℕ
around before n behind = ascii before ++ (sides n ++ ascii behind)

-- the table of one row with one step, under one action
unfoldable pub one_step : List ℕ
one_step =
    1 ∷ 0 ∷ 1 ∷ 0 ∷ 12 ∷ 0 ∷ 16 ∷ 0 ∷ 1 ∷ 0 ∷ 1 ∷ 0
    ∷ 0 ∷ 1 ∷ 0 ∷ 0
    ∷ 0 ∷ 0 ∷ 0
    ∷ []

-- over 16 alternatives
abbrev pub too_many : Said
too_many = refused 20 0 []

-- The answers, by what they would meet.
pub record SideTable : Type 0 where
  -- either side will do: only p0 holds, then only p1, both, none of them
  pub first_side : Says (one_state 1) "start A 9 p0 | A 9 p1\n" one_row
  pub second_side : Says (one_state 2) "start A 9 p0 | A 9 p1\n" one_row
  pub both_sides : Says (one_state 3) "always A 9 p0 | A 9 p1\n" one_row
  pub no_side : Says (one_state 4) "start A 9 p0 | A 9 p1\n" no_table
  pub side_judged : Judges (one_state 2) (ascii "start A 9 p0 | A 9 p1\n") one_step (answered [])
  pub no_side_judged : Judges (one_state 4) (ascii "start A 9 p0 | A 9 p1\n") one_step (refused 14 0 (byte "e" ∷ []))
  -- p0 holds after d ticks: the later of two deadlines will do, on either side
  pub later_second : Says (enters_p0 6) "start E 4 p0 | E 6 p0\n" two_rows
  pub later_first : Says (enters_p0 6) "start E 6 p0 | E 4 p0\n" two_rows
  pub too_late : Says (enters_p0 7) "start E 4 p0 | E 6 p0\n" no_table
  -- p0 holds for d ticks and no longer: one side breaks at once and the other later, which is no way to meet either
  pub one_then_other : Says (leaves_p0 9) "start A 9 !p0 | A 9 p0\n" no_table
  pub other_ended : Says (leaves_p0 10) "start A 9 !p0 | A 9 p0\n" two_rows
  -- 16 alternatives are let through, 17 are not; where the last side asks nothing, the others are dropped
  pub sixteen : Makes (one_state 0) (around "start " 16 "\n") one_row
  pub seventeen : Makes (one_state 0) (around "start " 17 "\n") too_many
  pub all_dropped : Makes (one_state 0) (around "start " 16 " | A 4 T\n") one_row
  -- the timed side of `|` is not looked at where the untimed side holds
  pub untimed_holds : Makes (one_state 1) (around "start p0 | (" 17 ")\n") one_row
  pub untimed_fails : Makes (one_state 0) (around "start p0 | (" 17 ")\n") too_many
  -- nor the first part of U where it ends or breaks
  pub until_ends : Makes (one_state 1) (around "start U 5 (" 17 ", p0)\n") one_row
  pub until_breaks : Makes (one_state 0) (around "start U 4 (" 17 ", p0)\n") no_table
  pub until_stays : Makes (one_state 0) (around "start U 5 (" 17 ", p0)\n") too_many
  -- both sides of `&` are, and every line, though another has broken: 20 comes before 12, and before 14 e
  pub broken_side : Makes (one_state 0) (around "start F & (" 17 ")\n") too_many
  pub broken_line : Makes (one_state 0) (around "start F\nstart " 17 "\n") too_many
  pub broken_judged : Judges (one_state 0) (around "start F\nstart " 17 "\n") one_step too_many
