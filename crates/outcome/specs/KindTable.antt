-- 02, item 1: what the kinds of actions mean, in outcomes on a tower of one state. Some of them change if a definition takes one kind for another.
use Rattle.std.specs.Prelude.{ℕ, List, [], ◌∷◌}
use Prim.Native.String.{String}
use Rattle.base.specs.Text.{byte, ascii}
use Rattle.base.specs.Answers.{answered, refused}
use Rattle.outcome.specs.TinyTowers.{Says, Judges, one_row, no_table}

-- one state, and two actions of these kinds that lead back to it, the first of one tick and the second of two
unfoldable pub two_kinds : ℕ → ℕ → List ℕ
two_kinds first second = 1 ∷ 2 ∷ 0 ∷ 0 ∷ 8 ∷ 0 ∷ 12 ∷ 0 ∷ 1 ∷ first ∷ 2 ∷ second ∷ 0 ∷ 0 ∷ 0 ∷ 0 ∷ []

-- a rule that the second action breaks
abbrev pub one_tick : String
one_tick = "always N <= 1 T\n"

-- the table of one row that allows the first action alone, and the one that allows both
unfoldable pub first_alone : List ℕ
first_alone =
    1 ∷ 0 ∷ 1 ∷ 0 ∷ 12 ∷ 0 ∷ 16 ∷ 0 ∷ 1 ∷ 0 ∷ 2 ∷ 0
    ∷ 0 ∷ 1 ∷ 0 ∷ 0
    ∷ 0 ∷ 0 ∷ 0
    ∷ []

unfoldable pub both : List ℕ
both =
    1 ∷ 0 ∷ 2 ∷ 0 ∷ 12 ∷ 0 ∷ 16 ∷ 0 ∷ 1 ∷ 0 ∷ 2 ∷ 0
    ∷ 0 ∷ 2 ∷ 0 ∷ 0
    ∷ 0 ∷ 0 ∷ 0 ∷ 1 ∷ 0 ∷ 0
    ∷ []

-- The answers. Under the rule a table may allow the first action alone, or there is none.
pub record KindTable : Type 0 where
  -- the second action is ours and withheld; the row goes on by what is ours or sure to come, and not by the player alone
  pub by_player : Says (two_kinds 0 1) one_tick no_table
  pub by_us : Says (two_kinds 1 1) one_tick one_row
  pub by_clock : Says (two_kinds 2 1) one_tick one_row
  pub by_player_judged : Judges (two_kinds 0 1) (ascii one_tick) first_alone (refused 14 0 (byte "d" ∷ []))
  pub by_us_judged : Judges (two_kinds 1 1) (ascii one_tick) first_alone (answered [])
  pub by_clock_judged : Judges (two_kinds 2 1) (ascii one_tick) first_alone (answered [])
  -- the second action may not be withheld
  pub player_withheld : Says (two_kinds 1 0) one_tick no_table
  pub clock_withheld : Says (two_kinds 1 2) one_tick no_table
  pub player_withheld_judged : Judges (two_kinds 1 0) (ascii one_tick) first_alone (refused 14 0 (byte "b" ∷ []))
  pub clock_withheld_judged : Judges (two_kinds 1 2) (ascii one_tick) first_alone (refused 14 0 (byte "b" ∷ []))
  -- with no rule: the player alone has stopped, and the clock beside the player goes on
  pub player_alone : Says (two_kinds 0 0) "" no_table
  pub clock_beside : Says (two_kinds 0 2) "" (answered (22 ∷ []))
  -- refusal 3 begins above kind 2
  pub kind_3 : Says (two_kinds 1 3) "" (refused 3 0 [])
