-- 01, 'Small-tower table', outcome 11, by item 4 of 02: the table of book 5 under book 1 is turned down with 14 e, and this run shows why. Computed out
-- of the definitions that the entry's contract cites.
use Prim.Native.Nat.{ℕ, ◌≤◌, ◌<◌}
use mathlib.Core.Path.{◌≡◌, refl, ◌∙◌, ap}
use mathlib.Core.Bool.{true}
use mathlib.Core.List.{List, [], ◌∷◌}
use lib.ListN.{length, drop}
use borrow.Author.Tests.{lt-ltb, le-ltb}
use Rattle.base.specs.Text.{ascii}
use Rattle.base.specs.Bytes.{long_enough}
use Rattle.base.specs.Answers.{Answer}
use Rattle.std.specs.Prelude.{Err, Ok}
use Rattle.base.specs.declared.Refusal.TheVariants.{NoTable, Output}
use Rattle.base.specs.Answers.{run_shown}
use Rattle.base.specs.declared.Rejection.TheVariants as Rejected
use Rattle.base.proofs.Answers.{if_on, if_refuses}
use Rattle.logic.specs.Time.{position}
use Rattle.logic.specs.Runs.{trace_from, trace, duration}
use Rattle.logic.specs.Why.{rule_at}
use Rattle.judging.specs.Judging.{passes_for, passes_until, if_left, judged, judged_at, lowest_position, judged_rule, judged_broken, lowest_line, broken_place}
use Rattle.first_runs.specs.FirstRun.{first_of, or_else, runs_by, runs_of, first_run}
use Rattle.outcome.specs.Areas.{check_areas}
use Rattle.outcome.specs.SmallTower.{small_tower, book_1, table_5}
use Rattle.outcome.proofs.ElevenOutcomes.{opened}
use Rattle.why_outcome.specs.Why.{Shown, shows, shown_run, place_in, shown_of, shown_in, why_behind, why_file, why_answer, why_list, why_outcome}
use Rattle.why_outcome.proofs.Answering.{why_enough}

-- the run 0 1 0 1, which goes from state 0 to state 1 and back twice: line 1 asks for mark 2 within 3 ticks of position 0
abbrev pub turned : Shown
turned = record { run = 0 ∷ 1 ∷ 0 ∷ 1 ∷ []; line = 1; place = position 0 }

-- every definition on the way from a finding to what is shown, opened
unfoldable pub judged_open : Answer (List ℕ)
unfolding opened trace_from trace duration rule_at passes_for passes_until if_left judged judged_at lowest_position judged_rule judged_broken lowest_line broken_place first_of or_else runs_by runs_of first_run shown_run place_in shown_of why_behind why_file
judged_open = Err NoTable

small_file : (room : ℕ) → why_file small_tower (ascii book_1) table_5 room ≡ shown_in room turned
unfolding judged_open table_5
small_file room = refl

module _ (list : List ℕ) (areas : List (List ℕ)) (enough : long_enough check_areas areas ≡ true) where
  -- A list of 4 bytes or more receives the run; its later bytes stay.
  pub small_shown : 4 ≤ length list
      → ((why_outcome small_tower (ascii book_1) table_5 list areas).answer ≡ run_shown 4 1 0)
      × ((why_outcome small_tower (ascii book_1) table_5 list areas).list ≡ 0 ∷ 1 ∷ 0 ∷ 1 ∷ drop 4 list)
  unfolding shown_in why_answer why_list
  small_shown long =
      let (answer, holds, zero) = why_enough small_tower (ascii book_1) table_5 list areas enough in
      let file = small_file (length list) ∙ if_on Output (Ok (shows turned)) (le-ltb (length list) 4 long) in
      (answer ∙ ap why_answer file, holds ∙ ap (λ o. why_list o list) file)

  -- A shorter one is refused with 16, and stays.
  pub small_room : length list < 4
      → ((why_outcome small_tower (ascii book_1) table_5 list areas).answer ≡ Err (Rejected.Refused Output))
      × ((why_outcome small_tower (ascii book_1) table_5 list areas).list ≡ list)
  unfolding shown_in why_answer why_list
  small_room short =
      let (answer, holds, zero) = why_enough small_tower (ascii book_1) table_5 list areas enough in
      let file = small_file (length list) ∙ if_refuses Output (Ok (shows turned)) (lt-ltb (length list) 4 short) in
      (answer ∙ ap why_answer file, holds ∙ ap (λ o. why_list o list) file)
