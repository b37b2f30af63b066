-- 01, 'Small-tower table': the eleven outcomes, proved as one table by computing the definitions that the entries' contracts cite.
use Prim.Native.Nat.{ℕ, ◌≤◌}
use Prim.Native.String.{String}
use mathlib.Core.Path.{◌≡◌, refl, sym, ◌∙◌, ap, subst}
use mathlib.Core.Bool.{true}
use Rattle.base.specs.Options.{bind}
use mathlib.Core.List.{List, ◌++◌}
use native.Mathlib.Omega.{arith}
use native.Mathlib.Nat.{zero-add}
use lib.ListN.{length, take, drop}
use lib.Seq.{sets, sets-eq, take_at}
use borrow.Author.Tests.{le-ltb}
use Rattle.base.proofs.Answers.{if_on}
use Rattle.base.specs.Answers.{Answer}
use Rattle.std.specs.Prelude.{Err, Ok}
use Rattle.base.specs.declared.Refusal.TheVariants.{NoTable, Output}
use Rattle.base.specs.declared.Reason.TheVariants.{Broken}
use Rattle.outcome.specs.SmallTower.{small_tower, book_1, book_2, book_3, book_4, book_5, book_6, book_7, book_8, book_9, book_10, made, table, checked, table_1, table_5, table_6, table_7, MadeTable, NotMade, TurnedDown, SmallTowerTable}
use Rattle.base.specs.Answers.{refusal_said, reason_said, make_said, verdict_said, ◌if◌else◌, ◌then◌}
use Rattle.base.specs.Bytes.{number_at, number_bytes, long_enough, cleared}
use Rattle.base.specs.Lists.{every, some_of, count_from, below, present, total, is_there, there_with, only_if, same_option, same_list, place_of, joined, leading, begins}
use Rattle.base.specs.Recursion.{to_depth, run}
use Rattle.base.specs.Search.{new_ones, search_on, search_from, rest_round}
use Rattle.base.specs.Text.{byte, ascii}
use Rattle.logic.specs.Book.{compares, within, timed, timed_right, parts, size, nodes, second_part, first_part}
use Rattle.logic.specs.TableFile.{most_rows, rows_at, row_size, step_size, steps_at, all_steps, step_bytes, row_bytes, header_bytes, table_file}
use Rattle.logic.specs.Tables.{row_at, step_to, move, rows_tower}
use Rattle.logic.specs.Time.{minus, at_most, same_ticks, longer, shorter}
use Rattle.logic.specs.Tower.{controllable, goes_on, last_kind, most_actions, most_marks, in_range, narrow, layout_of, states_of, start_of, actions_offset, states_offset, states_at, state_size, state_at, length_of, kind_of, mask_of, target_of, not_enabled, bit, no_header, bad_counts, bad_size, bad_actions, bad_targets, bad_masks, tower_of}
use Rattle.reading.specs.BookReading.{most_bytes, most_nodes, most_brackets, most_ticks, usual_bound, ended, worded, line_at, over_number, over_mark, over_limit, judge_line, lines_step, read_lines, read_book}
use Rattle.reading.specs.Grammar.{connectives, connective, onward, behind, bounded, compared_with, number_or_usual, bound_at, formula_one, formula_two, joining, bracketed, two_parts, with_bound, led, marked_unit, unit_at, read_level, read_step, rank, calls_left, formula_at}
use Rattle.reading.specs.TableReading.{table_layout, rows_of, steps_of, row_place, row_state, row_count, row_first, step_place, step_action, step_target, header_right, steps_right, rows_right, laid_out, step_of, row_of_table, table_of, read_table}
use Rattle.reading.specs.Tokens.{stands, skip, is_digit, digits, value, numeral, number_token, mark_named, mark_at, mark_token, with_equals, comparison_token}
use Rattle.reading.specs.TowerReading.{read_tower}
use Rattle.pending.specs.Pending.{same_pending, holds, fresh, merge, coming, put, root, none_pending, begin_rule, begin_rules, first_pending}
use Rattle.alternatives.specs.Least.{without, placed, with_one_more, with_more, least}
use Rattle.alternatives.specs.Alternatives.{first_cell, later_cells, no_more_ticks, no_more_cell, asks_no_more, cell_number, earlier, set_of, both_cells, both, together, most_alternatives, counted, combined, joined_with}
use Rattle.alternatives.specs.Progression.{nothing_pending, alone_pending, if_so, alternatives_of, combined_nodes, combined_rule, combined_rules, alternatives_behind, joined_behind, progressed_set, first_set}
use Rattle.outcome.specs.Areas.{check_areas, make_areas}
use Rattle.outcome.specs.Check.{not_good, ◌found_if◌else◌, wrong_start, withheld, wrong_step, stopped, judge_row, judge_rows, over_items, broken_step, breaks, some_broken, judge, checked_file, verdict, check_outcome}
use Rattle.outcome.specs.Game.{forced_right, can_go, fine, safe_through, last_removal, safe, safe_step}
use Rattle.outcome.specs.Make.{table_for, made_file, fitting, written, make_outcome}
use Rattle.alternatives.specs.Pairs.{same_pair, pair_weight, most_pairs, first_pair, alternatives_by, pair_at, tried_step, is_over, over_full, pair_step, pair_followers, pairs, over_pairs, over_alternatives}
use Rattle.outcome.specs.Rows.{alike_for, twos, last_split, one_row, safe_followers, row_pairs, row_step, made_row, made_table}

-- the file of the table for the small tower and a book, or the refusal
abbrev file_for : String → Answer (List ℕ)
file_for book = made_file small_tower (ascii book)

-- every definition on the way from bytes to bytes, opened
unfoldable pub opened : Answer (List ℕ)
unfolding small_tower bind refusal_said reason_said make_said verdict_said ◌if◌else◌ ◌then◌ number_at number_bytes every some_of count_from below present total is_there there_with only_if same_option same_list place_of joined leading begins to_depth run new_ones search_on search_from rest_round ascii compares within timed timed_right parts size nodes second_part first_part most_rows rows_at row_size step_size steps_at all_steps step_bytes row_bytes header_bytes table_file row_at step_to move rows_tower minus at_most same_ticks longer shorter controllable goes_on last_kind most_actions most_marks in_range narrow layout_of states_of start_of actions_offset states_offset states_at state_size state_at length_of kind_of mask_of target_of not_enabled bit no_header bad_counts bad_size bad_actions bad_targets bad_masks tower_of most_bytes most_nodes most_brackets most_ticks ended worded line_at over_number over_mark over_limit judge_line lines_step read_lines read_book connectives connective usual_bound onward behind bounded compared_with number_or_usual bound_at formula_one formula_two joining bracketed two_parts with_bound led marked_unit unit_at read_level read_step rank calls_left formula_at table_layout row_place row_state row_count row_first step_place step_action step_target header_right steps_right rows_right laid_out step_of row_of_table table_of read_table stands skip is_digit digits value numeral number_token mark_named mark_at mark_token with_equals comparison_token read_tower same_pending holds fresh merge coming put root none_pending begin_rule begin_rules first_pending without placed with_one_more with_more least first_cell later_cells no_more_ticks no_more_cell asks_no_more cell_number earlier set_of both_cells both together most_alternatives counted combined joined_with nothing_pending alone_pending if_so alternatives_of combined_nodes combined_rule combined_rules alternatives_behind joined_behind progressed_set first_set ◌found_if◌else◌ wrong_start withheld wrong_step stopped judge_row judge_rows over_items broken_step breaks some_broken judge checked_file verdict forced_right can_go fine safe_through last_removal safe safe_step table_for made_file fitting same_pair pair_weight most_pairs first_pair alternatives_by pair_at tried_step is_over over_full pair_step pair_followers pairs over_pairs over_alternatives alike_for twos last_split one_row safe_followers row_pairs row_step made_row made_table
opened = Err NoTable

pub file_1 : file_for book_1 ≡ Ok table_1
unfolding opened table_1
file_1 = refl

file_2 : file_for book_2 ≡ Ok table_1
unfolding opened table_1
file_2 = refl

file_3 : file_for book_3 ≡ Ok table_1
unfolding opened table_1
file_3 = refl

file_4 : file_for book_4 ≡ Err NoTable
unfolding opened
file_4 = refl

file_5 : file_for book_5 ≡ Ok table_5
unfolding opened table_5
file_5 = refl

file_6 : file_for book_6 ≡ Ok table_6
unfolding opened table_6
file_6 = refl

file_7 : file_for book_7 ≡ Ok table_7
unfolding opened table_7
file_7 = refl

file_8 : file_for book_8 ≡ Ok table_5
unfolding opened table_5
file_8 = refl

file_9 : file_for book_9 ≡ Err NoTable
unfolding opened
file_9 = refl

file_10 : file_for book_10 ≡ Ok table_5
unfolding opened table_5
file_10 = refl

check_11 : checked_file small_tower (ascii book_1) table_5 ≡ Ok (not_good Broken)
unfolding opened table_5
check_11 = refl

module _ (output : List ℕ) (areas lent : List (List ℕ)) (room : 50 ≤ length output) (enough : long_enough make_areas areas ≡ true)
    (lent_enough : long_enough check_areas lent ≡ true) where
  -- with areas that are long enough, the outcome is what the file, or its refusal, makes of the output
  ends : (book : String) (answer : Answer (List ℕ)) → file_for book ≡ answer
      → made output areas book ≡ written (answer then λ file. fitting (length output) file) output (cleared areas)
  unfolding made make_outcome
  ends book answer e = rw (enough, e)

  pub ends_made : (book : String) (file : List ℕ) → length file ≤ 50 → file_for book ≡ Ok file
      → made output areas book ≡ written (Ok file) output (cleared areas)
  unfolding ◌then◌ fitting
  ends_made book file few e =
      ends book (Ok file) e
      ∙ ap (λ o. written o output (cleared areas)) (if_on Output (Ok file) (le-ltb (length output) (length file) (omega arith)))

  -- a file in front of the output, and the output behind it
  front : (file : List ℕ) → length file ≤ 50 → sets output 0 file ≡ file ++ drop (length file) output
  front file few = sets-eq file output 0 (omega arith) ∙ ap (λ k. file ++ drop k output) (zero-add (length file))

  begins_so : (file : List ℕ) → length file ≤ 50 → take (length file) (sets output 0 file) ≡ file
  begins_so file few = ap (take (length file)) (front file few) ∙ take_at file (drop (length file) output) (length file) refl

  made_so : (book : String) (file : List ℕ) (r s : ℕ) → length file ≤ 50 → file_for book ≡ Ok file
      → rows_of file ≡ r → steps_of file ≡ s → MadeTable output areas book (length file) r s
  unfolding written make_said table
  made_so book file r s few e rows steps =
      record {
        said = rw (ends_made book file few e);
        rows = rw (ends_made book file few e, begins_so file few) rows;
        steps = rw (ends_made book file few e, begins_so file few) steps;
        behind = rw (ends_made book file few e, begins_so file few) (front file few);
        clear = rw (ends_made book file few e);
      }

  not_made_so : (book : String) → file_for book ≡ Err NoTable → NotMade output areas book 12
  unfolding written make_said refusal_said ◌then◌
  not_made_so book e =
      record {
        said = rw (ends book (Err NoTable) e);
        unchanged = rw (ends book (Err NoTable) e);
        clear = rw (ends book (Err NoTable) e);
      }

  same_so : (one two : String) (answer : Answer (List ℕ)) → file_for one ≡ answer → file_for two ≡ answer
      → made output areas one ≡ made output areas two
  same_so one two answer e f = ends one answer e ∙ sym (ends two answer f)

  -- the bytes of a made table are its file
  pub bytes_so : (book : String) (file : List ℕ) → length file ≤ 50 → file_for book ≡ Ok file → table (length file) output areas book ≡ file
  unfolding written table
  bytes_so book file few e = rw (ends_made book file few e) (begins_so file few)

  turned_down_so : (book : String) (file : List ℕ) → checked_file small_tower (ascii book) file ≡ Ok (not_good Broken)
      → TurnedDown file lent book (byte "e")
  unfolding checked check_outcome verdict verdict_said reason_said
  turned_down_so book file e = record { said = rw (lent_enough, e); clear = rw lent_enough }

  pub eleven_outcomes : SmallTowerTable output areas lent
  unfolding table_1 table_5 table_6 table_7 number_at
  eleven_outcomes =
      record {
        outcome_1 = made_so book_1 table_1 5 6 (omega arith) file_1 refl refl;
        bytes_1 = bytes_so book_1 table_1 (omega arith) file_1;
        outcome_2 = same_so book_2 book_1 (Ok table_1) file_2 file_1;
        outcome_3 = same_so book_3 book_1 (Ok table_1) file_3 file_1;
        outcome_4 = not_made_so book_4 file_4;
        outcome_5 = made_so book_5 table_5 3 4 (omega arith) file_5 refl refl;
        outcome_6 = made_so book_6 table_6 2 2 (omega arith) file_6 refl refl;
        outcome_7 = made_so book_7 table_7 4 5 (omega arith) file_7 refl refl;
        outcome_8 = same_so book_8 book_5 (Ok table_5) file_8 file_5;
        outcome_9 = not_made_so book_9 file_9;
        outcome_10 = same_so book_10 book_5 (Ok table_5) file_10 file_5;
        outcome_11 =
            subst (λ bytes. TurnedDown bytes lent book_1 (byte "e")) (sym (bytes_so book_5 table_5 (omega arith) file_5))
            (turned_down_so book_1 table_5 check_11);
      }
