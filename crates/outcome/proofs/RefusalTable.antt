-- The examples of the table of refusals, by computing the definitions.
use Prim.Native.Nat.{ℕ, ◌≤◌}
use mathlib.Core.Path.{◌≡◌, refl, ◌∙◌, ap}
use mathlib.Core.List.{List, [], ◌∷◌, ◌++◌}
use native.Mathlib.Omega.{arith}
use lib.ListN.{length, take}
use Rattle.base.specs.Text.{ascii}
use Rattle.base.specs.Bytes.{long_enough}
use Rattle.base.specs.Answers.{answered, refusal_said, book_said, make_said, follow_said, Answer}
use Rattle.std.specs.Prelude.{Err, Ok}
use Rattle.base.specs.declared.Refusal.{Refusal}
use Rattle.base.specs.declared.Refusal.TheVariants.{TowerSize, Range, Action, Target, Mask, NoTable, Layout}
use Rattle.base.specs.declared.Reason.TheVariants.{Stopped}
use Rattle.logic.specs.Book.{Book}
use Rattle.outcome.specs.Areas.{book_areas, make_areas}
use Rattle.outcome.specs.ReadBook.{book_answer, book_under}
use Rattle.outcome.specs.Make.{made_file}
use Rattle.outcome.specs.Check.{not_good}
use Rattle.outcome.specs.Follow.{stepped, row_after, follow_answer, follow_outcome}
use Rattle.outcome.specs.SmallTower.{small_tower, book_1, table_1, table_5}
use Rattle.outcome.specs.RefusalTable.{TowerSays, BookSays, with_byte, true_lines, spaced, in_brackets, no_step, with_target, RefusalTable}
use Rattle.outcome.proofs.ElevenOutcomes.{opened, file_1}
use Rattle.outcome.proofs.Refusals.{book_enough, make_short}
use Rattle.outcome.proofs.FitCalls.{file_answered, file_no_room}
use Rattle.outcome.proofs.Answering.{made_refused}
use Rattle.outcome.proofs.TinyTowers.{judges}

-- a refusal of a tower is said, and a file that is made by its length
tower_not : (tower : List ℕ) (r : Refusal) → made_file tower [] ≡ Err r → TowerSays tower (refusal_said r)
unfolding TowerSays make_said
tower_not tower r e output areas room enough = ap make_said (made_refused tower [] output areas enough r e)

tower_fit : (tower file : List ℕ) → length file ≤ 50 → made_file tower [] ≡ Ok file → TowerSays tower (answered (length file ∷ []))
unfolding TowerSays make_said
tower_fit tower file few e output areas room enough = ap make_said (file_answered tower [] output areas file enough e (omega arith))

-- a book is said as it is read
book_as : (text : List ℕ) (o : Answer Book) → book_under 3 text ≡ o → BookSays text (book_said (book_answer o))
unfolding BookSays
book_as text o e areas enough = ap book_said ((book_enough 3 text areas enough).0 ∙ ap book_answer e)

-- All of them.
pub refusal_table : RefusalTable
unfolding opened TowerSays BookSays with_byte true_lines spaced in_brackets no_step with_target table_1 table_5 book_areas make_areas long_enough book_said book_answer book_under follow_said follow_outcome follow_answer row_after stepped
refusal_table =
    record {
      no_1 = tower_not (take 7 small_tower) TowerSize refl;
      no_1_shorter = tower_not (take 33 small_tower) TowerSize refl;
      no_1_longer = tower_not (small_tower ++ (0 ∷ [])) TowerSize refl;
      no_1_offset = tower_not (with_byte 4 9) TowerSize refl;
      fit_tower = tower_fit small_tower table_5 (omega arith) refl;
      no_2 = tower_not (with_byte 0 0) Range refl;
      no_2_states = tower_not (with_byte 0 201) Range refl;
      in_range_states = tower_not (with_byte 0 200) TowerSize refl;
      no_2_actions = tower_not (with_byte 1 17) Range refl;
      in_range_actions = tower_not (with_byte 1 16) TowerSize refl;
      no_2_start = tower_not (with_byte 3 3) Range refl;
      no_2_marks = tower_not (with_byte 2 17) Range refl;
      fit_marks = tower_fit (with_byte 2 16) table_5 (omega arith) refl;
      no_3 = tower_not (with_byte 8 0) Action refl;
      no_3_kind = tower_not (with_byte 9 3) Action refl;
      fit_kind = tower_fit (with_byte 9 2) table_5 (omega arith) refl;
      fit_length = tower_fit (with_byte 8 255) table_5 (omega arith) refl;
      no_4 = tower_not (with_byte 20 3) Target refl;
      no_4_high = tower_not (with_byte 20 254) Target refl;
      no_5 = tower_not (with_byte 16 8) Mask refl;
      fit_mask = tower_fit (with_byte 16 7) table_5 (omega arith) refl;
      no_6 = book_as (ascii "always &\n") (book_under 3 (ascii "always &\n")) refl;
      no_6_next_line = book_as (ascii "start T\nalways T\n&\n") (book_under 3 (ascii "start T\nalways T\n&\n")) refl;
      no_6_not_ended = book_as (ascii "start T") (book_under 3 (ascii "start T")) refl;
      no_7 = book_as (ascii "start A 255 T\n") (book_under 3 (ascii "start A 255 T\n")) refl;
      fit_number = book_as (ascii "start A 254 T\n") (book_under 3 (ascii "start A 254 T\n")) refl;
      no_8 = book_as (ascii "start p3\n") (book_under 3 (ascii "start p3\n")) refl;
      fit_mark = book_as (ascii "start p2\n") (book_under 3 (ascii "start p2\n")) refl;
      no_9_bytes = book_as (spaced 4090) (book_under 3 (spaced 4090)) refl;
      fit_bytes = book_as (spaced 4089) (book_under 3 (spaced 4089)) refl;
      no_9 = book_as (true_lines 61) (book_under 3 (true_lines 61)) refl;
      fit_nodes = book_as (true_lines 60) (book_under 3 (true_lines 60)) refl;
      no_9_brackets = book_as (in_brackets 17) (book_under 3 (in_brackets 17)) refl;
      fit_brackets = book_as (in_brackets 16) (book_under 3 (in_brackets 16)) refl;
      no_10 = book_as (ascii "start U 1 (T, E 1 p0)\n") (book_under 3 (ascii "start U 1 (T, E 1 p0)\n")) refl;
      fit_until = book_as (ascii "start U 1 (A 1 p0, T)\n") (book_under 3 (ascii "start U 1 (A 1 p0, T)\n")) refl;
      no_10_within = book_as (ascii "start E 1 (p0 | A 1 p1)\n") (book_under 3 (ascii "start E 1 (p0 | A 1 p1)\n")) refl;
      fit_timed = book_as (ascii "start E 1 p0 | E 1 p1\n") (book_under 3 (ascii "start E 1 p0 | E 1 p1\n")) refl;
      no_13 = judges small_tower [] (with_target 5) (Err Layout) refl;
      no_13_followed = refl;
      no_14 = judges small_tower [] no_step (Ok (not_good (Stopped 0))) refl;
      no_17 = refl;
      no_17_action = refl;
      fit_row = refl;
      no_18 = refl;
      no_12 = λ output areas enough. ap make_said (made_refused small_tower (ascii "start F\n") output areas enough NoTable refl);
      no_15 = λ output areas. ap make_said (make_short small_tower (ascii book_1) output ([] ∷ areas) refl).0;
      no_16 = λ output areas size enough. ap make_said (file_no_room small_tower (ascii book_1) output areas table_1 enough file_1 (omega arith));
      fit_output = λ output areas size enough. ap make_said (file_answered small_tower (ascii book_1) output areas table_1 enough file_1 (omega arith));
    }
