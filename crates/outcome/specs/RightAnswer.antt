-- 01, 'A number is given when its condition holds and nothing before it in the order does, and never else': the answer of each entry and why it
-- is the right one, in the papers' order, without computing what the code computes. Each case takes what the cases before it leave.
use Rattle.std.specs.Prelude.{ℕ, ◌≤◌, ◌<◌, ◌≡◌, ◌⊎◌, true, false, List, length}
use Rattle.std.specs.Prelude.{None}
use Rattle.base.specs.Bytes.{long_enough}
use Rattle.base.specs.Answers.{Answer}
use Rattle.std.specs.Prelude.{Err, Ok}
use Rattle.base.specs.declared.Reason.{Reason}
use Rattle.base.specs.declared.Refusal.{Refusal}
use Rattle.base.specs.declared.Refusal.TheVariants.{Range, Pairs, NoTable, Layout, Area, Output, Outside, NotAllowed, Log, Alternatives}
use Rattle.base.specs.Answers.{BookAnswer, FollowAnswer, LogAnswer, MakeAnswer, Verdict, book_of_size}
use Rattle.base.specs.declared.Rejection.TheVariants as Rejected
use Rattle.base.specs.declared.LogEnd.TheVariants as Ends
use Rattle.logic.specs.declared.Position.{Position}
use Rattle.logic.specs.Tower.{Tower, layout_of, most_marks}
use Rattle.logic.specs.Book.{Book, nodes}
use Rattle.logic.specs.Tables.{Table, move, Good, IsMade}
use Rattle.logic.specs.TableFile.{table_file}
use Rattle.reading.specs.TowerReading.{read_tower}
use Rattle.reading.specs.BookReading.{read_book}
use Rattle.reading.specs.TableReading.{laid_out, rows_of, table_actions, table_of, read_table}
use Rattle.reading.specs.LogReading.{read_log}
use Rattle.reading.specs.declared.Stroke.{Stroke}
use Rattle.alternatives.specs.Pairs.{most_pairs}
use Rattle.outcome.specs.Areas.{book_areas, make_areas, check_areas}
use Rattle.outcome.specs.Check.{Finding, verdict}
use Rattle.outcome.specs.Reached.{ReachedPair, MoreThan, GivesOver}
use Rattle.outcome.specs.Calls.{FitFiles, FitTable}
use Rattle.outcome.specs.VerdictRight.{RightBelow, FirstOfRows, FirstReason}
use Rattle.outcome.specs.FollowChain.{FollowsTo}
use Rattle.outcome.specs.LoggedRun.{LoggedRun, FirstMisfit}

-- The book reader: 15, 2, the book; or the numbers of lines and nodes.
pub data RightRead (marks : ℕ) (text : List ℕ) (areas : List (List ℕ)) : BookAnswer → Type 0 where
  read_area : long_enough book_areas areas ≡ false → RightRead marks text areas (Err Area)
  read_range : long_enough book_areas areas ≡ true → most_marks < marks → RightRead marks text areas (Err Range)
  read_refused : long_enough book_areas areas ≡ true → marks ≤ most_marks → (r : Refusal) → read_book marks text ≡ Err r
      → RightRead marks text areas (Err r)
  read_given : long_enough book_areas areas ≡ true → marks ≤ most_marks → (book : Book) → read_book marks text ≡ Ok book
      → RightRead marks text areas (book_of_size (length book) (length (nodes book)))

-- The maker: 15; the tower; the book; 11; 20; 12; 16; or the length of the made table's file.
pub data RightMake (tower_file text output : List ℕ) (areas : List (List ℕ)) : MakeAnswer → Type 0 where
  make_area : long_enough make_areas areas ≡ false → RightMake tower_file text output areas (Err Area)
  make_tower : long_enough make_areas areas ≡ true → (r : Refusal) → read_tower tower_file ≡ Err r
      → RightMake tower_file text output areas (Err r)
  make_book : long_enough make_areas areas ≡ true → (tower : Tower) (r : Refusal) → read_tower tower_file ≡ Ok tower
      → read_book tower.marks text ≡ Err r → RightMake tower_file text output areas (Err r)
  make_pairs : long_enough make_areas areas ≡ true → (tower : Tower) (book : Book) → FitFiles tower_file text tower book
      → MoreThan most_pairs (ReachedPair tower book) → RightMake tower_file text output areas (Err Pairs)
  make_wide : long_enough make_areas areas ≡ true → (tower : Tower) (book : Book) → FitFiles tower_file text tower book
      → (MoreThan most_pairs (ReachedPair tower book) → ⊥) → GivesOver tower book
      → RightMake tower_file text output areas (Err Alternatives)
  make_none : long_enough make_areas areas ≡ true → (tower : Tower) (book : Book) → FitFiles tower_file text tower book
      → (MoreThan most_pairs (ReachedPair tower book) → ⊥) → (GivesOver tower book → ⊥) → ((table : Table) → Good tower book table → ⊥)
      → RightMake tower_file text output areas (Err NoTable)
  make_room : long_enough make_areas areas ≡ true → (tower : Tower) (book : Book) → FitFiles tower_file text tower book
      → (MoreThan most_pairs (ReachedPair tower book) → ⊥) → (GivesOver tower book → ⊥) → (table : Table) → IsMade tower book table
      → length output < length (table_file (layout_of tower_file) tower.states tower.actions table) → RightMake tower_file text output areas (Err Output)
  make_made : long_enough make_areas areas ≡ true → (tower : Tower) (book : Book) → FitFiles tower_file text tower book
      → (MoreThan most_pairs (ReachedPair tower book) → ⊥) → (GivesOver tower book → ⊥) → (table : Table) → IsMade tower book table
      → length (table_file (layout_of tower_file) tower.states tower.actions table) ≤ length output
      → RightMake tower_file text output areas (Ok (length (table_file (layout_of tower_file) tower.states tower.actions table)))

-- The checker: 15; the tower; the book; 13; and then the first reason a to e that holds, 11 and 20 before e, or good.
pub data RightCheck (tower_file text file : List ℕ) (areas : List (List ℕ)) : Verdict → Type 0 where
  check_area : long_enough check_areas areas ≡ false → RightCheck tower_file text file areas (Err (Rejected.Refused Area))
  check_tower : long_enough check_areas areas ≡ true → (r : Refusal) → read_tower tower_file ≡ Err r
      → RightCheck tower_file text file areas (Err (Rejected.Refused r))
  check_book : long_enough check_areas areas ≡ true → (tower : Tower) (r : Refusal) → read_tower tower_file ≡ Ok tower
      → read_book tower.marks text ≡ Err r → RightCheck tower_file text file areas (Err (Rejected.Refused r))
  check_layout : long_enough check_areas areas ≡ true → (tower : Tower) (book : Book) → FitFiles tower_file text tower book
      → read_table tower file ≡ Err Layout → RightCheck tower_file text file areas (Err (Rejected.Refused Layout))
  check_judged : long_enough check_areas areas ≡ true → (tower : Tower) (book : Book) (table : Table) → FitFiles tower_file text tower book
      → FitTable tower file table → (o : Answer Finding) → FirstReason tower book table o → RightCheck tower_file text file areas (verdict o)

-- The follower: 13, 17, 18, or the target row.
pub data RightFollow (file : List ℕ) (row action : ℕ) : FollowAnswer → Type 0 where
  follow_layout : laid_out file ≡ false → RightFollow file row action (Err Layout)
  follow_outside : laid_out file ≡ true → (rows_of file ≤ row) ⊎ (table_actions file ≤ action) → RightFollow file row action (Err Outside)
  follow_not : laid_out file ≡ true → row < rows_of file → action < table_actions file → move (table_of file) row action ≡ None
      → RightFollow file row action (Err NotAllowed)
  follow_row : (s : ℕ) → FollowsTo file row action s → RightFollow file row action (Ok s)

-- The files of tower and table are fit, and no reason from a to d holds.
pub record SoundTable (tower_file file : List ℕ) (tower : Tower) (table : Table) : Type 0 where
  pub tower_read : read_tower tower_file ≡ Ok tower
  pub laid : FitTable tower file table
  pub right : RightBelow tower table (length table)

-- The log reader (02, item 2): the tower; 13; the first reason a to d; 19; and then the first line that does not fit, or the final row.
pub data RightLogged (tower_file file log : List ℕ) : LogAnswer → Type 0 where
  log_tower : (r : Refusal) → read_tower tower_file ≡ Err r → RightLogged tower_file file log (Err (Rejected.Refused r))
  log_layout : (tower : Tower) → read_tower tower_file ≡ Ok tower → read_table tower file ≡ Err Layout
      → RightLogged tower_file file log (Err (Rejected.Refused Layout))
  log_reason : (tower : Tower) (table : Table) → read_tower tower_file ≡ Ok tower → FitTable tower file table → (q : Reason)
      → FirstOfRows tower table q → RightLogged tower_file file log (Err (Rejected.NotGood q))
  log_form : (tower : Tower) (table : Table) → SoundTable tower_file file tower table → (line : ℕ) → read_log log ≡ Err (Log line)
      → RightLogged tower_file file log (Err (Rejected.Refused (Log line)))
  log_misfit : (tower : Tower) (table : Table) → SoundTable tower_file file tower table → (strokes : List Stroke) → read_log log ≡ Ok strokes
      → (n : Position) → FirstMisfit tower table strokes n → RightLogged tower_file file log (Ok (Ends.Line n.0))
  log_fits : (tower : Tower) (table : Table) → SoundTable tower_file file tower table → (strokes : List Stroke) → read_log log ≡ Ok strokes
      → (r : ℕ) → LoggedRun tower table strokes r → RightLogged tower_file file log (Ok (Ends.Row r))
