-- What the answer of a call shows, as the statements of the demands speak of it: the tower and the book come out of the files, since an answer
-- says that the files were fit.
use Rattle.std.specs.Prelude.{ℕ, ◌≤◌, ◌<◌, ◌≡◌, ◌↔◌, true, List, ◌++◌, length, take, drop}
use Rattle.base.specs.Bytes.{long_enough}
use Rattle.std.specs.Prelude.{Ok}
use Rattle.base.specs.declared.Refusal.TheVariants.{Output}
use Rattle.std.specs.Prelude.{Err}
use Rattle.logic.specs.Time.{position}
use Rattle.logic.specs.Tower.{Tower, layout_of}
use Rattle.logic.specs.Book.{Book}
use Rattle.logic.specs.Runs.{Unbroken}
use Rattle.logic.specs.Tables.{Table, Allows, Good, GoodAllow, IsMade}
use Rattle.logic.specs.TableFile.{table_file}
use Rattle.reading.specs.TowerReading.{read_tower}
use Rattle.reading.specs.TableReading.{rows_of, table_of}
use Rattle.reading.specs.LogReading.{read_log}
use Rattle.reading.specs.declared.Stroke.{Stroke}
use Rattle.alternatives.specs.Pairs.{most_pairs}
use Rattle.outcome.specs.Areas.{make_areas, check_areas}
use Rattle.outcome.specs.Make.{make_outcome}
use Rattle.outcome.specs.Check.{check_outcome}
use Rattle.outcome.specs.Reached.{ReachedPair, MoreThan, GivesOver}
use Rattle.outcome.specs.Calls.{FitFiles, FitTable}
use Rattle.outcome.specs.LoggedRun.{logged_actions, LoggedRun, FirstMisfit}
use Rattle.outcome.specs.RightAnswer.{SoundTable}

-- The files are fit, and the bytes hold a good table for their tower and their book.
pub record HoldsGood (tower_file text file : List ℕ) : Type 0 where
  pub tower : Tower
  pub book : Book
  pub table : Table
  pub fit : FitFiles tower_file text tower book
  pub laid : FitTable tower file table
  pub good : Good tower book table

-- The files are fit, and no table of any length is good for their tower and their book.
pub record NoneGood (tower_file text : List ℕ) : Type 0 where
  pub tower : Tower
  pub book : Book
  pub fit : FitFiles tower_file text tower book
  pub no_table : (table : Table) → Good tower book table → ⊥

-- The files are fit, and pairs of their tower and their book are reached that count more than 1,000.
pub record TooManyPairs (tower_file text : List ℕ) : Type 0 where
  pub tower : Tower
  pub book : Book
  pub fit : FitFiles tower_file text tower book
  pub many : MoreThan most_pairs (ReachedPair tower book)

-- The files are fit, the pairs that are reached count no more than 1,000, and one of them gives more than 16 alternatives.
pub record TooManyAlternatives (tower_file text : List ℕ) : Type 0 where
  pub tower : Tower
  pub book : Book
  pub fit : FitFiles tower_file text tower book
  pub few : MoreThan most_pairs (ReachedPair tower book) → ⊥
  pub wide : GivesOver tower book

-- The files are fit, the pairs that are reached count no more than 1,000, none of them gives more than 16 alternatives, and the n bytes hold the made
-- table of the logic for their tower and their book. The checker accepts them, and their header gives the number of rows.
pub record MadeWell (tower_file text : List ℕ) (n : ℕ) (file : List ℕ) : Type 0 where
  pub tower : Tower
  pub book : Book
  pub table : Table
  pub fit : FitFiles tower_file text tower book
  pub few : MoreThan most_pairs (ReachedPair tower book) → ⊥
  pub narrow : GivesOver tower book → ⊥
  pub size : length file ≡ n
  pub laid : FitTable tower file table
  pub made : IsMade tower book table
  pub accepted : (areas : List (List ℕ)) → long_enough check_areas areas ≡ true → (check_outcome tower_file text file areas).answer ≡ Ok tt
  pub rows : rows_of file ≡ length table

-- One tower and two books are in the files; what was made from each, n and m bytes, is equal exactly when good tables allow the same runs under
-- both books.
pub record EqualExactly (tower_file text other_text : List ℕ) (n m : ℕ) (file other_file : List ℕ) : Type 0 where
  pub tower : Tower
  pub book : Book
  pub other_book : Book
  pub fit : FitFiles tower_file text tower book
  pub other_fit : FitFiles tower_file other_text tower other_book
  pub exactly : ((n ≡ m) × (file ≡ other_file)) ↔ ((w : List ℕ) → GoodAllow tower book w ↔ GoodAllow tower other_book w)

-- Every table that is good for the tower under any book, and allows just the runs of the table in the bytes, has as many rows as their header
-- gives, or more.
pub record FewestRows (tower_file file : List ℕ) : Type 0 where
  pub tower : Tower
  pub tower_read : read_tower tower_file ≡ Ok tower
  pub fewest : (book : Book) (other : Table) → Good tower book other → ((w : List ℕ) → Allows other w ↔ Allows (table_of file) w)
      → rows_of file ≤ length other

-- The made table is the answer, with any output and any areas that are long enough: written to the front of an output that has room for it, the
-- later bytes as they were; and 16 exactly where the output is shorter.
pub record MakesTable (tower_file text : List ℕ) (tower : Tower) (book : Book) : Type 0 where
  pub table : Table
  pub file : List ℕ
  pub made : IsMade tower book table
  pub its_file : table_file (layout_of tower_file) tower.states tower.actions table ≡ file
  pub answered : (output : List ℕ) (areas : List (List ℕ)) → long_enough make_areas areas ≡ true → length file ≤ length output
      → (make_outcome tower_file text output areas).answer ≡ Ok (length file)
  pub written : (output : List ℕ) (areas : List (List ℕ)) → long_enough make_areas areas ≡ true → length file ≤ length output
      → (make_outcome tower_file text output areas).output ≡ file ++ drop (length file) output
  pub no_room : (output : List ℕ) (areas : List (List ℕ)) → long_enough make_areas areas ≡ true
      → ((make_outcome tower_file text output areas).answer ≡ Err Output) ↔ (length output < length file)

-- The files of tower and table are fit with no reason from a to d, every line of the log is of the form, and the lines are a run of the table with
-- right ticks, which ends in row r.
pub record FinalRow (tower_file file log : List ℕ) (r : ℕ) : Type 0 where
  pub tower : Tower
  pub table : Table
  pub strokes : List Stroke
  pub sound : SoundTable tower_file file tower table
  pub read : read_log log ≡ Ok strokes
  pub run : LoggedRun tower table strokes r

-- So are the files and the lines; those before line k are such a run, and with line k they are none.
pub record NamedLine (tower_file file log : List ℕ) (k : ℕ) : Type 0 where
  pub tower : Tower
  pub table : Table
  pub strokes : List Stroke
  pub sound : SoundTable tower_file file tower table
  pub read : read_log log ≡ Ok strokes
  pub misfit : FirstMisfit tower table strokes (position k)

-- The files are fit, every line of the log is of the form, and its first n lines break no rule of the book.
pub record LogUnbroken (tower_file text log : List ℕ) (n : ℕ) : Type 0 where
  pub tower : Tower
  pub book : Book
  pub strokes : List Stroke
  pub fit : FitFiles tower_file text tower book
  pub read : read_log log ≡ Ok strokes
  pub unbroken : Unbroken tower book (logged_actions (take n strokes))
