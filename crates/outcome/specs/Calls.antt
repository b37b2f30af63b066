-- Calls of the entries, as the statements of the demands speak of them.
use Rattle.std.specs.Prelude.{ℕ, ◌≡◌, List, take}
use Rattle.std.specs.Prelude.{Ok}
use Rattle.logic.specs.Tower.{Tower}
use Rattle.logic.specs.Book.{Book}
use Rattle.logic.specs.Tables.{Table}
use Rattle.reading.specs.TowerReading.{read_tower}
use Rattle.reading.specs.BookReading.{read_book}
use Rattle.reading.specs.TableReading.{read_table}
use Rattle.outcome.specs.Make.{make_outcome}

-- The files are fit: they are those of this tower and this book.
pub record FitFiles (tower_file text : List ℕ) (tower : Tower) (book : Book) : Type 0 where
  pub tower_read : read_tower tower_file ≡ Ok tower
  pub book_read : read_book tower.marks text ≡ Ok book

-- The files are fit: some tower and some book are in them.
pub record Fit (tower_file text : List ℕ) : Type 0 where
  pub tower : Tower
  pub book : Book
  pub fit : FitFiles tower_file text tower book

-- The bytes are laid out as a table for the tower: they are those of this table.
unfoldable pub FitTable : Tower → List ℕ → Table → Type 0
FitTable tower file table = read_table tower file ≡ Ok table

-- A call of the maker, with whatever the output and the lent areas hold, that made a table of n bytes.
pub record MadeCall (tower_file text : List ℕ) (n : ℕ) (file : List ℕ) : Type 0 where
  pub output : List ℕ
  pub areas : List (List ℕ)
  pub answer : (make_outcome tower_file text output areas).answer ≡ Ok n
  pub bytes : take n (make_outcome tower_file text output areas).output ≡ file
