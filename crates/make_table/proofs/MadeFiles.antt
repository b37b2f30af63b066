-- The file of a made table is laid out as a table file, and has at most 52,012 bytes.
use Prim.Native.Nat.{ℕ, ◌≤◌}
use mathlib.Core.Path.{◌≡◌, ap, subst}
use mathlib.Core.Bool.{true}
use mathlib.Core.List.{List}
use native.Mathlib.Omega.{arith}
use lib.ListN.{length}
use Rattle.base.specs.Answers.{Answer, ◌then◌}
use Rattle.std.specs.Prelude.{Ok}
use Rattle.base.proofs.Answers.{then_gives}
use Rattle.logic.specs.declared.FileLayout.{FileLayout}
use Rattle.logic.specs.Tower.{Tower, narrow, layout_of}
use Rattle.logic.specs.Book.{Book}
use Rattle.logic.specs.Tables.{Table}
use Rattle.logic.specs.TableFile.{most_rows, rows_at, row_size, step_size, steps_at, table_file}
use Rattle.logic.proofs.TableFile.{Fits, made_fits, fits_few_steps, length_table_file}
use Rattle.reading.specs.TowerReading.{read_tower}
use Rattle.reading.specs.BookReading.{read_book}
use Rattle.reading.specs.TableReading.{laid_out}
use Rattle.reading.proofs.FitInput.{tower_fits}
use Rattle.reading.proofs.TableReading.{file_laid_out}
use Rattle.outcome.specs.Make.{table_for, made_file}
use Rattle.outcome.specs.Calls.{FitFiles}
use Rattle.outcome.proofs.Accepted.{given_table}
use Rattle.outcome.proofs.FitCalls.{makeable}

-- A table that fits has a file of at most 52,012 bytes.
file_short : (layout : FileLayout) (states actions : ℕ) (table : Table) → Fits layout states actions table
    → length (table_file layout states actions table) ≤ 52012
unfolding narrow steps_at rows_at row_size step_size most_rows
file_short layout states actions table fits =
    let same = ap (λ k. steps_at k (length table)) fits.laid.known in
    rw (length_table_file layout states actions table) (omega (arith, same, fits.few_rows, fits_few_steps layout states actions table fits))

-- What is known of the file of a made table.
pub record KnownFile (file : List ℕ) : Type 0 where
  pub short : length file ≤ 52012
  pub laid : laid_out file ≡ true

pub made_known : (tower text file : List ℕ) → made_file tower text ≡ Ok file → KnownFile file
unfolding made_file
made_known tower text file e =
    let (t, is_tower, e₁) = then_gives (read_tower tower) (λ t. read_book t.marks text then λ book. table_for t book then λ table. Ok (table_file (layout_of tower) t.states t.actions table)) e in
    let (book, is_book, e₂) = then_gives (read_book t.marks text) (λ book. table_for t book then λ table. Ok (table_file (layout_of tower) t.states t.actions table)) e₁ in
    let (table, is_table, e₃) = then_gives (table_for t book) (λ table. Ok (table_file (layout_of tower) t.states t.actions table)) e₂ in
    known t book table is_tower is_book is_table e₃
  where
    known : (t : Tower) (book : Book) (table : Table) → read_tower tower ≡ Ok t → read_book t.marks text ≡ Ok book
        → table_for t book ≡ Ok table → ◌≡◌ {A = Answer (List ℕ)} (Ok (table_file (layout_of tower) t.states t.actions table)) (Ok file) → KnownFile file
    known t book table is_tower is_book is_table same =
        let fit : FitFiles tower text t book = record { tower_read = is_tower; book_read = is_book } in
        let given = given_table t book (makeable tower text t book fit) table is_table in
        let fits = made_fits (layout_of tower) t book table (tower_fits tower t is_tower) given.made given.few_rows in
        let is : table_file (layout_of tower) t.states t.actions table ≡ file = cc in
        subst KnownFile is
        (record { short = file_short (layout_of tower) t.states t.actions table fits; laid = file_laid_out (layout_of tower) t.states t.actions table fits })
