-- Table files are read as they are written: the file of a table that fits is laid out and holds that table, and laid out bytes are the file
-- of the table that they hold.
use Prim.Native.Nat.{ℕ, ◌≤◌}
use mathlib.Core.Path.{◌≡◌, sym, ◌∙◌, ap}
use mathlib.Core.Logic.{◌↔◌}
use mathlib.Core.Bool.{true}
use mathlib.Core.List.{List, ◌++◌, map, Memᴰ}
use lib.ListN.{length, drop}
use Rattle.base.specs.Lists.{joined, below, count_from}
use Rattle.base.proofs.Bytes.{AllBytes}
use Rattle.logic.specs.declared.FileLayout.{FileLayout}
use Rattle.logic.specs.Tower.{Tower}
use Rattle.logic.specs.Book.{Book}
use Rattle.logic.specs.Tables.{Row, Table, GoodAllow, IsMade}
use Rattle.logic.specs.TableFile.{most_rows, all_steps, step_bytes, row_bytes, header_bytes, table_file}
use Rattle.logic.proofs.Canonical.{made_unique}
use Rattle.logic.proofs.TowerFile.{TowerFits}
use Rattle.logic.proofs.TableFile.{Fits, made_fits, RowFits, fits_by_rows, length_table_file}
use Rattle.reading.specs.TableReading.{rows_of, steps_of, table_states, table_actions, table_layout, row_place, laid_out, row_of_table, table_of}
use Rattle.reading.proofs.TableHeader.{HeaderFits, table_is_layout}
use Rattle.reading.proofs.HeldTable.{rows_read, file_rows, file_held, file_holds, held_laid_out}
use Rattle.reading.proofs.LaidOut.{length_table_of, laid_out_header, laid_out_rows, right_rows, header_written, rows_then_steps, length_laid_out_steps}

-- The table read from the file of a table that fits is that table.
pub file_table : (layout : FileLayout) (states actions : ℕ) (table : Table) → Fits layout states actions table
    → table_of (table_file layout states actions table) ≡ table
unfolding table_of below
file_table layout states actions table f =
    ap (λ n. map (row_of_table (table_file layout states actions table)) (count_from 0 n)) (file_rows layout states actions table f.few_rows)
    ∙ rows_read (table_file layout states actions table) 0 0 table (file_held layout states actions table f)

-- Tables that fit are equal if their files are.
pub table_file_injective : (layout : FileLayout) (states actions : ℕ) (table other : Table) → Fits layout states actions table
    → Fits layout states actions other → table_file layout states actions table ≡ table_file layout states actions other → table ≡ other
table_file_injective layout states actions table other f g e =
    sym (file_table layout states actions table f) ∙ ap table_of e ∙ file_table layout states actions other g

-- Two made tables for one tower have the same file just if good tables allow the same runs under the two books.
pub made_same_file : (layout : FileLayout) (tower : Tower) (book other_book : Book) (table other : Table) → TowerFits layout tower
    → IsMade tower book table → IsMade tower other_book other → length table ≤ most_rows → length other ≤ most_rows
    → ((w : List ℕ) → GoodAllow tower book w ↔ GoodAllow tower other_book w)
    ↔ (table_file layout tower.states tower.actions table ≡ table_file layout tower.states tower.actions other)
made_same_file layout tower book other_book table other f m n few less = (
  λ same. ap (table_file layout tower.states tower.actions) (made_unique tower book other_book table other m n same),
  λ e w.
      let t : table ≡ other =
      table_file_injective layout tower.states tower.actions table other (made_fits layout tower book table f m few)
      (made_fits layout tower other_book other f n less) e in
      (λ x. (n.runs w).0 (rw t at ((m.runs w).1 x)), λ x. (m.runs w).0 (rw t ((n.runs w).1 x))),
)

-- The file of a table that fits is laid out.
pub file_laid_out : (layout : FileLayout) (states actions : ℕ) (table : Table) → Fits layout states actions table
    → laid_out (table_file layout states actions table) ≡ true
file_laid_out layout states actions table f =
    held_laid_out layout states actions table (table_file layout states actions table) f (file_holds layout states actions table f)
    (length_table_file layout states actions table)

-- The table that laid out bytes hold fits.
pub laid_out_fits : (bytes : List ℕ) → laid_out bytes ≡ true → Fits (table_layout bytes) (table_states bytes) (table_actions bytes) (table_of bytes)
unfolding table_of below
laid_out_fits bytes h =
    fits_by_rows (table_layout bytes) (table_states bytes) (table_actions bytes) (table_of bytes) (table_is_layout bytes) header.a_state header.few_states header.an_action
    header.few_actions (rw (length_table_of bytes) header.a_row) (rw (length_table_of bytes) header.few_rows) (λ row i.
    rw (length_table_of bytes) (fit row i))
  where
    header : HeaderFits bytes
    header = laid_out_header bytes h

    fit : (row : Row) → Memᴰ row (table_of bytes) → RowFits (table_states bytes) (table_actions bytes) (rows_of bytes) row
    fit row i = right_rows bytes 0 0 (rows_of bytes) (laid_out_rows bytes h) row i

-- Laid out bytes are the file of the table that they hold.
pub laid_out_file : (bytes : List ℕ) → AllBytes bytes → laid_out bytes ≡ true
    → bytes ≡ table_file (table_layout bytes) (table_states bytes) (table_actions bytes) (table_of bytes)
unfolding table_file
laid_out_file bytes all h =
    header_written bytes all (laid_out_header bytes h)
    ∙ rw (length_table_of bytes, length_laid_out_steps bytes h) (ap (λ l. header ++ l) body)
  where
    header : List ℕ
    header = header_bytes (table_layout bytes) (rows_of bytes) (steps_of bytes) (table_states bytes) (table_actions bytes)

    body : drop (row_place bytes 0) bytes ≡ row_bytes (table_layout bytes) 0 (table_of bytes) ++ joined (map step_bytes (all_steps (table_of bytes)))
    body = rows_then_steps bytes all h
