-- The maker's outcome: 15; the tower; the book; 11; 20; 12; 16.
use Rattle.std.specs.Prelude.{ℕ, not, List, length, ltb}
use Rattle.std.proofs.lemmas.List.Edits.{sets}
use Rattle.base.specs.Choice.{pick}
use Rattle.base.specs.Bytes.{long_enough, cleared}
use Rattle.base.specs.Answers.{Answer, ◌if◌else◌, ◌then◌}
use Rattle.std.specs.Prelude.{Err, Ok}
use Rattle.base.specs.declared.Refusal.TheVariants.{Pairs, NoTable, Area, Output, Alternatives}
use Rattle.base.specs.Answers.{MakeAnswer}
use Rattle.logic.specs.Tower.{Tower, layout_of}
use Rattle.logic.specs.Book.{Book}
use Rattle.logic.specs.Tables.{Table}
use Rattle.logic.specs.TableFile.{table_file}
use Rattle.reading.specs.TowerReading.{read_tower}
use Rattle.reading.specs.BookReading.{read_book}
use Rattle.outcome.specs.Areas.{make_areas}
use Rattle.alternatives.specs.Pairs.{first_pair, over_pairs, over_alternatives}
use Rattle.outcome.specs.Game.{safe}
use Rattle.outcome.specs.Rows.{made_table}

-- the made table for a tower and a book; 11; 20; 12
unfoldable pub table_for : Tower → Book → Answer Table
table_for tower book =
    Pairs if over_pairs tower book else
    Alternatives if over_alternatives tower book else
    NoTable if not (safe tower book (first_pair tower book)) else
    Ok (made_table tower book)

-- the file of the made table, in the layout of the tower's file, for files of a tower and a book
unfoldable pub made_file : List ℕ → List ℕ → Answer (List ℕ)
made_file tower text =
    read_tower tower then λ t.
    read_book t.marks text then λ book.
    table_for t book then λ table.
    Ok (table_file (layout_of tower) t.states t.actions table)

-- 16: the output is shorter than the file
unfoldable pub fitting : ℕ → List ℕ → Answer (List ℕ)
fitting room file = Output if ltb room (length file) else Ok file

-- How a call of the maker ends: the answer, and what the output and the lent areas hold then.
pub record MakeOutcome : Type 0 where
  pub answer : MakeAnswer
  pub output : List ℕ
  pub areas : List (List ℕ)

-- Bytes after a made table stay; a refusal changes no byte of the output.
unfoldable pub written : Answer (List ℕ) → List ℕ → List (List ℕ) → MakeOutcome
written (Err r) output areas = record { answer = Err r; output = output; areas = areas }
written (Ok file) output areas = record { answer = Ok (length file); output = sets output 0 file; areas = areas }

unfoldable pub make_outcome : List ℕ → List ℕ → List ℕ → List (List ℕ) → MakeOutcome
make_outcome tower text output areas =
    pick (long_enough make_areas areas)
    (λ _. written (made_file tower text then λ file. fitting (length output) file) output (cleared areas))
    (λ _. written (Err Area) output areas)
