-- Files that are read up to one byte past the longest fit ones get the answer of the whole files.
use Prim.Native.Nat.{ℕ, suc}
use mathlib.Core.Path.{◌≡◌, ◌∙◌, ap, fun_ext}
use mathlib.Core.List.{List}
use lib.ListN.{take}
use Rattle.base.specs.Answers.{Answer, ◌then◌}
use Rattle.logic.specs.Tower.{Tower, narrow}
use Rattle.logic.specs.Book.{Book}
use Rattle.logic.specs.Tables.{Table}
use Rattle.reading.specs.TowerReading.{read_tower}
use Rattle.reading.specs.BookReading.{most_bytes, read_book}
use Rattle.reading.specs.TableReading.{read_table}
use Rattle.program_limits.specs.Longest.{longest_tower, longest_table}
use Rattle.program_limits.proofs.Cut.{tower_cut, book_cut, table_cut}
use Rattle.outcome.specs.Check.{judge}
use Rattle.why_outcome.specs.Why.{WhyFinding, why_behind, why_file}

-- what is read of a tower, a book and a table
abbrev tower_room : ℕ
tower_room = suc (longest_tower narrow)

abbrev book_room : ℕ
book_room = suc most_bytes

abbrev table_room : ℕ
table_room = suc (longest_table narrow)

-- what is found of them once they are read
abbrev found : ℕ → Tower → Book → Table → Answer WhyFinding
found room t book rows = judge t book rows then λ finding. why_behind t book rows room finding

pub why_cut : (tower text table : List ℕ) (room : ℕ)
    → why_file (take tower_room tower) (take book_room text) (take table_room table) room ≡ why_file tower text table room
unfolding why_file
why_cut tower text table room =
    ap (λ o. o then λ t. read_book t.marks (take book_room text) then λ book. read_table t (take table_room table) then λ rows. found room t book rows) (tower_cut tower)
    ∙ ap (λ f. read_tower tower then f)
    (fun_ext λ t.
    ap (λ o. o then λ book. read_table t (take table_room table) then λ rows. found room t book rows) (book_cut t.marks text)
    ∙ ap (λ f. read_book t.marks text then f) (fun_ext λ book. ap (λ o. o then λ rows. found room t book rows) (table_cut t table)))
