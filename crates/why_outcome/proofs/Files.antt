-- The entry's answer beside the checker's: on the same files both are read alike, and only where the checker finds 14 e do they part.
use Prim.Native.Nat.{ℕ}
use mathlib.Core.Path.{◌≡◌, refl}
use mathlib.Core.List.{List}
use Rattle.base.specs.Answers.{Answer, ◌then◌}
use Rattle.std.specs.Prelude.{Err, Ok}
use Rattle.base.specs.declared.Reason.{Reason}
use Rattle.base.specs.declared.Reason.TheVariants.{Start, Withheld, WrongStep, Stopped, Broken}
use Rattle.base.specs.declared.Refusal.{Refusal}
use Rattle.logic.specs.Tower.{Tower}
use Rattle.logic.specs.Book.{Book}
use Rattle.logic.specs.Tables.{Table}
use Rattle.reading.specs.TowerReading.{read_tower}
use Rattle.reading.specs.BookReading.{read_book}
use Rattle.reading.specs.TableReading.{read_table}
use Rattle.outcome.specs.Calls.{FitFiles, FitTable}
use Rattle.outcome.specs.Check.{Finding, good_table, not_good, judge, checked_file}
use Rattle.why_outcome.specs.Why.{WhyFinding, own, shown_run, shown_of, shown_in, why_behind, why_file}

-- A reason that is not e.
unfoldable pub Earlier : Reason → Type 0
Earlier Start = Unit {0}
Earlier (Withheld r) = Unit {0}
Earlier (WrongStep r) = Unit {0}
Earlier (Stopped r) = Unit {0}
Earlier Broken = ⊥

module _ (tower_file text file : List ℕ) (room : ℕ) (P : Answer Finding → Answer WhyFinding → Type 0)
    (refused : (r : Refusal) → P (Err r) (Err r))
    (good : P (Ok good_table) (Ok (own good_table)))
    (wrong : (q : Reason) → Earlier q → P (Ok (not_good q)) (Ok (own (not_good q))))
    (broken : (tower : Tower) (book : Book) (table : Table) → FitFiles tower_file text tower book → FitTable tower file table
    → judge tower book table ≡ Ok (not_good Broken)
    → P (Ok (not_good Broken)) (shown_in room (shown_of tower book (shown_run tower book table)))) where
  behind : (tower : Tower) (book : Book) (table : Table) → FitFiles tower_file text tower book → FitTable tower file table → (o : Answer Finding)
      → judge tower book table ≡ o → P o (o then λ finding. why_behind tower book table room finding)
  unfolding ◌then◌ why_behind Earlier
  behind tower book table fit laid (Err r) e = refused r
  behind tower book table fit laid (Ok good_table) e = good
  behind tower book table fit laid (Ok (not_good Start)) e = wrong Start tt
  behind tower book table fit laid (Ok (not_good (Withheld r))) e = wrong (Withheld r) tt
  behind tower book table fit laid (Ok (not_good (WrongStep r))) e = wrong (WrongStep r) tt
  behind tower book table fit laid (Ok (not_good (Stopped r))) e = wrong (Stopped r) tt
  behind tower book table fit laid (Ok (not_good Broken)) e = broken tower book table fit laid e

  by_table : (tower : Tower) (book : Book) → FitFiles tower_file text tower book → (o : Answer Table) → read_table tower file ≡ o
      → P (o then λ rows. judge tower book rows)
      (o then λ rows. judge tower book rows then λ finding. why_behind tower book rows room finding)
  unfolding ◌then◌ FitTable
  by_table tower book fit (Err r) e = refused r
  by_table tower book fit (Ok table) e = behind tower book table fit e (judge tower book table) refl

  by_book : (tower : Tower) → read_tower tower_file ≡ Ok tower → (o : Answer Book) → read_book tower.marks text ≡ o
      → P (o then λ book. read_table tower file then λ rows. judge tower book rows)
      (o then λ book. read_table tower file then λ rows. judge tower book rows then λ finding. why_behind tower book rows room finding)
  unfolding ◌then◌
  by_book tower e (Err r) f = refused r
  by_book tower e (Ok book) f = by_table tower book (record { tower_read = e; book_read = f }) (read_table tower file) refl

  by_tower : (o : Answer Tower) → read_tower tower_file ≡ o
      → P (o then λ t. read_book t.marks text then λ book. read_table t file then λ rows. judge t book rows)
      (o then λ t. read_book t.marks text then λ book. read_table t file then λ rows. judge t book rows then λ finding. why_behind t book rows room finding)
  unfolding ◌then◌
  by_tower (Err r) e = refused r
  by_tower (Ok tower) e = by_book tower e (read_book tower.marks text) refl

  -- What holds of the checker's finding beside this entry's in every case holds of the two on these files.
  pub why_by : P (checked_file tower_file text file) (why_file tower_file text file room)
  unfolding checked_file why_file
  why_by = by_tower (read_tower tower_file) refl
