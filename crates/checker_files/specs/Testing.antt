-- What the tests of tower and table promise, without a book.
use Rattle.std.specs.Prelude.{ℕ, ◌≡◌, List}
use Rattle.base.specs.Answers.{Answer, ◌then◌}
use Rattle.std.specs.Prelude.{Err, Ok}
use Rattle.logic.specs.Tower.{Tower, tower_of}
use Rattle.reading.specs.TowerReading.{read_tower}
use Rattle.reading.specs.TableReading.{read_table}
use Rattle.outcome.specs.Check.{Finding, good_table, not_good, rows_judged}
use Rattle.checker_rows.specs.RowVerdict.{RowsJudgeable}
use Rattle.base.specs.Answers.{Verdict}
use Rattle.base.specs.declared.Rejection.TheVariants as Rejected

-- what is found of a table file, where the tower is read
unfoldable pub tested_table : Tower → List ℕ → Answer Finding
tested_table tower table = read_table tower table then λ rows. rows_judged tower rows (Ok good_table)

-- what is found of the two files
unfoldable pub tested_files : List ℕ → List ℕ → Answer Finding
tested_files tower table = read_tower tower then λ t. tested_table t table

-- as a value of the code's type
unfoldable pub tested : Answer Finding → Verdict
tested (Err r) = Err (Rejected.Refused r)
tested (Ok good_table) = Ok tt
tested (Ok (not_good reason)) = Err (Rejected.NotGood reason)

-- The answer, and that the rows of a sound table have been judged.
pub record TableTested (r : Verdict) (tower table : List ℕ) : Type 0 where
  pub answer : r ≡ tested (tested_table (tower_of tower) table)
  pub judged : r ≡ Ok tt → RowsJudgeable tower table

pub record FilesTested (r : Verdict) (tower table : List ℕ) : Type 0 where
  pub answer : r ≡ tested (tested_files tower table)
  pub judged : r ≡ Ok tt → RowsJudgeable tower table
