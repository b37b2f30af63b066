-- 02, item 3: 'Books without two timed sides give the bytes they gave.' What maker and checker answered before, in the words of the logic: 11 was
-- counted over pairs of a state and one obligation (`pending` Pairs), and there was no 20.
use Rattle.std.specs.Prelude.{◌≡◌, true, false, length}
use Rattle.base.specs.Answers.{Answer}
use Rattle.std.specs.Prelude.{Err, Ok}
use Rattle.base.specs.declared.Reason.{Reason}
use Rattle.base.specs.declared.Reason.TheVariants.{Broken}
use Rattle.base.specs.declared.Refusal.TheVariants.{Pairs, NoTable}
use Rattle.logic.specs.Tower.{Tower}
use Rattle.logic.specs.Book.{Book}
use Rattle.logic.specs.Tables.{Table, rows_tower, NoneBroken, Good, IsMade}
use Rattle.pending.specs.Pairs as Old
use Rattle.outcome.specs.Check.{Finding, good_table, not_good}
use Rattle.outcome.specs.VerdictRight.{RightBelow, FirstOfRows}

-- The maker's answer, and why it was the right one.
pub data MadeBefore (tower : Tower) (book : Book) : Answer Table → Type 0 where
  too_many : Old.over_pairs tower book ≡ true → MadeBefore tower book (Err Pairs)
  none_good : Old.over_pairs tower book ≡ false → ((table : Table) → Good tower book table → ⊥) → MadeBefore tower book (Err NoTable)
  made : (table : Table) → Old.over_pairs tower book ≡ false → IsMade tower book table → MadeBefore tower book (Ok table)

-- The checker's answer, and why it was the right one.
pub data JudgedBefore (tower : Tower) (book : Book) (table : Table) : Answer Finding → Type 0 where
  by_rows : (q : Reason) → FirstOfRows tower table q → JudgedBefore tower book table (Ok (not_good q))
  too_many : RightBelow tower table (length table) → Old.over_pairs (rows_tower tower table) book ≡ true
      → JudgedBefore tower book table (Err Pairs)
  reason_e : RightBelow tower table (length table) → Old.over_pairs (rows_tower tower table) book ≡ false → (NoneBroken tower book table → ⊥)
      → JudgedBefore tower book table (Ok (not_good Broken))
  good : Good tower book table → Old.over_pairs (rows_tower tower table) book ≡ false → JudgedBefore tower book table (Ok good_table)
