-- What the checker is to say of a table for a tower and a book, in the words of the logic: the first reason a to e that holds, 11 and 20 before e.
use Rattle.std.specs.Prelude.{ℕ, ◌<◌, length}
use Rattle.base.specs.Answers.{Answer}
use Rattle.std.specs.Prelude.{Err, Ok}
use Rattle.base.specs.declared.Reason.{Reason}
use Rattle.base.specs.declared.Reason.TheVariants.{Start, Withheld, Stopped, Broken}
use Rattle.base.specs.declared.Reason.TheVariants as Why
use Rattle.base.specs.declared.Refusal.TheVariants.{Pairs, Alternatives}
use Rattle.logic.specs.Tower.{Tower, Listed}
use Rattle.logic.specs.Book.{Book, FitBook}
use Rattle.logic.specs.Tables.{Table, IsTable, rows_tower, GoodStart, NoneWithheld, StepsRight, GoesOn, NoneBroken, Good}
use Rattle.alternatives.specs.Pairs.{most_pairs}
use Rattle.outcome.specs.Check.{Finding, good_table, not_good}
use Rattle.outcome.specs.Reached.{ReachedItem, MoreThan, GivesOver}

-- What the checker may take for granted when it judges: a fit tower, a fit book, and bytes that are laid out as a table.
pub record Judgeable (tower : Tower) (book : Book) (table : Table) : Type 0 where
  pub listed : Listed tower
  pub fit : FitBook book
  pub is_table : IsTable table

-- b, c and d hold in row r
pub record RowRight (tower : Tower) (table : Table) (r : ℕ) : Type 0 where
  pub b : NoneWithheld tower table r
  pub c : StepsRight tower table r
  pub d : GoesOn tower table r

-- a holds, and b to d in all rows below row r
pub record RightBelow (tower : Tower) (table : Table) (r : ℕ) : Type 0 where
  pub a : GoodStart tower table
  pub rows : (s : ℕ) → s < r → RowRight tower table s

-- The first of the reasons a to d, and why it is the first.
pub data FirstOfRows (tower : Tower) (table : Table) : Reason → Type 0 where
  reason_a : (GoodStart tower table → ⊥) → FirstOfRows tower table Start
  reason_b : (r : ℕ) → r < length table → RightBelow tower table r → (NoneWithheld tower table r → ⊥) → FirstOfRows tower table (Withheld r)
  reason_c : (r : ℕ) → r < length table → RightBelow tower table r → NoneWithheld tower table r → (StepsRight tower table r → ⊥)
      → FirstOfRows tower table (Why.WrongStep r)
  reason_d : (r : ℕ) → r < length table → RightBelow tower table r → NoneWithheld tower table r → StepsRight tower table r
      → (GoesOn tower table r → ⊥) → FirstOfRows tower table (Stopped r)

-- The right answer and why it is the right one.
pub data FirstReason (tower : Tower) (book : Book) (table : Table) : Answer Finding → Type 0 where
  by_rows : (q : Reason) → FirstOfRows tower table q → FirstReason tower book table (Ok (not_good q))
  too_many : RightBelow tower table (length table) → MoreThan most_pairs (ReachedItem tower book table)
      → FirstReason tower book table (Err Pairs)
  too_wide : RightBelow tower table (length table) → (MoreThan most_pairs (ReachedItem tower book table) → ⊥)
      → GivesOver (rows_tower tower table) book → FirstReason tower book table (Err Alternatives)
  reason_e : RightBelow tower table (length table) → (MoreThan most_pairs (ReachedItem tower book table) → ⊥)
      → (GivesOver (rows_tower tower table) book → ⊥) → (NoneBroken tower book table → ⊥) → FirstReason tower book table (Ok (not_good Broken))
  good : Good tower book table → (MoreThan most_pairs (ReachedItem tower book table) → ⊥) → (GivesOver (rows_tower tower table) book → ⊥)
      → FirstReason tower book table (Ok good_table)
