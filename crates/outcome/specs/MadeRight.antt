-- What the maker is to answer for a tower and a book, in the words of the logic: 11, 20, 12, or the made table.
use Rattle.std.specs.Prelude.{◌≤◌, ◌≡◌, length}
use Rattle.base.specs.Answers.{Answer}
use Rattle.std.specs.Prelude.{Err, Ok}
use Rattle.base.specs.declared.Refusal.TheVariants.{Pairs, NoTable, Alternatives}
use Rattle.logic.specs.Tower.{Tower, Listed}
use Rattle.logic.specs.Book.{Book, FitBook}
use Rattle.logic.specs.Tables.{Table, Good, IsMade}
use Rattle.logic.specs.TableFile.{most_rows}
use Rattle.alternatives.specs.Pairs.{most_pairs}
use Rattle.outcome.specs.Check.{good_table, judge}
use Rattle.outcome.specs.Reached.{ReachedPair, MoreThan, GivesOver}

-- What the maker may take for granted when it makes: a fit tower and a fit book.
pub record Makeable (tower : Tower) (book : Book) : Type 0 where
  pub listed : Listed tower
  pub fit : FitBook book

-- The right answer and why it is the right one.
pub data RightTable (tower : Tower) (book : Book) : Answer Table → Type 0 where
  too_many : MoreThan most_pairs (ReachedPair tower book) → RightTable tower book (Err Pairs)
  too_wide : (MoreThan most_pairs (ReachedPair tower book) → ⊥) → GivesOver tower book → RightTable tower book (Err Alternatives)
  none_good : (MoreThan most_pairs (ReachedPair tower book) → ⊥) → (GivesOver tower book → ⊥) → ((table : Table) → Good tower book table → ⊥)
      → RightTable tower book (Err NoTable)
  made : (table : Table) → (MoreThan most_pairs (ReachedPair tower book) → ⊥) → (GivesOver tower book → ⊥) → IsMade tower book table
      → RightTable tower book (Ok table)

-- What is known of a table that the maker gives: it is the made table of the logic, has at most 1,000 rows, and is accepted.
pub record GivenTable (tower : Tower) (book : Book) (table : Table) : Type 0 where
  pub made : IsMade tower book table
  pub few_rows : length table ≤ most_rows
  pub accepted : judge tower book table ≡ Ok good_table
