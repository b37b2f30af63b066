-- The book reader's outcome: 15, 2, the book.
use Rattle.std.specs.Prelude.{ℕ, List, length, ltb}
use Rattle.base.specs.Choice.{pick}
use Rattle.base.specs.Bytes.{long_enough, cleared}
use Rattle.base.specs.Answers.{Answer, ◌if◌else◌}
use Rattle.std.specs.Prelude.{Err, Ok}
use Rattle.base.specs.declared.Refusal.TheVariants.{Range, Area}
use Rattle.base.specs.Answers.{BookAnswer, book_of_size}
use Rattle.logic.specs.Tower.{most_marks}
use Rattle.logic.specs.Book.{Book, nodes}
use Rattle.reading.specs.BookReading.{read_book}
use Rattle.outcome.specs.Areas.{book_areas}

-- the numbers of lines and nodes
unfoldable pub book_answer : Answer Book → BookAnswer
book_answer (Err r) = Err r
book_answer (Ok book) = book_of_size (length book) (length (nodes book))

-- the book under a given P; P above 16 is 2, before the book
unfoldable pub book_under : ℕ → List ℕ → Answer Book
book_under marks text = Range if ltb most_marks marks else read_book marks text

-- How a call of the book reader ends: the answer, and what the lent areas hold then.
pub record BookOutcome : Type 0 where
  pub answer : BookAnswer
  pub areas : List (List ℕ)

unfoldable pub read_outcome : ℕ → List ℕ → List (List ℕ) → BookOutcome
read_outcome marks text areas =
    pick (long_enough book_areas areas)
    (λ _. record { answer = book_answer (book_under marks text); areas = cleared areas })
    (λ _. record { answer = Err Area; areas = areas })
