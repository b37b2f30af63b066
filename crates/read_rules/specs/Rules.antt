-- What the program answers for the contents of a tower file and a book.
use Rattle.std.specs.Prelude.{ℕ, List}
use Rattle.base.specs.Answers.{◌then◌}
use Rattle.base.specs.Answers.{BookAnswer}
use Rattle.reading.specs.TowerReading.{read_tower}
use Rattle.reading.specs.BookReading.{read_book}
use Rattle.outcome.specs.ReadBook.{book_answer}

-- the tower; then the book, under the tower's number of marks
unfoldable pub rules_answer : List ℕ → List ℕ → BookAnswer
rules_answer tower text = book_answer (read_tower tower then λ t. read_book t.marks text)
