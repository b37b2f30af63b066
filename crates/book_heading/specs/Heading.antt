-- The number of a book's beginning.
use Rattle.std.specs.Prelude.{ℕ}
use Rattle.base.specs.Answers.{Answer}
use Rattle.std.specs.Prelude.{Err, Ok}
use Rattle.book_heading.specs.declared.Headed.{Headed}

-- the number where one is left out
unfoldable pub usual_of : Answer Headed → ℕ
usual_of (Err r) = 0
usual_of (Ok h) = h.usual
