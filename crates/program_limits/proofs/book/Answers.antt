-- `program_limits::book` meets its contract.
use borrow.Author.Rules.{rules}
use Rattle.reading.specs.BookReading.{most_bytes}
use Rattle.program_limits.proofs.book.Goals as goal

pub returns : goal.returns
unfolding most_bytes
returns c = search rules
