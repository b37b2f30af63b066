use Rattle.book_heading.proofs.Ways.{word_read}
use borrow.Author.Rules.{rules}
use Rattle.book_heading.proofs.has_ticks.Goals as goal

ruleset all = (rules, word_read)

pub returns : goal.returns
returns c = search all
