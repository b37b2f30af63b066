-- `book_progression::progress_next` meets its contract, by the laws of Putting.
use Rattle.book_progression.proofs.Putting.{next_broken, next_put, next_node, next_ready}
use borrow.Author.Rules.{rules}
use Rattle.book_progression.proofs.progress_next.Goals as goal

pub returns-then-not-compares : goal.returns-then-not-compares
returns-then-not-compares c = search (rules, next_broken)

pub fresh-requires : goal.fresh-requires
fresh-requires c = search (rules, next_node)

pub put-requires : goal.put-requires
put-requires c = search (rules, next_ready)

pub returns : goal.returns
returns c = search (rules, next_put)
