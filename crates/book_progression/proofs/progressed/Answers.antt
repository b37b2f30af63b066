-- `book_progression::progressed` meets its contract, by the laws of Stepping, Areas and BookHeld.
use Rattle.book_progression.proofs.Stepping.{progressed_broken, progressed_whole}
use Rattle.book_progression.proofs.Areas.{parts_still}
use Rattle.book_progression.proofs.BookHeld.{has_nodes}
use borrow.Author.Rules.{rules}
use Rattle.book_progression.proofs.progressed.Goals as goal

pub progress_nodes-requires-clause-has_nodes : goal.progress_nodes-requires-clause-has_nodes
progress_nodes-requires-clause-has_nodes c = search (rules, has_nodes)

pub progress_nodes-requires-clause-parts : goal.progress_nodes-requires-clause-parts
progress_nodes-requires-clause-parts c = search (rules, parts_still)

pub returns-then-not-progress_nodes : goal.returns-then-not-progress_nodes
returns-then-not-progress_nodes c = search (rules, progressed_broken)

pub returns : goal.returns
returns c = search (rules, progressed_whole)
