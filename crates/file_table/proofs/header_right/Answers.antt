-- Each return answers what is left of the definition once the tests before it are known.
use borrow.Author.Tests.{not-true, not-false}
use borrow.Author.Rules.{rules}
use Rattle.logic.specs.TableFile.{rows_at}
use Rattle.file_table.proofs.Ways.{header_short, counts_wrong, places_left}
use Rattle.file_table.proofs.header_right.Goals as goal

ruleset all = (rules, not-true, not-false, header_short, counts_wrong, places_left)

pub returns-then-bytes-lt-ROWS_AT : goal.returns-then-bytes-lt-ROWS_AT
unfolding rows_at
returns-then-bytes-lt-ROWS_AT c = search all

pub counts_right-requires : goal.counts_right-requires
unfolding rows_at
counts_right-requires c = search all

pub returns-then-not-counts_right : goal.returns-then-not-counts_right
unfolding rows_at
returns-then-not-counts_right c = search all

pub places_right-requires : goal.places_right-requires
unfolding rows_at
places_right-requires c = search all

pub returns : goal.returns
unfolding rows_at
returns c = search all
