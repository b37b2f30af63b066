-- The header is tested first, and then the rows.
use borrow.Author.Tests.{not-true, not-false}
use borrow.Author.Rules.{rules}
use Rattle.file_table.proofs.Laws.{holds_by}
use Rattle.file_table.proofs.Ways.{header_wrong, header_then_rows}
use Rattle.file_table.proofs.laid_out.Goals as goal

ruleset all = (rules, not-true, not-false, holds_by, header_wrong, header_then_rows)

pub header_right-requires : goal.header_right-requires
header_right-requires c = search all

pub returns-then-not-header_right : goal.returns-then-not-header_right
returns-then-not-header_right c = search all

pub rows_right-requires : goal.rows_right-requires
rows_right-requires c = search all

pub returns : goal.returns
returns c = search all
