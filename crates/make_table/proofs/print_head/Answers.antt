-- `make_table::print_head` is safe and ends.
use borrow.Author.Rules.{rules}
use Rattle.file_table.proofs.Laws.{header_of}
use Rattle.make_table.proofs.print_head.Goals as goal

ruleset all = (rules, header_of)

pub rows-requires : goal.rows-requires
rows-requires c = search all

pub steps-requires : goal.steps-requires
steps-requires c = search all

pub head-n-requires : goal.head-n-requires
head-n-requires c = search all

pub slice_bounds-line-end : goal.slice_bounds-line-end
slice_bounds-line-end c = search all

pub slice_bounds-print-end : goal.slice_bounds-print-end
slice_bounds-print-end c = search all

pub print-requires : goal.print-requires
print-requires c = search all

pub returns : goal.returns
returns c = search all
