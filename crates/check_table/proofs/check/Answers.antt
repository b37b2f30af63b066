-- `check_table::check` meets its contract.
use borrow.Author.Rules.{rules}
use Rattle.check_table.proofs.Ways.{check_way}
use Rattle.check_table.proofs.check.Goals as goal

ruleset all = (rules, check_way)

pub slice_bounds-check-end : goal.slice_bounds-check-end
slice_bounds-check-end c = search all

pub slice_bounds-check-end-2 : goal.slice_bounds-check-end-2
slice_bounds-check-end-2 c = search all

pub slice_bounds-check-end-3 : goal.slice_bounds-check-end-3
slice_bounds-check-end-3 c = search all

pub slice_bounds-check-end-4 : goal.slice_bounds-check-end-4
slice_bounds-check-end-4 c = search all

pub slice_bounds-check-end-5 : goal.slice_bounds-check-end-5
slice_bounds-check-end-5 c = search all

pub slice_bounds-check-end-6 : goal.slice_bounds-check-end-6
slice_bounds-check-end-6 c = search all

pub check-requires : goal.check-requires
check-requires c = search all

pub returns : goal.returns
returns c = search all
