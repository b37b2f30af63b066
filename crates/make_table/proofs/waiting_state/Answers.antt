-- `make_table::waiting_state` is safe and ends.
use borrow.Author.Rules.{rules}
use Rattle.make_table.proofs.Ways.{part_taken}
use Rattle.make_table.proofs.waiting_state.Goals as goal

ruleset all = (rules, part_taken)

pub slice_bounds-sure_copy-end : goal.slice_bounds-sure_copy-end
slice_bounds-sure_copy-end c = search all

pub sure_copy-t-requires : goal.sure_copy-t-requires
sure_copy-t-requires c = search all

pub slice_bounds-sure-end : goal.slice_bounds-sure-end
slice_bounds-sure-end c = search all

pub slice_bounds-waiting_in-end : goal.slice_bounds-waiting_in-end
slice_bounds-waiting_in-end c = search all

pub waiting_in-requires : goal.waiting_in-requires
waiting_in-requires c = search all

pub returns : goal.returns
returns c = search all
