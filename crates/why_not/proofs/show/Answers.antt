-- `why_not::show` meets its contract.
use borrow.Author.Rules.{rules}
use Rattle.why_not.proofs.Ways.{show_way}
use Rattle.why_not.proofs.show.Goals as goal

ruleset all = (rules, show_way)

pub slice_bounds-show-end-2 : goal.slice_bounds-show-end-2
slice_bounds-show-end-2 c = search all

pub slice_bounds-show-end-3 : goal.slice_bounds-show-end-3
slice_bounds-show-end-3 c = search all

pub slice_bounds-show-end-4 : goal.slice_bounds-show-end-4
slice_bounds-show-end-4 c = search all

pub slice_bounds-show-end-5 : goal.slice_bounds-show-end-5
slice_bounds-show-end-5 c = search all

pub slice_bounds-show-end-6 : goal.slice_bounds-show-end-6
slice_bounds-show-end-6 c = search all

pub slice_bounds-show-end-7 : goal.slice_bounds-show-end-7
slice_bounds-show-end-7 c = search all

pub show-requires : goal.show-requires
show-requires c = search all

pub returns : goal.returns
returns c = search all
