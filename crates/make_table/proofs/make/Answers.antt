-- `make_table::make` meets its contract.
use borrow.Author.Rules.{rules}
use Rattle.make_table.proofs.Ways.{made_way}
use Rattle.make_table.proofs.make.Goals as goal

ruleset all = (rules, made_way)

pub slice_bounds-make-end-2 : goal.slice_bounds-make-end-2
slice_bounds-make-end-2 c = search all

pub slice_bounds-make-end-3 : goal.slice_bounds-make-end-3
slice_bounds-make-end-3 c = search all

pub slice_bounds-make-end-4 : goal.slice_bounds-make-end-4
slice_bounds-make-end-4 c = search all

pub slice_bounds-make-end-5 : goal.slice_bounds-make-end-5
slice_bounds-make-end-5 c = search all

pub slice_bounds-make-end-6 : goal.slice_bounds-make-end-6
slice_bounds-make-end-6 c = search all

pub slice_bounds-make-end-7 : goal.slice_bounds-make-end-7
slice_bounds-make-end-7 c = search all

pub slice_bounds-make-end-8 : goal.slice_bounds-make-end-8
slice_bounds-make-end-8 c = search all

pub slice_bounds-make-end-9 : goal.slice_bounds-make-end-9
slice_bounds-make-end-9 c = search all

pub make-requires : goal.make-requires
make-requires c = search all

pub returns : goal.returns
returns c = search all
