-- `maker_classes::make_pass` meets its contract.
use Rattle.maker_classes.proofs.Whole.{to_adopt, taken_long, to_mark, pass_made}
use borrow.Author.Rules.{rules}
use Rattle.maker_classes.proofs.make_pass.Goals as goal

ruleset all = (rules, to_adopt, taken_long, to_mark, pass_made)

pub look_all-separated-requires : goal.look_all-separated-requires
look_all-separated-requires c = search all

pub adopt-requires : goal.adopt-requires
adopt-requires c = search all

pub slice_bounds-mark_again-end : goal.slice_bounds-mark_again-end
slice_bounds-mark_again-end c = search all

pub slice_bounds-mark_again-end-2 : goal.slice_bounds-mark_again-end-2
slice_bounds-mark_again-end-2 c = search all

pub mark_again-requires : goal.mark_again-requires
mark_again-requires c = to_mark _ _ _ _ _ _ _ _ c.look_all-separated.ensures _ c.adopt.ensures (search rules)

pub shape_of-classes : goal.shape_of-classes
shape_of-classes c = search all

pub shape_of-marks : goal.shape_of-marks
shape_of-marks c = search all

pub returns : goal.returns
returns c = search all
