use Rattle.maker_classes.proofs.Ways.{adopt_start, adopt_entry, adopt_fits, adopt_place, adopt_new, adopt_class, adopt_more, adopt_end}
use borrow.Author.Rules.{rules}
use Rattle.maker_classes.proofs.pass.adopt.Goals as goal

ruleset all = (rules, adopt_start, adopt_entry, adopt_fits, adopt_place, adopt_new, adopt_class, adopt_more, adopt_end)

pub loop-p-init : goal.loop-p-init
loop-p-init c = search all

pub noted-i-requires : goal.noted-i-requires
noted-i-requires c = search all

pub overflow_mul-i : goal.overflow_mul-i
overflow_mul-i c = search all

pub overflow_add-i : goal.overflow_add-i
overflow_add-i c = search all

pub two_bytes-new-requires : goal.two_bytes-new-requires
two_bytes-new-requires c = search all

pub overflow_mul-i-in-loop-p : goal.overflow_mul-i-in-loop-p
overflow_mul-i-in-loop-p c = search all

pub put_two_bytes-requires : goal.put_two_bytes-requires
put_two_bytes-requires c = search all

pub loop-p-preserved : goal.loop-p-preserved
loop-p-preserved c = search all

pub shape_of-area : goal.shape_of-area
shape_of-area c = search all

pub returns : goal.returns
returns c = search all
