-- `maker_order::meet` meets its contract.
use borrow.Author.Rules.{rules}
use Rattle.maker_order.proofs.Ways.{class_fits, mark_fits, mark_there, meets_known, meets_new}
use Rattle.maker_order.proofs.meet.Goals as goal

ruleset all = (rules, class_fits, mark_fits, mark_there, meets_known, meets_new)

pub class-class-requires : goal.class-class-requires
class-class-requires c = search all

pub overflow_mul-mark : goal.overflow_mul-mark
overflow_mul-mark c = search all

pub overflow_add-mark : goal.overflow_add-mark
overflow_add-mark c = search all

pub overflow_mul-mark-2 : goal.overflow_mul-mark-2
overflow_mul-mark-2 c = search all

pub overflow_add-mark-2 : goal.overflow_add-mark-2
overflow_add-mark-2 c = search all

pub two_bytes-requires : goal.two_bytes-requires
two_bytes-requires c = search all

pub shape_of-area-then-two_bytes-ne0 : goal.shape_of-area-then-two_bytes-ne0
shape_of-area-then-two_bytes-ne0 c = search all

pub returns-then-two_bytes-ne0 : goal.returns-then-two_bytes-ne0
returns-then-two_bytes-ne0 c = search all

pub overflow_mul-rows : goal.overflow_mul-rows
overflow_mul-rows c = search all

pub overflow_add-rows : goal.overflow_add-rows
overflow_add-rows c = search all

pub put_two_bytes-requires : goal.put_two_bytes-requires
put_two_bytes-requires c = search all

pub overflow_add-rows-2 : goal.overflow_add-rows-2
overflow_add-rows-2 c = search all

pub put_two_bytes-requires-2 : goal.put_two_bytes-requires-2
put_two_bytes-requires-2 c = search all

pub overflow_add-result : goal.overflow_add-result
overflow_add-result c = search all

pub shape_of-area : goal.shape_of-area
shape_of-area c = search all

pub returns : goal.returns
returns c = search all
