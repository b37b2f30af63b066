-- `maker_removal::push` meets its contract.
use Rattle.maker_removal.proofs.Flags.{pushed, entry_room, set_kept}
use borrow.Author.Rules.{rules}
use Rattle.maker_removal.proofs.push.Goals as goal

ruleset all = (rules, pushed, entry_room, set_kept)

pub bounds-area-i : goal.bounds-area-i
bounds-area-i c = search all

pub overflow_mul-height : goal.overflow_mul-height
overflow_mul-height c = search all

pub overflow_add-height : goal.overflow_add-height
overflow_add-height c = search all

pub put_two_bytes-requires : goal.put_two_bytes-requires
put_two_bytes-requires c = search all

pub shape_of-area : goal.shape_of-area
shape_of-area c = search all

pub returns : goal.returns
returns c = search all
