-- `file_tower::fit::bad_mask` meets its contract.
use borrow.Author.Rules.{rules}
use Rattle.file_tower.proofs.Ways.{marks_shift, mask_above}
use Rattle.file_tower.proofs.fit.bad_mask.Goals as goal

ruleset all = (rules, marks_shift, mask_above)

pub marks_of-above-requires : goal.marks_of-above-requires
marks_of-above-requires c = search all

pub overflow_shl-above : goal.overflow_shl-above
overflow_shl-above c = search all

pub mask_of-requires : goal.mask_of-requires
mask_of-requires c = search all

pub returns : goal.returns
returns c = search all
