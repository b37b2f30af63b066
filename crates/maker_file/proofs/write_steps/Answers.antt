use borrow.Author.Rules.{rules}
use Rattle.maker_file.proofs.Filling.{packing_start, packing_room, packing_more, packing_end}
use Rattle.maker_file.proofs.Going.{pair_is_row}
use Rattle.maker_file.proofs.write_steps.Goals as goal

ruleset all = (rules, pair_is_row, packing_start, packing_room, packing_more, packing_end)

pub loop-done-init : goal.loop-done-init
loop-done-init c = search all

pub pair_of-requires : goal.pair_of-requires
pair_of-requires c = search all

pub write_steps_of-next-requires : goal.write_steps_of-next-requires
write_steps_of-next-requires c = search all

pub loop-done-preserved : goal.loop-done-preserved
loop-done-preserved c = search packing_more

pub shape_of-out : goal.shape_of-out
shape_of-out c = search all

pub returns : goal.returns
returns c = search all
