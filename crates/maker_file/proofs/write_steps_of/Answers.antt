use borrow.Author.Rules.{rules}
use Rattle.maker_file.proofs.Filling.{pair_start, pair_room, pair_more, pair_end}
use Rattle.maker_file.proofs.write_steps_of.Goals as goal

ruleset all = (rules, pair_start, pair_room, pair_more, pair_end)

pub loop-a-init : goal.loop-a-init
loop-a-init c = search all

pub write_allowed-next-requires : goal.write_allowed-next-requires
write_allowed-next-requires c = record { laid = search all; row = search all; a_lt_actions = search all; a_in_bounds = search all }

pub loop-a-preserved : goal.loop-a-preserved
loop-a-preserved c = search all

pub shape_of-out : goal.shape_of-out
shape_of-out c = search all

pub returns : goal.returns
returns c = search all
