use borrow.Author.Rules.{rules}
use Rattle.set_bytes.proofs.Output.{put_start, put_next, put_end, put_room}
use Rattle.book_progression.proofs.Nodes.{cast_byte}
use Rattle.set_bytes.proofs.Chosen.{number_fits, number_inside}
use Rattle.set_bytes.proofs.put_out.Goals as goal

ruleset all = (rules, put_start, put_next, put_end, put_room, cast_byte, number_fits, number_inside)

pub loop-i-init : goal.loop-i-init
loop-i-init c = search all

pub loop-i-preserved : goal.loop-i-preserved
loop-i-preserved c = search all
