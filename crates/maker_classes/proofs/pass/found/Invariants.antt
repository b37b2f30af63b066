-- `maker_classes::pass::found` meets its contract.
-- The invariant: whatever looks the same is still ahead in the bucket. The measure: the number that the walk has come to.
use lib.ListN.{take}
use Rattle.maker_view.specs.View.{view_of}
use Rattle.maker_classes.proofs.Ways.{Seeking}
use Rattle.maker_classes.proofs.pass.found.Given as goal

abbrev pub invariant-loop-at : goal.invariant-loop-at
invariant-loop-at l = Seeking (view_of l.graph l.flags l.actions (take 2000 l.area)) l.i l.h l.at

abbrev pub decreases-loop-at : goal.decreases-loop-at
decreases-loop-at l = l.at
