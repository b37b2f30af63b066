-- `maker_removal::fine::none_forced` meets its contract.
-- The invariant: the actions from the counter on decide. The measure: how many there are.
use Prim.Native.Nat.{◌-◌}
use Rattle.base.specs.Lists.{every}
use Rattle.logic.specs.Tower.{tower_of}
use Rattle.pair_graph.specs.Steps.{safe_in}
use Rattle.maker_removal.specs.Removal.{not_forced_at}
use Rattle.area_bytes.proofs.Scans.{Left}
use Rattle.maker_removal.proofs.fine.none_forced.Given as goal

abbrev pub invariant-loop-a : goal.invariant-loop-a
invariant-loop-a l = Left (every (not_forced_at (tower_of l.tower) l.graph (safe_in l.flags) l.i)) 0 (tower_of l.tower).actions l.actions l.a
