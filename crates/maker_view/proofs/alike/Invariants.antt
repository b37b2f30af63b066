-- `maker_view::alike` meets its contract.
-- The invariant: the actions from `a` on decide. The measure: how many there are.
use Prim.Native.Nat.{◌-◌}
use Rattle.base.specs.Lists.{every}
use Rattle.area_bytes.proofs.Scans.{Left}
use Rattle.maker_view.specs.View.{same_shows}
use Rattle.maker_view.proofs.alike.Given as goal

abbrev pub invariant-loop-a : goal.invariant-loop-a
invariant-loop-a l = Left (every (same_shows l.graph l.flags l.classes l.i l.j)) 0 l.actions l.actions l.a
