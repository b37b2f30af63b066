-- `maker_view::bucket` meets its contract.
-- The invariant: the sum is that of the actions before `next`. The measure: how many are left.
use Prim.Native.Nat.{◌-◌, ◌≤◌}
use Rattle.maker_view.specs.View.{view_of}
use Rattle.maker_view.proofs.Looks.{Summing}
use Rattle.maker_view.proofs.bucket.Given as goal

abbrev pub invariant-loop-next : goal.invariant-loop-next
invariant-loop-next l = (Summing (view_of l.graph l.flags l.actions l.classes) l.i l.next l.sum) × (l.next ≤ l.actions)
