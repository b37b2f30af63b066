-- `maker_classes::pass::adopt` meets its contract.
-- The invariant: the entries before `p` are adopted. The measure: how many are left.
use Prim.Native.Nat.{◌-◌}
use Rattle.maker_classes.proofs.Ways.{Adopting}
use Rattle.maker_classes.proofs.pass.adopt.Given as goal

abbrev pub invariant-loop-p : goal.invariant-loop-p
invariant-loop-p l = Adopting l.n l.p l.initial.area l.marks l.separated l.area
