-- `maker_classes::pass::look_all` meets its contract.
-- The invariant: the pass has come to pair i. The measure: how many are left.
use Prim.Native.Nat.{◌-◌, ◌≤◌}
use mathlib.Core.Path.{◌≡◌}
use lib.ListN.{length}
use Rattle.maker_classes.specs.Passes.{PassedFrom}
use Rattle.maker_classes.proofs.pass.look_all.Given as goal

abbrev pub invariant-loop-i : goal.invariant-loop-i
invariant-loop-i l = (PassedFrom l.graph l.flags l.actions l.n l.initial.area l.i l.area l.marks l.separated) × (length l.area ≡ length l.initial.area) × (length l.marks ≡ length l.initial.marks) × (l.i ≤ l.n)
