-- `maker_classes::classify` meets its contract.
-- The invariant: the classes are the partition after the passes made. The measure: how many more there can be.
use Prim.Native.Nat.{suc, ◌-◌}
use mathlib.Core.Path.{◌≡◌}
use lib.ListN.{length}
use Rattle.maker_classes.proofs.Rounds.{Refining}
use Rattle.maker_classes.proofs.classify.Given as goal

abbrev pub invariant-loop-separated : goal.invariant-loop-separated
invariant-loop-separated l = (Refining l.graph l.flags l.actions l.n l.made l.separated l.classes l.marks) × (length l.classes ≡ length l.initial.classes) × (length l.marks ≡ length l.initial.marks)

abbrev pub decreases-loop-separated : goal.decreases-loop-separated
decreases-loop-separated l = suc l.n - l.made
