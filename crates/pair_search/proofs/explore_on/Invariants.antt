-- The loop keeps what `Exploring` says: the search from here on finds what it finds in all. The pairs that there may be left become fewer.
use Prim.Native.Nat.{◌-◌}
use mathlib.Core.Path.{◌≡◌}
use lib.ListN.{length}
use Rattle.pair_trial.specs.Walked.{walked}
use Rattle.pair_search.proofs.Exploring.{Exploring}
use Rattle.pair_search.proofs.explore_on.Given as goal

abbrev pub invariant-loop-i : goal.invariant-loop-i
invariant-loop-i l = Exploring (walked l.tower l.table l.rows) l.nodes l.wide l.pairs l.index l.graph l.i l.n l.over × (length l.pairs ≡ length l.initial.pairs) × (length l.index ≡ length l.initial.index) × (length l.graph ≡ length l.initial.graph) × (length l.sets ≡ length l.initial.sets) × (length l.room ≡ length l.initial.room)

abbrev pub decreases-loop-i : goal.decreases-loop-i
decreases-loop-i l = 1001 - l.i
