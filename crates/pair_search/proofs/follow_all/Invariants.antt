-- The loop keeps what `Growing` says: the actions that are left decide what is new. They become fewer.
use Prim.Native.Nat.{◌-◌}
use mathlib.Core.Path.{◌≡◌}
use lib.ListN.{length}
use Rattle.pair_trial.specs.Walked.{walked}
use Rattle.pair_search.proofs.Growing.{Growing}
use Rattle.pair_search.proofs.follow_all.Given as goal

abbrev pub invariant-loop-a : goal.invariant-loop-a
invariant-loop-a l = Growing (walked l.tower l.table l.rows) l.nodes l.wide l.initial.pairs l.i l.met l.actions l.a l.pairs l.index l.graph l.n × (length l.pairs ≡ length l.initial.pairs) × (length l.index ≡ length l.initial.index) × (length l.graph ≡ length l.initial.graph)
