-- The loop keeps what `Trying` says: what comes of every action so far waits. The actions become fewer.
use Prim.Native.Nat.{◌-◌}
use mathlib.Core.Path.{◌≡◌}
use lib.ListN.{length}
use Rattle.pair_trial.specs.Walked.{walked}
use Rattle.pair_trial.specs.Trial.{Trying}
use Rattle.pair_trial.proofs.try_all.Given as goal

abbrev pub invariant-loop-a : goal.invariant-loop-a
invariant-loop-a l = Trying (walked l.tower l.table l.rows) l.nodes l.pairs l.i l.room l.a × (length l.sets ≡ length l.initial.sets) × (length l.room ≡ length l.initial.room)
