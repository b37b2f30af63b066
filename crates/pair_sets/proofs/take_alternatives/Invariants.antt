-- The loop keeps what `Taking` says: the first j are taken.
use Rattle.pair_sets.proofs.Taking.{Taking}
use Rattle.pair_sets.proofs.take_alternatives.Given as goal

abbrev pub invariant-loop-j : goal.invariant-loop-j
invariant-loop-j l = Taking l.cells l.initial.entries l.t l.room l.at l.count l.j l.entries
