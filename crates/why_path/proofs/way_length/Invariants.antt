-- `why_path::way_length` meets its contract.
-- The invariant: so many actions of the run are counted, and that to the pair at hand is left. The measure: the pair.
use Rattle.why_path.proofs.Writing.{CountingBack}
use Rattle.why_path.proofs.way_length.Given as goal

abbrev pub invariant-loop-j : goal.invariant-loop-j
invariant-loop-j l = CountingBack l.ways l.i l.j l.count

abbrev pub decreases-loop-j : goal.decreases-loop-j
decreases-loop-j l = l.j
