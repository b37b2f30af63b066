-- `why_path::write_way` meets its contract.
-- The invariant: the run is written from its end to the place at hand, and that to the pair at hand is left. The measure: the pair.
use Rattle.why_path.proofs.Writing.{WritingBack}
use Rattle.why_path.proofs.write_way.Given as goal

abbrev pub invariant-loop-j : goal.invariant-loop-j
invariant-loop-j l = WritingBack l.ways l.i l.initial.list l.list l.j l.k

abbrev pub decreases-loop-j : goal.decreases-loop-j
decreases-loop-j l = l.j
