-- `why_path::note_all` meets its contract.
-- The invariant: the steps of the pairs from the counter on are noted. The measure: the counter.
use Prim.Native.Nat.{◌*◌}
use Rattle.why_path.proofs.Noting.{NotingBack}
use Rattle.why_path.proofs.note_all.Given as goal

abbrev pub invariant-loop-i : goal.invariant-loop-i
invariant-loop-i l = NotingBack l.n l.actions l.graph (16 * l.n) (16 * l.i) l.initial.ways l.ways
