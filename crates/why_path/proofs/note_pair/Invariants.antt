-- `why_path::note_pair` meets its contract.
-- The invariant: the steps from that of the counter on are noted. The measure: the counter.
use Prim.Native.Nat.{◌+◌, ◌*◌}
use Rattle.why_path.proofs.Noting.{NotingBack}
use Rattle.why_path.proofs.note_pair.Given as goal

abbrev pub invariant-loop-a : goal.invariant-loop-a
invariant-loop-a l = NotingBack l.n l.actions l.graph (16 * l.i + l.actions) (16 * l.i + l.a) l.initial.ways l.ways
