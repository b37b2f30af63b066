-- The loop keeps what `Noting` says: the states before this position are written. Those that are left become fewer.
use Rattle.why_lines.proofs.Noting.{Noting}
use Rattle.why_lines.proofs.note_states.Given as goal

abbrev pub invariant-loop-i : goal.invariant-loop-i
invariant-loop-i l = Noting l.tower l.run l.n l.initial.states l.states l.x l.i
