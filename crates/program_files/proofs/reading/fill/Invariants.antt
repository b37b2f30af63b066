-- The bytes read so far are inside the area.
use Rattle.std.proofs.Common.{◌≤◌, length}
use Rattle.program_files.proofs.reading.fill.Given as goal

abbrev pub invariant-loop : goal.invariant-loop
invariant-loop g l = l.done ≤ length l.buf
