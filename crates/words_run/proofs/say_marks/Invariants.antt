-- A tower has at most 16 marks; fewer are left at each turn.
use Rattle.std.proofs.Common.{◌≤◌}
use Rattle.words_run.proofs.say_marks.Given as goal

abbrev pub invariant-loop-k : goal.invariant-loop-k
invariant-loop-k g l = l.marks ≤ 16
