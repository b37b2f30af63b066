use Rattle.std.proofs.Common.{rules}
use Rattle.program_run.proofs.Laws.{point_there, fewer_left}
use Rattle.words_run.proofs.say_run.Goals as goal

ruleset all = (rules, point_there, fewer_left)

pub loop-point-init : goal.loop-point-init
loop-point-init g c = search all

pub loop-point-smaller : goal.loop-point-smaller
loop-point-smaller g c = search all

pub loop-point-preserved : goal.loop-point-preserved
loop-point-preserved g c = search all
