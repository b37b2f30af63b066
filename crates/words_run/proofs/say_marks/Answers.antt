use Rattle.std.proofs.Common.{rules}
use Rattle.file_tower.proofs.Laws.{marks_few}
use Rattle.words_run.proofs.say_marks.Goals as goal

ruleset all = (rules, marks_few)

pub loop-k-init : goal.loop-k-init
loop-k-init g c = search all
