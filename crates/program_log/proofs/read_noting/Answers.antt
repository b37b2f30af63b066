use Rattle.std.proofs.Common.{rules}
use Rattle.log_course.proofs.Laws.{first_on_row}
use Rattle.program_log.proofs.Ways.{parts_start}
use Rattle.program_log.proofs.read_noting.Goals as goal

pub loop-turns-init : goal.loop-turns-init
loop-turns-init g c = search (rules, parts_start, first_on_row)
