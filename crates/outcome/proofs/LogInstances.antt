-- What the log reader says of short logs, by computing the definitions.
use mathlib.Core.Path.{refl}
use Rattle.base.specs.Answers.{log_said}
use Rattle.logic.specs.Time.{plus, after}
use Rattle.reading.specs.LogReading.{field_at, stroke_at, with_line, line_and, log_step, log_from, read_log}
use Rattle.outcome.specs.Log.{on_time, next_place, fits_or_fails, next_course, course_along, first_course, followed, log_after, logged_file, log_answer, log_outcome}
use Rattle.outcome.specs.SmallTower.{table_1}
use Rattle.outcome.specs.RefusalTable.{no_step, with_target}
use Rattle.outcome.specs.LogTable.{said_of, short_logs, LogTable}
use Rattle.outcome.proofs.ElevenOutcomes.{opened}

-- All of them.
pub log_table : LogTable
unfolding opened table_1 no_step with_target log_said plus after field_at stroke_at with_line line_and log_step log_from read_log on_time next_place fits_or_fails next_course course_along first_course followed log_after logged_file log_answer log_outcome said_of short_logs
log_table = record { along = refl; tower_first = refl; layout_first = refl; reason_first = refl }
