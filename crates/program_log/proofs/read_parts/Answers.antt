use Rattle.log_course.proofs.Laws.{none_noted}
use Rattle.program_log.proofs.read_parts.Goals as goal

pub read_noting-requires-clause-noted : goal.read_noting-requires-clause-noted
read_noting-requires-clause-noted g c = search none_noted
