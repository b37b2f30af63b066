use Rattle.std.proofs.Common.{rules}
use Rattle.program_files.proofs.Laws.{contents_within, contents_taken}
use Rattle.program_log.proofs.Ways.{next_inside}
use Rattle.program_log.proofs.read_part.Goals as goal

ruleset all = (rules, contents_within, contents_taken)

pub slice_bounds-follow_lines-end : goal.slice_bounds-follow_lines-end
slice_bounds-follow_lines-end g c = search all

pub overflow_sub-bytes : goal.overflow_sub-bytes
overflow_sub-bytes g c = search (all, next_inside)

pub keep-left-requires-clause-from_le_end : goal.keep-left-requires-clause-from_le_end
keep-left-requires-clause-from_le_end g c = search (all, next_inside)
