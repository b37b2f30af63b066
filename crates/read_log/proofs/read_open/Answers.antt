use Rattle.std.proofs.Common.{rules}
use Rattle.program_log.proofs.Laws.{part_within}
use Rattle.read_log.proofs.read_open.Goals as goal

ruleset all = (rules, part_within)

pub slice_bounds-part-end : goal.slice_bounds-part-end
slice_bounds-part-end g c = search all
