-- `program_log::keep` meets its contract.
use Rattle.program_log.proofs.Ways.{moved_there}
use Rattle.program_log.proofs.keep.Goals as goal

pub returns : goal.returns
returns c = moved_there _ _ _ _ c.copy_within.ensures.by_index.0
