-- `file_kinds::unknown` meets its contract.
use Rattle.file_kinds.proofs.Ways.{above_last}
use Rattle.file_kinds.proofs.unknown.Goals as goal

pub returns : goal.returns
returns c = above_last _
