-- `file_kinds::controllable` meets its contract.
use Rattle.file_kinds.proofs.Ways.{ours_only}
use Rattle.file_kinds.proofs.controllable.Goals as goal

pub returns : goal.returns
returns c = ours_only _
