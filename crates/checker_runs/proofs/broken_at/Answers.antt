-- `checker_runs::broken_at` meets its contract.
use Rattle.checker_runs.proofs.Ways.{broken_read}
use Rattle.checker_runs.proofs.broken_at.Goals as goal

pub returns : goal.returns
returns c = broken_read _ _ _ _ c.move_number.ensures
